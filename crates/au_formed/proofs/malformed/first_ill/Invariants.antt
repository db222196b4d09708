use Rattle.std.proofs.Common.{◌≡◌, drop}
use Rattle.au_formed.specs.Malformed.{malformed}
use Rattle.au_formed.specs.Said.{writings_said}
use Rattle.au_judged_types.specs.Views.{judged_in}
use Rattle.au_types.specs.WrittenViews.{sense_in}
use Rattle.au_formed.proofs.malformed.first_ill.Given as goal

-- what is first ill in what is left is so in all
abbrev pub invariant-loop-one : goal.invariant-loop-one
invariant-loop-one l =
    malformed (judged_in l.scope) (sense_in l.scope) (writings_said (drop l.one-index l.one-items))
    ≡ malformed (judged_in l.scope) (sense_in l.scope) (writings_said l.one-items)
