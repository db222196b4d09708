use Rattle.std.proofs.Common.{◌≡◌, drop}
use Rattle.au_formed.specs.Fields.{first_above}
use Rattle.au_judged_types.specs.Views.{judged_in}
use Rattle.au_promises.specs.Said.{fields_said}
use Rattle.au_matching.specs.Universes.{universe_of}
use Rattle.au_formed.proofs.fields.first_above.Given as goal

-- what is first above in what is left is so in all
abbrev pub invariant-loop-one : goal.invariant-loop-one
invariant-loop-one l =
    first_above (judged_in l.scope) (universe_of l.scope.heads.now l.scope.params.now) l.universe
    (fields_said (drop l.one-index l.one-items))
    ≡ first_above (judged_in l.scope) (universe_of l.scope.heads.now l.scope.params.now) l.universe
    (fields_said l.one-items)
