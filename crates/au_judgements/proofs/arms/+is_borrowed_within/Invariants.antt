use Rattle.std.proofs.Common.{◌≡◌, drop}
use Rattle.au_typing.specs.Parts.{are_borrowed_within}
use Rattle.au_types.specs.Views.{argument_all}
use Rattle.au_judgements.proofs.arms.+is_borrowed_within.Given as goal

-- the region stands in no argument so far, so those that are left decide
abbrev pub invariant-are_borrowed_within-loop-one : goal.invariant-are_borrowed_within-loop-one
invariant-are_borrowed_within-loop-one l =
    are_borrowed_within (argument_all l.args.items) ≡ are_borrowed_within (argument_all (drop l.one-index l.one-items))
