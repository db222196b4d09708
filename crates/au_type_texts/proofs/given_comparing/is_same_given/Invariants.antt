use Rattle.std.proofs.Common.{◌≡◌, drop}
use Rattle.au_type_texts.specs.Given.{same_given}
use Rattle.au_type_texts.specs.GivenViews.{given_said}
use Rattle.au_type_texts.proofs.given_comparing.is_same_given.Given as goal

-- those so far are the same, so those that are left decide
abbrev pub invariant-loop-index : goal.invariant-loop-index
invariant-loop-index l =
    same_given (given_said l.given) (given_said l.others)
    ≡ same_given (given_said (drop l.index l.given)) (given_said (drop l.index l.others))
