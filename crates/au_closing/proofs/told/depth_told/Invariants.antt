use Rattle.std.proofs.Common.{◌≡◌, drop}
use Rattle.au_type_texts.specs.ClosedSizes.{depth_limit}
use Rattle.au_type_texts.specs.GivenViews.{given_said}
use Rattle.au_closing.specs.Told.{first_told}
use Rattle.au_closing.proofs.told.depth_told.Given as goal

-- what is left tells what all tells
abbrev pub invariant-loop-one : goal.invariant-loop-one
invariant-loop-one l = first_told depth_limit (given_said (drop l.one-index l.given)) ≡ first_told depth_limit
    (given_said l.given)
