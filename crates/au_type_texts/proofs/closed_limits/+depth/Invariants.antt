use Rattle.std.proofs.Common.{◌≡◌, take}
use Rattle.au_type_texts.specs.Sizes.{counted}
use Rattle.au_type_texts.specs.ClosedSizes as sizes
use Rattle.au_type_texts.specs.Views.{closed_meanings}
use Rattle.au_type_texts.proofs.closed_limits.+depth.Given as goal

-- the depth of the types that are visited
abbrev pub invariant-list_depth-loop-one : goal.invariant-list_depth-loop-one
invariant-list_depth-loop-one l =
    l.deepest ≡ counted (sizes.list_depth (closed_meanings (take l.one-index l.one-items)))
