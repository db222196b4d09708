use Rattle.std.proofs.Common.{◌≡◌, take}
use Rattle.au_type_texts.specs.Sizes.{counted}
use Rattle.au_type_texts.specs.ClosedSizes as sizes
use Rattle.au_type_texts.specs.Views.{closed_meanings}
use Rattle.au_type_texts.proofs.closed_limits.+nodes.Given as goal

-- the nodes of the types that are visited
abbrev pub invariant-list_nodes-loop-one : goal.invariant-list_nodes-loop-one
invariant-list_nodes-loop-one l = l.count ≡ counted (sizes.list_nodes (closed_meanings (take l.one-index l.one-items)))
