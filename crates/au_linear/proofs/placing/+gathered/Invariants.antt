use Rattle.std.proofs.Common.{◌≡◌, drop}
use Rattle.au_lives.specs.Places.{gathered_in_block, gathered_in_branches, gathered_in_arms}
use Rattle.au_paths.specs.Seen.{seen_statements, seen_branches, seen_arms}
use Rattle.au_paths.specs.Standing.{hold_of}
use Rattle.au_linear.specs.Firsts.{first_of, sought_at}
use Rattle.au_linear.proofs.placing.+gathered.Given as goal

-- what is left has the first place of all
abbrev pub invariant-gathered_in_block-loop-one : goal.invariant-gathered_in_block-loop-one
invariant-gathered_in_block-loop-one g l =
    first_of (gathered_in_block l.x (sought_at l.sought l.x l.sort)
    (seen_statements g.P.Phase (drop l.one-index l.one-items)) (hold_of l.held))
    ≡ first_of (gathered_in_block l.x (sought_at l.sought l.x l.sort) (seen_statements g.P.Phase l.one-items)
    (hold_of l.fn.hold))

abbrev pub invariant-gathered_in_branches-loop-one : goal.invariant-gathered_in_branches-loop-one
invariant-gathered_in_branches-loop-one g l =
    first_of (gathered_in_branches l.x (sought_at l.sought l.x l.sort)
    (seen_branches g.P.Phase (drop l.one-index l.one-items)) (hold_of l.hold))
    ≡ first_of (gathered_in_branches l.x (sought_at l.sought l.x l.sort) (seen_branches g.P.Phase l.one-items)
    (hold_of l.hold))

abbrev pub invariant-gathered_in_arms-loop-one : goal.invariant-gathered_in_arms-loop-one
invariant-gathered_in_arms-loop-one g l =
    first_of (gathered_in_arms l.x (sought_at l.sought l.x l.sort)
    (seen_arms g.P.Phase (drop l.one-index l.one-items)) (hold_of l.hold))
    ≡ first_of (gathered_in_arms l.x (sought_at l.sought l.x l.sort) (seen_arms g.P.Phase l.one-items)
    (hold_of l.hold))
