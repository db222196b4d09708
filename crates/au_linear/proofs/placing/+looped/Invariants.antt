use Rattle.std.proofs.Common.{◌≡◌, drop}
use Rattle.au_lives.specs.Places.{looped_in_block, looped_in_branches, looped_in_arms}
use Rattle.au_paths.specs.Seen.{seen_statements, seen_branches, seen_arms}
use Rattle.au_paths.specs.Standing.{hold_of}
use Rattle.au_linear.specs.Firsts.{first_of, sought_at}
use Rattle.au_linear.specs.declared.sought.Sought.TheVariants as soughts
use Rattle.au_linear.proofs.placing.+looped.Given as goal

-- what is left has the first place of all
abbrev pub invariant-looped_in_block-loop-one : goal.invariant-looped_in_block-loop-one
invariant-looped_in_block-loop-one g l =
    first_of (looped_in_block l.x (sought_at soughts.Consumption l.x l.sort)
    (seen_statements g.P.Phase (drop l.one-index l.one-items)) (hold_of l.held))
    ≡ first_of (looped_in_block l.x (sought_at soughts.Consumption l.x l.sort) (seen_statements g.P.Phase l.one-items)
    (hold_of l.fn.hold))

abbrev pub invariant-looped_in_branches-loop-one : goal.invariant-looped_in_branches-loop-one
invariant-looped_in_branches-loop-one g l =
    first_of (looped_in_branches l.x (sought_at soughts.Consumption l.x l.sort)
    (seen_branches g.P.Phase (drop l.one-index l.one-items)) (hold_of l.hold))
    ≡ first_of (looped_in_branches l.x (sought_at soughts.Consumption l.x l.sort) (seen_branches g.P.Phase l.one-items)
    (hold_of l.hold))

abbrev pub invariant-looped_in_arms-loop-one : goal.invariant-looped_in_arms-loop-one
invariant-looped_in_arms-loop-one g l =
    first_of (looped_in_arms l.x (sought_at soughts.Consumption l.x l.sort)
    (seen_arms g.P.Phase (drop l.one-index l.one-items)) (hold_of l.hold))
    ≡ first_of (looped_in_arms l.x (sought_at soughts.Consumption l.x l.sort) (seen_arms g.P.Phase l.one-items)
    (hold_of l.hold))
