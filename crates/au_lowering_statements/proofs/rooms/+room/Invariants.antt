use Rattle.std.proofs.Common.{◌≡◌, drop, max}
use Rattle.au_closed_trees.specs.contracts.phase.ClosedTreesPhase.TheImpl.{ghosts as closed}
use Rattle.au_closed_trees.specs.TreeViews.{closed_note}
use Rattle.au_closed_meanings.specs.Surroundings.{view_in}
use Rattle.au_lowered.specs.Slots.{room_of_arms, room_of_block, room_of_tests}
use Rattle.au_syntax.specs.Views.{arm_all, branch_all, statement_all}
use Rattle.au_lowering_statements.proofs.rooms.+room.Given as goal

-- the most so far, and of what is left, is the most of all
abbrev pub invariant-room_of_block-loop-one : goal.invariant-room_of_block-loop-one
invariant-room_of_block-loop-one g l =
    max l.most (room_of_block (view_in (g.R.Lookup.round l.lookup)) l.slot
    (statement_all closed (drop l.one-index l.one-items)))
    ≡ room_of_block (view_in (g.R.Lookup.round l.lookup)) l.fn.slot (statement_all closed l.one-items)

abbrev pub invariant-room_of_tests-loop-one : goal.invariant-room_of_tests-loop-one
invariant-room_of_tests-loop-one g l =
    max l.most (room_of_tests (view_in (g.R.Lookup.round l.lookup)) l.slot
    (branch_all closed (drop l.one-index l.one-items)))
    ≡ room_of_tests (view_in (g.R.Lookup.round l.lookup)) l.slot (branch_all closed l.one-items)

abbrev pub invariant-room_of_arms-loop-one : goal.invariant-room_of_arms-loop-one
invariant-room_of_arms-loop-one g l =
    max l.most (room_of_arms (view_in (g.R.Lookup.round l.lookup)) l.slot (closed_note l.note)
    (arm_all closed (drop l.one-index l.one-items)))
    ≡ room_of_arms (view_in (g.R.Lookup.round l.lookup)) l.slot (closed_note l.note)
    (arm_all closed l.one-items)
