use Rattle.std.proofs.Common.{◌≡◌, ◌+◌, ◌++◌, ℕ, List, drop, length}
use Rattle.au_closed_trees.specs.contracts.phase.ClosedTreesPhase.TheImpl.{ghosts as closed}
use Rattle.au_closed_trees.specs.TreeViews.{closed_note}
use Rattle.au_closed_meanings.specs.Surroundings.{view_in}
use Rattle.au_lowered.specs.Drafts.{Draft}
use Rattle.au_lowered.specs.Statements.{block}
use Rattle.au_lowering_expressions.specs.Views.{drafts_said, scope_said}
use Rattle.au_lowering_expressions.specs.Wrote.{wrote}
use Rattle.au_lowering_statements.specs.Ends.{AllBelow, Holed}
use Rattle.au_lowering_statements.specs.Views.{Begins, starts_said}
use Rattle.au_lowering_statements.proofs.BlockLemmas.{arms_left, tests_left}
use Rattle.au_lowering_statements.proofs.LoopLemmas.{begins_at}
use Rattle.au_syntax.specs.Views.{statement_all}
use Rattle.au_lowering_statements.proofs.statements.+write.Given as goal

-- what is written and what is left are all, and the variables round the block are kept
abbrev pub invariant-write_block-loop-one : goal.invariant-write_block-loop-one
invariant-write_block-loop-one g l =
    (Begins l.fn.scope l.scope)
    × (wrote (block (view_in (g.R.Lookup.round l.by.lookup.now)) l.by.around l.slot (scope_said l.scope)
    (statement_all closed (drop l.one-index l.one-items))) (drafts_said l.out.items)
    ≡ wrote (block (view_in (g.R.Lookup.round l.by.lookup.now)) l.by.around l.by.slot
    (scope_said l.fn.scope)
    (statement_all closed l.one-items)) (drafts_said l.fn.out.items))

-- where the tests that are left are written, all are
abbrev pub invariant-write_tests-loop-one : goal.invariant-write_tests-loop-one
invariant-write_tests-loop-one g l =
    (l.left + l.one-index ≡ length l.one-items)
    × ((l.scope ≡ l.fn.scope)
    × ((all : List ℕ) (after : List Draft)
    → Holed (tests_left (g.R.Lookup.round l.by.lookup.now) l.by.around l.by.slot
    (scope_said l.fn.scope) l.more
    (drop l.one-index l.one-items)) l.jumps.items (drafts_said l.out.items) all after
    → Holed (tests_left (g.R.Lookup.round l.by.lookup.now) l.by.around l.by.slot
    (scope_said l.fn.scope) l.more
    l.one-items) l.fn.jumps.items (drafts_said l.fn.out.items) all after))

-- where the arms that are left are written, all are, and they begin where these do
abbrev pub invariant-write_arms-loop-one : goal.invariant-write_arms-loop-one
invariant-write_arms-loop-one g l =
    (l.left + l.one-index ≡ length l.one-items)
    × ((l.scope ≡ l.fn.scope)
    × (((all : List ℕ) (after : List Draft)
    → Holed (arms_left (g.R.Lookup.round l.by.lookup.now) l.by.around l.by.slot (scope_said l.fn.scope)
    (closed_note l.note) (drop l.one-index l.one-items)) l.jumps.items (drafts_said l.out.items) all after
    → Holed (arms_left (g.R.Lookup.round l.by.lookup.now) l.by.around l.by.slot (scope_said l.fn.scope)
    (closed_note l.note) l.one-items) l.fn.jumps.items (drafts_said l.fn.out.items) all after)
    × (AllBelow l.fn.jumps.items (length (drafts_said l.fn.out.items))
    → AllBelow l.jumps.items (length (drafts_said l.out.items))
    × (starts_said l.starts.items
    ++ begins_at (g.R.Lookup.round l.by.lookup.now) l.by.around l.by.slot (scope_said l.fn.scope)
    (closed_note l.note) (drop l.one-index l.one-items) (length (drafts_said l.out.items))
    ≡ starts_said l.fn.starts.items
    ++ begins_at (g.R.Lookup.round l.by.lookup.now) l.by.around l.by.slot (scope_said l.fn.scope)
    (closed_note l.note) l.one-items (length (drafts_said l.fn.out.items))))))
