use Rattle.std.proofs.Common.{◌≡◌, drop, length}
use Rattle.au_lowering_expressions.specs.Views.{drafts_said}
use Rattle.au_lowering_statements.specs.Ends.{with_jumps}
use Rattle.au_lowering_statements.proofs.jumps.end_jumps.Given as goal

-- the jumps that are left are those of all, and as many instructions are there
abbrev pub invariant-loop-at : goal.invariant-loop-at
invariant-loop-at l =
    (length (drafts_said l.out.items) ≡ length (drafts_said l.fn.out.items))
    × (with_jumps (length (drafts_said l.fn.out.items)) (drop l.at-index l.at-items) (drafts_said l.out.items)
    ≡ with_jumps (length (drafts_said l.fn.out.items)) l.at-items (drafts_said l.fn.out.items))
