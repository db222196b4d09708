use Rattle.std.proofs.Common.{◌≡◌, ◌≤◌, ◌+◌, drop, length}
use Rattle.au_lowered.specs.Programs.{most_instructions}
use Rattle.au_lowering.specs.Drafted.{all_drafts}
use Rattle.au_lowering.specs.DraftViews.{all_said}
use Rattle.au_lowering.proofs.functions.passes_limit.Given as goal

-- what is left of the limit, and the instructions that are left
abbrev pub invariant-loop-one : goal.invariant-loop-one
invariant-loop-one l =
    (l.left ≤ most_instructions)
    × (length (all_drafts (all_said (drop l.one-index l.one-items))) + most_instructions
    ≡ length (all_drafts (all_said l.one-items)) + l.left)
