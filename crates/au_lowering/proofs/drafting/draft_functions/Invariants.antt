use Rattle.std.proofs.Common.{◌≡◌, map, take}
use Rattle.au_closed_programs.specs.FunctionViews.{functions_said}
use Rattle.au_lowering.specs.Drafts.{drafted_from}
use Rattle.au_lowering.specs.Views.{rows_held}
use Rattle.au_lowering.specs.Closed.{body_seen}
use Rattle.au_lowering.specs.DraftViews.{all_said}
use Rattle.au_lowering.proofs.drafting.draft_functions.Given as goal

-- the functions so far
abbrev pub invariant-loop-one : goal.invariant-loop-one
invariant-loop-one l =
    all_said l.made.items
    ≡ map (drafted_from (map body_seen (functions_said l.functions.items)) (rows_held l.rows.rows.items))
    (map body_seen (functions_said (take l.one-index l.one-items)))
