use Rattle.std.proofs.Common.{◌≡◌}
use Rattle.au_lowered.specs.Statements.{labels_of}
use Rattle.au_lowering_statements.specs.Views.{starts_said}
use Rattle.au_lowering_statements.proofs.arms.labels_of.Given as goal

-- the labels of the cases so far
abbrev pub invariant-loop-tag : goal.invariant-loop-tag
invariant-loop-tag l = l.labels.items ≡ labels_of l.tag (starts_said l.starts.items)
