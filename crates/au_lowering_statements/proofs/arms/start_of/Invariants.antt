use Rattle.std.proofs.Common.{◌≡◌, drop}
use Rattle.au_lowered.specs.Statements.{start_of}
use Rattle.au_lowering_statements.specs.Views.{starts_said}
use Rattle.au_lowering_statements.proofs.arms.start_of.Given as goal

-- no arm so far is that of the case, so those that are left decide
abbrev pub invariant-loop-one : goal.invariant-loop-one
invariant-loop-one l =
    start_of l.tag (starts_said (drop l.one-index l.one-items)) ≡ start_of l.tag (starts_said l.one-items)
