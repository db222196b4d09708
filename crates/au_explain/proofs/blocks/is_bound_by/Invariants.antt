use Rattle.std.proofs.Common.{◌≡◌, drop}
use Rattle.au_explain.specs.Mentions.{is_bound_by}
use Rattle.au_explain.specs.Said.{binds_said}
use Rattle.au_explain.proofs.blocks.is_bound_by.Given as goal

-- it is among those that are left, or among none
abbrev pub invariant-loop-one : goal.invariant-loop-one
invariant-loop-one l =
    is_bound_by l.x (binds_said (drop l.one-index l.one-items)) ≡ is_bound_by l.x (binds_said l.one-items)
