use Rattle.std.proofs.Common.{◌≡◌, drop}
use Rattle.au_instances.specs.Instances.{is_known}
use Rattle.au_instances.proofs.lacking.is_known.Given as goal

-- the constraints so far are others, so those that are left decide
abbrev pub invariant-loop-one : goal.invariant-loop-one
invariant-loop-one l = is_known l.known l.name l.class ≡ is_known (drop l.one-index l.known) l.name l.class
