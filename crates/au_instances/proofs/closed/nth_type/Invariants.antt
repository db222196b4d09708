use Rattle.std.proofs.Common.{◌≡◌, drop, slice_get}
use Rattle.au_types.specs.Views.{argument_all}
use Rattle.au_instances.specs.ClosedInstances.{types_in}
use Rattle.au_instances.proofs.closed.nth_type.Given as goal

-- so many of the types that are left stand before the one that is looked for
abbrev pub invariant-loop-one : goal.invariant-loop-one
invariant-loop-one l = slice_get (types_in (argument_all l.args)) l.place
    ≡ slice_get (types_in (argument_all (drop l.one-index l.args))) l.left
