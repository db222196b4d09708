use Rattle.std.proofs.Common.{◌≡◌, drop}
use Rattle.au_types.specs.Views.{argument_all}
use Rattle.au_instances.specs.Forms.{are_closed}
use Rattle.au_instances.proofs.forms.+is_closed.Given as goal

-- the arguments so far are closed, so those that are left decide
abbrev pub invariant-are_closed-loop-one : goal.invariant-are_closed-loop-one
invariant-are_closed-loop-one l = are_closed (argument_all l.one-items)
    ≡ are_closed (argument_all (drop l.one-index l.one-items))
