use Rattle.std.proofs.Common.{◌≡◌, drop}
use Rattle.au_types.specs.Views.{argument_all}
use Rattle.au_instances.specs.Forms.{are_parameters}
use Rattle.au_instances.proofs.forms.are_parameters.Given as goal

-- the arguments so far are parameters, so those that are left decide
abbrev pub invariant-loop-one : goal.invariant-loop-one
invariant-loop-one l = are_parameters l.params (argument_all l.args) ≡ are_parameters l.params
    (argument_all (drop l.one-index l.args))
