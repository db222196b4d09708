use Rattle.std.proofs.Common.{◌≡◌, drop}
use Rattle.au_types.specs.Views.{argument_all}
use Rattle.au_instances.specs.Forms.{all_stand}
use Rattle.au_instances.proofs.forms.all_stand.Given as goal

-- the type parameters so far stand among the arguments, so those that are left decide
abbrev pub invariant-loop-index : goal.invariant-loop-index
invariant-loop-index l = all_stand l.params (argument_all l.args) ≡ all_stand (drop l.index l.params)
    (argument_all l.args)
