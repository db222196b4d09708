use Rattle.std.proofs.Common.{◌≡◌, drop}
use Rattle.au_types.specs.Views.{argument_all}
use Rattle.au_instances.specs.Forms.{stands_in}
use Rattle.au_instances.proofs.forms.stands_in.Given as goal

-- the arguments so far are other names, so those that are left decide
abbrev pub invariant-loop-one : goal.invariant-loop-one
invariant-loop-one l = stands_in l.name (argument_all l.args) ≡ stands_in l.name
    (argument_all (drop l.one-index l.args))
