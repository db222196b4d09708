use Rattle.std.proofs.Common.{◌≡◌, drop}
use Rattle.au_types.specs.Views.{argument_all}
use Rattle.au_instances.specs.Forms.{are_distinct}
use Rattle.au_instances.proofs.forms.are_distinct.Given as goal

-- none of the names so far stands again, so the arguments that are left decide
abbrev pub invariant-loop-index : goal.invariant-loop-index
invariant-loop-index l = are_distinct (argument_all l.args) ≡ are_distinct (argument_all (drop l.index l.args))
