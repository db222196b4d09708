use Rattle.std.proofs.Common.{◌≡◌, drop}
use Rattle.au_types.specs.Tables.{with_all}
use Rattle.au_names.specs.Methods.{methods_from, written_methods}
use Rattle.au_names.proofs.methods.put_methods.Given as goal

-- what is left to put comes to the same
abbrev pub invariant-loop-index : goal.invariant-loop-index
invariant-loop-index l =
    with_all l.table (methods_from l.index (written_methods (drop l.index l.one-items)))
    ≡ with_all l.fn.table (methods_from 0 (written_methods l.one-items))
