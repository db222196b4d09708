use Rattle.std.proofs.Common.{◌≡◌, drop}
use Rattle.au_types.specs.Tables.{with_all}
use Rattle.au_names.specs.Defining.{wholes_from}
use Rattle.au_names.specs.Walks.{written_all}
use Rattle.au_names.proofs.definitions.put_wholes.Given as goal

-- what is left to put comes to the same
abbrev pub invariant-loop-index : goal.invariant-loop-index
invariant-loop-index l =
    with_all l.table (wholes_from l.index (written_all (drop l.index l.decl-items)))
    ≡ with_all l.fn.table (wholes_from 0 (written_all l.decl-items))
