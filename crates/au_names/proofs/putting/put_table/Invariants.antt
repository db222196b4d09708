use Rattle.std.proofs.Common.{◌≡◌, drop}
use Rattle.au_types.specs.Tables.{with_all}
use Rattle.au_names.specs.Owned.{targets}
use Rattle.au_names.proofs.putting.put_table.Given as goal

-- what is left to put comes to the same
abbrev pub invariant-loop-index : goal.invariant-loop-index
invariant-loop-index l =
    with_all l.table (targets l.place (drop l.index l.names)) ≡ with_all l.fn.table (targets l.place l.names)
