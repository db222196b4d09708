use Rattle.std.proofs.Common.{◌≡◌, take}
use Rattle.au_types.specs.Tables.{with_all}
use Rattle.au_types.specs.DeclaredNames.{given, case_names}
use Rattle.au_types.proofs.declared_names.put_cases.Given as goal

-- the cases that are visited have their names in the table
abbrev pub invariant-loop-one : goal.invariant-loop-one
invariant-loop-one g l =
    l.table ≡ with_all l.fn.table (given l.number (case_names g.P.Phase (take l.one-index l.one-items)))
