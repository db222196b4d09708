use Rattle.std.proofs.Common.{◌≡◌, drop, []}
use Rattle.au_types.specs.Tables.{with_all}
use Rattle.au_names.specs.Meanings.{declared_by}
use Rattle.au_names.proofs.part_names.declarations.Given as goal

-- what is left to put comes to the same
abbrev pub invariant-loop-index : goal.invariant-loop-index
invariant-loop-index l =
    with_all l.places (declared_by (drop l.index l.table)) ≡ with_all [] (declared_by l.table)
