use Rattle.std.proofs.Common.{◌≡◌, drop, map, Some}
use Rattle.std.specs.Prelude.{slice_get}
use Rattle.std.specs.List.{flat_map}
use Rattle.au_syntax.specs.contracts.parsed.ParsedPhase.TheImpl.{ghosts as parsed}
use Rattle.au_syntax.specs.Plain.{plain_renaming}
use Rattle.au_syntax.specs.Views.{renaming}
use Rattle.au_types.specs.Tables.{with_all}
use Rattle.au_modules.specs.Programs.{ModuleParts}
use Rattle.au_names.specs.Along.{AreAlong}
use Rattle.au_names.specs.Importing.{brought}
use Rattle.au_names.specs.Sources.{modules_of}
use Rattle.au_names.proofs.imports.put_items.Given as goal

-- what is left to put comes to the same, and what has come along is in the table
abbrev pub invariant-loop-item : goal.invariant-loop-item
invariant-loop-item l = record {
  left : (m : ModuleParts) → slice_get (modules_of l.source) l.other ≡ Some m
      → with_all l.table (flat_map (brought l.space l.other m)
      (map (plain_renaming parsed.name_bytes) (map (renaming parsed) (drop l.item-index l.item-items))))
      ≡ with_all l.fn.table (flat_map (brought l.space l.other m)
      (map (plain_renaming parsed.name_bytes) (map (renaming parsed) l.item-items)));
  done : AreAlong (modules_of l.source) l.done l.table;
}
