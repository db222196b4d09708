use Rattle.std.proofs.Common.{◌≡◌, drop, map}
use Rattle.au_syntax.specs.contracts.parsed.ParsedPhase.TheImpl.{ghosts as parsed}
use Rattle.au_syntax.specs.Plain.{plain_importing}
use Rattle.au_syntax.specs.Views.{importing}
use Rattle.au_types.specs.Tables.{with_all}
use Rattle.au_names.specs.Along.{AreAlong}
use Rattle.au_names.specs.Importing.{imported}
use Rattle.au_names.specs.Sources.{modules_of}
use Rattle.au_names.proofs.imports.put_each.Given as goal

-- what is left to put comes to the same, and what has come along is in the table
abbrev pub invariant-loop-import : goal.invariant-loop-import
invariant-loop-import l = record {
  left : with_all l.table (imported l.space (modules_of l.source) l.place
      (map (plain_importing parsed.name_bytes) (map (importing parsed) (drop l.import-index l.import-items))))
      ≡ with_all l.fn.table (imported l.space (modules_of l.source) l.place
      (map (plain_importing parsed.name_bytes) (map (importing parsed) l.import-items)));
  done : AreAlong (modules_of l.source) l.done l.table;
}
