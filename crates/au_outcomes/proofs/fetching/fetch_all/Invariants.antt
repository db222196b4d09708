-- The files so far can be had, and no count rose.
use Rattle.std.proofs.Common.{◌≡◌, map, take}
use Rattle.std.specs.String.{string_bytes}
use Rattle.au_outcomes.specs.Halts.{AreFilesOf, bytes_in}
use Rattle.au_outcomes.proofs.fetching.fetch_all.Given as goal

abbrev pub invariant-loop-index : goal.invariant-loop-index
invariant-loop-index g l =
    AreFilesOf (g.S.Shelf.files l.fn.shelf) (map string_bytes (take l.index l.names)) (map bytes_in l.all.items)
    × (g.S.Shelf.files l.shelf ≡ g.S.Shelf.files l.fn.shelf)
    × (g.S.Shelf.faults l.shelf ≡ g.S.Shelf.faults l.fn.shelf)
    × (g.S.Shelf.misses l.shelf ≡ g.S.Shelf.misses l.fn.shelf)
