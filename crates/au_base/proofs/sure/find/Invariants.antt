-- The file is the one that the rest of the files has.
use Rattle.std.proofs.Common.{◌≡◌, map, drop}
use Rattle.au_base.specs.Stored.{file_of, file_in}
use Rattle.au_base.proofs.sure.find.Given as goal

abbrev pub invariant-loop-file : goal.invariant-loop-file
invariant-loop-file l =
    file_in (map file_of (drop l.file-index l.files)) l.name ≡ file_in (map file_of l.files) l.name
