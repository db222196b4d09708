use Rattle.std.proofs.Common.{◌≡◌, drop, map}
use Rattle.au_typing.specs.ProgramSearch.{note_modules}
use Rattle.au_modules.specs.Programs.{entry}
use Rattle.au_modules.specs.Slots.{modules, parts_at}
use Rattle.au_typing.specs.Outsides.{outside_of}
use Rattle.au_noting_programs.specs.Faults.{noting_of}
use Rattle.au_noting_programs.specs.Said.{modules_said}
use Rattle.au_noting_programs.proofs.ChainLemmas.{behind}
use Rattle.au_noting_programs.proofs.noting.note_modules.Given as goal

-- the modules so far are noted, before those that are left
abbrev pub invariant-loop-place : goal.invariant-loop-place
invariant-loop-place l =
    noting_of (modules l.program)
    ≡ behind (modules_said l.all.items)
    (note_modules (outside_of (modules l.program)) l.place
    (map (parts_at (map entry l.program.files.items)) (drop l.place l.slots)))
