use Rattle.std.proofs.Common.{◌∙◌, map, ap, subst}
use Rattle.std.specs.Option.{option_copied, option_map}
use Rattle.au_typing.specs.ProgramSearch.{note_part}
use Rattle.au_judgements.specs.Refusing.{Judges}
use Rattle.au_modules.specs.declared.modules.Modules.{Modules}
use Rattle.au_modules.specs.Programs.{entry}
use Rattle.au_modules.specs.Slots.{file_at, modules}
use Rattle.au_typing.specs.Outsides.{outside_of}
use Rattle.au_noting_programs.specs.Said.{part_said}
use Rattle.au_noting_programs.proofs.noting.note_at.Goals as goal

pub returns : goal.returns
returns c =
    subst (Judges part_said c.note_part.result)
    (ap (λ seen. note_part seen (option_map entry (option_copied c.file_at-file.result))) c.sight-outside.ensures
    ∙ ap (note_part (outside_of (modules c.args.program.now) c.args.place c.args.part))
    (c.file_at-file.ensures ∙ ap (λ (m : Modules). file_at (map entry m.files.items) c.args.index)
    c.modules.ensures.kept))
    c.note_part.ensures
