-- What checked programs are, as the laws on running types ask it, and that accepted programs are checked.
use Rattle.std.specs.Prelude.{ℕ, List}
use Rattle.au_base.specs.Outside.{Files}
use Rattle.au_modules.specs.Programs.{ModuleParts}
use Rattle.au_closing_laws.specs.Accepted.{AreAcceptedAs}
use Rattle.au_closing_laws.specs.Programs.{program_modules}
use Rattle.au_closing_laws.specs.Trees.{ReadFile}
use Rattle.au_judged_bodies.specs.Trees.{NotedParts}
use Rattle.au_known_programs.specs.Programs.{DeclarationsFit}
use Rattle.au_judged_bodies.specs.OnceFieldsApart.{IsApart}
use Rattle.au_names.specs.Standing.{Standing, definition_of}
use Rattle.au_types.specs.declared.types.DeclAt.{DeclAt}
use Rattle.std.specs.Prelude.{◌≡◌, Some}
use Rattle.au_judged_programs.specs.CheckedChecked.{IsChecked}

-- An accepted program is checked, with its notes.
abbrev pub AcceptedAreChecked : Type 0
AcceptedAreChecked =
    (files : Files) (names all : List (List ℕ)) (reads : List ReadFile)
    (a : AreAcceptedAs files names all reads)
    → IsChecked (program_modules reads) a.noted

-- In a checked program each declaration is well made where it stands, and the type of each record and union
-- is one that it could write itself.
abbrev pub CheckedDeclarationsFit : Type 0
CheckedDeclarationsFit =
    (program : List ModuleParts) (noted : List NotedParts) → IsChecked program noted → DeclarationsFit program

-- In a checked program the cases of each definition, and the fields of each case, have names of their own.
abbrev pub CheckedDefinitionsAreApart : Type 0
CheckedDefinitionsAreApart =
    (program : List ModuleParts) (noted : List NotedParts) → IsChecked program noted
    → (at : DeclAt) (d : Standing)
    → definition_of program at ≡ Some d → IsApart d.says
