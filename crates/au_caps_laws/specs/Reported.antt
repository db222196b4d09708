-- What the report of a program says of what is born in its runs.
use Rattle.std.specs.Prelude.{◌≡◌, ℕ, List, Some, Contains}
use Rattle.au_base.specs.Outside.{Files}
use Rattle.au_syntax.specs.Plain.{Bytes}
use Rattle.au_type_texts.specs.Types.{ClosedType}
use Rattle.au_modules.specs.Programs.{ModuleParts}
use Rattle.au_names.specs.declared.targets.Target.{Target}
use Rattle.au_typing.specs.Trees.{NotedParts}
use Rattle.au_closing.specs.Instances.{Instance}
use Rattle.au_meaning.specs.Meanings.{mean}
use Rattle.au_closed_meanings.specs.Generic.{generic_functions}
use Rattle.au_accepted.specs.Accepted.{AreAcceptedAs}
use Rattle.au_accepted.specs.Programs.{program_modules}
use Rattle.au_accepted.specs.Trees.{ReadFile}
use Rattle.au_caps_text.specs.declared.reports.Report.{Report}
use Rattle.au_caps_text.specs.declared.reports.Row.{Row}
use Rattle.au_caps_lists.specs.Bodies.{Bodied}
use Rattle.au_caps.specs.Reports.{IsReportOf, IsRowOf}
use Rattle.au_caps_laws.specs.Births.{BirthsAreMade, IsRunFor, head_closed}
use Rattle.au_caps_laws.specs.Laws.{RunBearsWithin}

module _ (program : List ModuleParts) (noted : List NotedParts) where
  -- the head of a closed type, where it has one, stands in the row of the function or method that is run for
  -- a name in a declaration, among what it makes
  abbrev pub IsInRow : Report → Target → ClosedType → Type 0
  IsInRow report target of =
      (h : Bytes) → head_closed program of ≡ Some h
      → (b : Bodied) × (row : Row) × IsRunFor program noted target b × IsRowOf program noted b row
      × Contains report.rows row × Contains row.makes h

  -- In a run from an entry whatever is born but the root is of a type whose head, where it has one, stands in
  -- the entry's row in the report.
  abbrev pub RunsAreReported : Type 0
  RunsAreReported =
      (report : Report) → IsReportOf program noted report → (first : Instance → ℕ) (entry : Instance)
      (input : List ℕ) (ticks : ℕ)
      → RunBearsWithin (IsInRow report entry.of)
      (mean (generic_functions program noted first) entry input ticks).world.store.deeds

-- So it is in each accepted program.
abbrev pub AcceptedBirthsAreMade : Type 0
AcceptedBirthsAreMade =
    (files : Files) (names all : List (List ℕ)) (reads : List ReadFile)
    (a : AreAcceptedAs files names all reads)
    → BirthsAreMade (program_modules reads) a.noted

abbrev pub AcceptedRunsAreReported : Type 0
AcceptedRunsAreReported =
    (files : Files) (names all : List (List ℕ)) (reads : List ReadFile)
    (a : AreAcceptedAs files names all reads)
    → RunsAreReported (program_modules reads) a.noted
