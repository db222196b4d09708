-- What the types of a program are: all that the memory of a running program asks of them.
use Rattle.std.specs.Prelude.{◌≡◌, ℕ, List, [], map, Some}
use Rattle.au_types.specs.declared.parameters.Parameter.{Parameter}
use Rattle.au_types.specs.declared.types.DeclAt.{DeclAt}
use Rattle.au_types.specs.Types.{Meaning, Arguments, named}
use Rattle.au_matching.specs.Bindings.{Bindings}
use Rattle.au_matching.specs.Fitting.{BindingsAreWellFormed}
use Rattle.au_matching.specs.Forming.{IsWellFormed}
use Rattle.au_running_types.specs.Running.{running}
use Rattle.au_memory.specs.Shown.{AreDeclared, AreLawful}
use Rattle.au_lending.specs.Buffers.{BuffersAreAlone}
use Rattle.au_lending.specs.Laws.{BoxesAreAlone}
use Rattle.au_lending.specs.Parting.{CasesAreAlone}
use Rattle.au_acting.specs.Granting.{GrantsAreAlone}
use Rattle.au_modules.specs.Programs.{ModuleParts}
use Rattle.au_names.specs.HeadsOf.{heads_of}
use Rattle.au_names.specs.Standing.{definition_of}
use Rattle.au_tables.specs.Tables.{BirthsAreShipped, DefinitionsFit, defined_fields, fields_in, types_of}

module _ (program : List ModuleParts) where
  -- Only declared types have fields, or are those of boxes, buffers, the terminal and the root.
  abbrev pub TypesAreDeclared : Type 0
  TypesAreDeclared = AreDeclared (types_of program)

  -- Records and unions, boxes, buffers, terminals and the root have types of their own.
  abbrev pub FormsAreAlone : Type 0
  FormsAreAlone =
      BirthsAreShipped program
      → BoxesAreAlone (types_of program) × BuffersAreAlone (types_of program)
      × CasesAreAlone (types_of program)
      × GrantsAreAlone (types_of program)

  -- Fields of Free types are Free, and what has births isn't.
  abbrev pub TypesAreLawful : Type 0
  TypesAreLawful = DefinitionsFit program → BirthsAreShipped program → AreLawful (types_of program)

  -- The fields of a type where it runs are those of the type as it is written, where they run.
  abbrev pub FieldsRun : Type 0
  FieldsRun =
      DefinitionsFit program
      → (params : List Parameter) (s : Bindings) (z : ℕ) (at : DeclAt) (args : Arguments) (tag : ℕ)
      (of : List Meaning)
      → BindingsAreWellFormed (heads_of program) params [] s
      → IsWellFormed (heads_of program) params (named at args)
      → defined_fields program args tag (definition_of program at) ≡ Some of
      → fields_in program (running s z (named at args)) tag ≡ Some (map (running s z) of)
