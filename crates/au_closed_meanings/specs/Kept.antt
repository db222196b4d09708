-- When closing keeps the meaning of a program.
use Rattle.std.specs.Prelude.{◌≡◌, ℕ, Bool, true, List, [], ◌∷◌, Some, Contains, slice_get}
use Rattle.au_syntax.specs.Plain.{Bytes}
use Rattle.au_type_texts.specs.Types.{ClosedType}
use Rattle.au_modules.specs.Programs.{ModuleParts}
use Rattle.au_typing.specs.Trees.{NotedParts}
use Rattle.au_closed_trees.specs.ClosedNotes.{ClosedNote, ClosedStatements}
use Rattle.au_closed_trees.specs.Notes.{said_in_block}
use Rattle.au_closed_meanings.specs.Agreement.{FieldsCount, FoundCount, ReferencesCount}
use Rattle.au_closing.specs.Closes.{ClosedFunction, ClosesFunctions}
use Rattle.au_closing.specs.Instances.{Instance}
use Rattle.au_meaning.specs.Views.{Field}
use Rattle.au_meaning.specs.Meanings.{mean}
use Rattle.au_closed_meanings.specs.Surroundings.{Surroundings}
use Rattle.au_closed_meanings.specs.Closed.{closed_functions, names_at, parameters_seen, surroundings_of}
use Rattle.au_closed_meanings.specs.Generic.{fields_in, generic_functions, linear_in, tag_in}

-- instances of a list number their names as the functions in their places do
abbrev pub NumberAlike : List Instance → (Instance → ℕ) → (ℕ → ℕ) → Type 0
NumberAlike all first numbers =
    (place : ℕ) (one : Instance) → slice_get all place ≡ Some one → first one ≡ numbers place

-- the types that are noted in a closed tree
abbrev pub types_noted : ClosedStatements → List ClosedType
types_noted = said_in_block (λ (n : ClosedNote). n.of ∷ [])

-- a type has a case
abbrev pub HasCase : List ModuleParts → ClosedType → Type 0
HasCase program of = (tag : ℕ) × (all : List Field) × (fields_in program of tag ≡ Some all)

-- What is known round closed trees is what the program itself says, in each module and of each type that
-- counts; whether a type is linear matters only where it has a case.
pub record SaysWhatIs (known : ClosedType → Bool) (program : List ModuleParts)
    (functions : List ClosedFunction)
    (round : Bytes → Surroundings) : Type 0 where
  pub parameters : (home : Bytes) (number : ℕ) → (round home).parameters number ≡ names_at functions number
  pub homes : (home : Bytes) → (round home).home ≡ home
  pub tags : (home : Bytes) (of : ClosedType) → known of ≡ true → (name : Bytes)
      → (round home).tag of name ≡ tag_in program of name
  pub fields : (home : Bytes) (of : ClosedType) → known of ≡ true → (tag : ℕ)
      → (round home).fields of tag ≡ fields_in program of tag
  pub linear : (home : Bytes) (of : ClosedType) → known of ≡ true → HasCase program of
      → (round home).is_linear of ≡ linear_in program of

-- The types of the parameters of closed functions count, those that are noted in their trees, and those of
-- the fields of a type that counts; and the type of a reference counts where that behind it does.
pub record TypesCount (known : ClosedType → Bool) (program : List ModuleParts)
    (functions : List ClosedFunction)
    : Type 0 where
  pub parameters : (number : ℕ) (f : ClosedFunction) → slice_get functions number ≡ Some f
      → FieldsCount known (parameters_seen f)
  pub notes : (number : ℕ) (f : ClosedFunction) → slice_get functions number ≡ Some f → (of : ClosedType)
      → Contains (types_noted f.body) of → known of ≡ true
  pub inside : (of : ClosedType) → known of ≡ true → (tag : ℕ) → FoundCount known (fields_in program of tag)
  pub references : ReferencesCount known

-- From an entry a program with notes does exactly what the program does that it closes to, on each input and
-- for each number of ticks. No premise says that it is typed: where no rule applies to the one, none applies
-- to the other.
abbrev pub KeepsMeaning : Type 0
KeepsMeaning =
    (program : List ModuleParts) (noted : List NotedParts) (entry : Instance)
    (functions : List ClosedFunction)
    → (closes : ClosesFunctions program noted entry functions)
    → (first : Instance → ℕ) (numbers : ℕ → ℕ)
    → NumberAlike closes.instances first numbers
    → (round : Bytes → Surroundings) (known : ClosedType → Bool)
    → SaysWhatIs known program functions round
    → TypesCount known program functions
    → (input : List ℕ) (ticks : ℕ)
    → mean (generic_functions program noted first) entry input ticks
    ≡ mean (closed_functions round functions numbers) 0 input ticks

-- what the program itself says is what is, where all types count
abbrev pub ProgramsSay : Type 0
ProgramsSay =
    (program : List ModuleParts) (functions : List ClosedFunction)
    → SaysWhatIs (λ of. true) program functions (surroundings_of program functions)
    × TypesCount (λ of. true) program functions
