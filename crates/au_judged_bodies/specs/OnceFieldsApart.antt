-- The names of fields and cases in a program of which no name is declared again.
use Rattle.std.specs.Prelude.{◌≡◌, ℕ, List, [], ◌∷◌, map, Some, slice_get}
use Rattle.au_syntax.specs.declared.modules.Part.{Part}
use Rattle.au_syntax.specs.Modules.{Variant, record_type, union_type}
use Rattle.au_syntax.specs.Plain.{Bytes, PlainDeclaration}
use Rattle.au_syntax.specs.Types.{Labelled}
use Rattle.au_modules.specs.Programs.{ModuleParts}
use Rattle.au_names.specs.Meanings.{part_of}
use Rattle.au_names.specs.Owned.{declarations_in}
use Rattle.au_rules.specs.Once.{AllNamesAreOnce}
use Rattle.au_safe_steps.specs.Orders.{AreApart}

-- the names of fields, or of parameters, and those of cases
abbrev pub labels : List (Labelled Bytes) → List Bytes
labels fields = map (λ (one : Labelled Bytes). one.name.name) fields

abbrev pub case_names : List (Variant Bytes) → List Bytes
case_names cases = map (λ (one : Variant Bytes). one.name.name) cases

-- no two fields of one case have one name
abbrev pub EachCaseIsApart : List (Variant Bytes) → Type 0
EachCaseIsApart [] = Unit {0}
EachCaseIsApart (v ∷ rest) = AreApart (labels v.fields) × EachCaseIsApart rest

-- No two cases of a declaration have one name, and no two fields of one case.
abbrev pub IsApart : PlainDeclaration → Type 0
IsApart (record_type at name params universe fields) = AreApart (labels fields)
IsApart (union_type at name params universe cases) = AreApart (case_names cases) × EachCaseIsApart cases
IsApart other = Unit {0}

-- Where no name of a program is declared again, it is so for each of its declarations.
abbrev pub FieldsAreOnce : Type 0
FieldsAreOnce =
    (program : List ModuleParts) → AllNamesAreOnce program
    → (place : ℕ) (m : ModuleParts) (part : Part) (i : ℕ)
    (d : PlainDeclaration) → slice_get program place ≡ Some m
    → slice_get (declarations_in (part_of part m)) i ≡ Some d → IsApart d
