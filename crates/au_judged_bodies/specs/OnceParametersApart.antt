-- The names of parameters in a program of which no name is declared again.
use Rattle.std.specs.Prelude.{◌≡◌, ℕ, List, [], ◌∷◌, Some, slice_get}
use Rattle.au_syntax.specs.declared.modules.Part.{Part}
use Rattle.au_syntax.specs.Modules.{Header, class, function, function_body}
use Rattle.au_syntax.specs.Plain.{Bytes, PlainDeclaration}
use Rattle.au_modules.specs.Programs.{ModuleParts}
use Rattle.au_names.specs.Meanings.{part_of}
use Rattle.au_names.specs.Owned.{declarations_in}
use Rattle.au_rules.specs.Once.{AllNamesAreOnce}
use Rattle.au_safe_steps.specs.Orders.{AreApart}
use Rattle.au_judged_bodies.specs.OnceFieldsApart.{labels}

-- no two parameters of one method have one name
abbrev pub EachMethodIsApart : List (Header Bytes) → Type 0
EachMethodIsApart [] = Unit {0}
EachMethodIsApart (h ∷ rest) = AreApart (labels h.parameters) × EachMethodIsApart rest

-- No two parameters of a function have one name, nor of one method of a class.
abbrev pub ParametersAreApart : PlainDeclaration → Type 0
ParametersAreApart (function at generics h) = AreApart (labels h.parameters)
ParametersAreApart (function_body at generics h block stop) = AreApart (labels h.parameters)
ParametersAreApart (class at name p methods) = EachMethodIsApart methods
ParametersAreApart other = Unit {0}

-- Where no name of a program is declared again, it is so for each of its declarations.
abbrev pub ParametersAreOnce : Type 0
ParametersAreOnce =
    (program : List ModuleParts) → AllNamesAreOnce program
    → (place : ℕ) (m : ModuleParts) (part : Part) (i : ℕ)
    (d : PlainDeclaration) → slice_get program place ≡ Some m
    → slice_get (declarations_in (part_of part m)) i ≡ Some d → ParametersAreApart d
