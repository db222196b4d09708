-- Instances: a function or a method of an instance of a class, with closed types for its type parameters.
use Rattle.std.specs.Prelude.{ℕ, zero, suc, ◌&&◌, Bool, if◌then◌else◌, List, [], ◌∷◌, Option, None, Some}
use Rattle.std.specs.Prelude.{length}
use Rattle.std.specs.Str.{bytes_eq}
use Rattle.au_syntax.specs.Plain.{Bytes}
use Rattle.au_types.specs.Rows.{same_place}
use Rattle.au_types.specs.Types.{Meaning}
use Rattle.au_names.specs.declared.targets.Target.{Target}
use Rattle.au_judged_types.specs.Bounds.{parameters}
use Rattle.au_type_texts.specs.Types.{ClosedType, named}
use Rattle.au_instances.specs.ClosedInstances.{types_in}
use Rattle.au_instances.specs.Forms.{arguments_of, type_name}
use Rattle.au_instances.specs.Rows.{Row}
use Rattle.au_closed_trees.specs.ClosedNotes.{Callee, constructor, instance, shipped}
use Rattle.au_type_texts.specs.Given.{Given, given_for, same_given}
use Rattle.au_closed_trees.specs.TypeNames.{listed, type_names}

-- An instance: of the function of a declaration, or of the method of a name in the instance of a class that
-- a declaration is, with the closed types that are given for its type parameters in declared order. A method
-- has those of its instance.
pub record Instance : Type 0 where
  pub of : Target
  pub given : Given

-- whether two instances are one
abbrev pub same_instance : Instance → Instance → Bool
same_instance a b =
    same_place a.of.at b.of.at && bytes_eq a.of.name b.of.name && same_given a.given b.given

-- the place of an instance in a list, and the place behind the last one where the list doesn't have it
abbrev pub place_in : Instance → List Instance → ℕ
place_in one [] = zero
place_in one (first ∷ all) = if same_instance one first then zero else suc (place_in one all)

-- the number of an instance, if there is one; where there is none, it is that behind the last one
abbrev pub number_in : List Instance → Option Instance → ℕ
number_in all None = length all
number_in all (Some one) = place_in one all

-- what a call leads to, with the number of the instance, if it leads to one
abbrev pub numbered : List Instance → Callee (Option Instance) → Callee ℕ
numbered all (instance one) = instance (number_in all one)
numbered all (constructor of tag) = constructor of tag
numbered all (shipped call) = shipped call

-- the instance that a call leads to, if it leads to one
abbrev pub instance_of : Callee (Option Instance) → List Instance
instance_of (instance (Some one)) = one ∷ []
instance_of other = []

-- ---- the instance of a method

-- the closed types in a closed type
abbrev pub types_within : ClosedType → List ClosedType
types_within (named at args) = listed args
types_within t = []

-- a name with a closed type before others, if there is the name
abbrev pub pair_before : Option Bytes → ClosedType → Given → Given
pair_before None t rest = rest
pair_before (Some name) t rest = (name, t) ∷ rest

-- each name among types, which are type parameters, with the closed type in its place
abbrev pub paired : List Meaning → List ClosedType → Given
paired [] list = []
paired (one ∷ others) [] = []
paired (one ∷ others) (t ∷ rest) = pair_before (type_name one) t (paired others rest)

-- what is given for these names alone, in their order
abbrev pub picked : Given → List Bytes → Given
picked pairs [] = []
picked pairs (name ∷ names) = (name, given_for pairs name) ∷ picked pairs names

-- what a row gives for its type parameters where its head becomes a closed type
abbrev pub given_of_row : Row → ClosedType → Given
given_of_row row t =
    picked (paired (types_in (arguments_of row.head)) (types_within t)) (type_names (parameters row.generics))

-- the instance of a method of a name, by the row of the instance of its class
abbrev pub method_at : Bytes → ClosedType → Row → Instance
method_at name t row =
    record { of = record { at = row.instance; name = name }; given = given_of_row row t }
