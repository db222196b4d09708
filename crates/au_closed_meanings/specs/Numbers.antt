-- The numbers of names: the names of a program are numbered by their declarations, in the order of the text.
use Rattle.std.specs.Prelude.{◌≡◌, ℕ, zero, suc, ◌+◌, ◌<◌, ◌≤◌, List, [], ◌∷◌, ◌++◌, length, map, take}
use Rattle.std.specs.Prelude.{Option, None, Some, slice_get, if◌then◌else◌}
use Rattle.std.specs.List.{flat_map}
use Rattle.au_syntax.specs.Modules.{function_body, instance_body}
use Rattle.au_syntax.specs.Plain.{Bytes}
use Rattle.au_modules.specs.Programs.{ModuleParts}
use Rattle.au_names.specs.declared.targets.Target.{Target}
use Rattle.au_names.specs.Standing.{Standing, standing_at}
use Rattle.au_typing.specs.Trees.{NotedDeclaration, NotedMethod, NotedParts}
use Rattle.au_closing.specs.Bodies.{BodyOf, body_at, body_of, body_of_parts, defining_index, is_method}
use Rattle.au_closing.specs.Bodies.{method_body}
use Rattle.au_closing.specs.Instances.{Instance}
use Rattle.au_meaning.specs.Names.{names_in_block}

-- ---- the bodies of a program

-- the bodies of a declaration and of a module that stands at a place, in the order of the text
abbrev pub bodies_in : ℕ → NotedDeclaration → List BodyOf
bodies_in place (function_body at generics h block stop) =
    record { place = place; generics = generics; header = h; block = block } ∷ []
bodies_in place (instance_body at generics class t methods) = map (method_body place generics) methods
bodies_in place other = []

abbrev pub bodies_of : ℕ → Option NotedParts → List BodyOf
bodies_of place m = flat_map (bodies_in place) (body_of_parts m)

-- of modules, the first of which stands at a place
abbrev pub bodies_from : ℕ → List NotedParts → List BodyOf
bodies_from place [] = []
bodies_from place (m ∷ rest) = bodies_of place (Some m) ++ bodies_from (place + 1) rest

-- of a program
abbrev pub bodies_written : List NotedParts → List BodyOf
bodies_written noted = bodies_from 0 noted

-- ---- where a body stands among them

-- the place of the first method of a name
abbrev pub method_place : Bytes → List NotedMethod → ℕ
method_place name [] = zero
method_place name (m ∷ rest) = if is_method name m then zero else suc (method_place name rest)

-- the place of what has a name among the bodies of a declaration
abbrev pub place_inside : Bytes → Option NotedDeclaration → ℕ
place_inside name (Some (instance_body at generics class t methods)) = method_place name methods
place_inside name other = 0

module _ (program : List ModuleParts) (noted : List NotedParts) where
  -- the place among all bodies of what has a name in the declaration of an index, in the module at a place
  abbrev pub place_behind : ℕ → Bytes → Option ℕ → ℕ
  place_behind place name None = 0
  place_behind place name (Some index) =
      length (bodies_from 0 (take place noted))
      + (length (flat_map (bodies_in place) (take index (body_at noted place)))
      + place_inside name (slice_get (body_at noted place) index))

  -- the same of what has a name in what defines a declaration, if it is found
  abbrev pub place_standing : Bytes → Option Standing → ℕ
  place_standing name None = 0
  place_standing name (Some d) = place_behind d.place name (defining_index program d d.part)

  -- the place among all bodies of that of a function or method
  abbrev pub body_place : Target → ℕ
  body_place target = place_standing target.name (standing_at program target.at)

-- ---- names

-- how many names a body has: its parameters, and what is declared in its block
abbrev pub names_of : BodyOf → ℕ
names_of b = length b.header.parameters + names_in_block b.block

-- how many bodies have
abbrev pub names_of_all : List BodyOf → ℕ
names_of_all [] = 0
names_of_all (b ∷ rest) = names_of b + names_of_all rest

-- how many the bodies before one have
abbrev pub names_before : List BodyOf → ℕ → ℕ
names_before bodies place = names_of_all (take place bodies)

module _ (program : List ModuleParts) (noted : List NotedParts) where
  -- The number of the first name of an instance: how many names stand before in the text of the program. So a
  -- number is one declaration of the text, and all instances of a function share it.
  abbrev pub first_name : Instance → ℕ
  first_name one = names_before (bodies_written noted) (body_place program noted one.of)

  -- the same of an instance that may be none, and of the instance of a number in a list
  abbrev pub first_of : Option Instance → ℕ
  first_of None = 0
  first_of (Some one) = first_name one

  abbrev pub numbers_of : List Instance → ℕ → ℕ
  numbers_of all number = first_of (slice_get all number)

-- ---- numbers that are apart

-- a number is that of a name of a body whose first name has a number
abbrev pub IsNameOf : BodyOf → ℕ → ℕ → Type 0
IsNameOf body first n = (first ≤ n) × (n < first + names_of body)

-- No number is that of two declarations of the text: instances that share the number of a name are of one
-- body, and its first name has one number in both.
abbrev pub NumbersApart : List ModuleParts → List NotedParts → (Instance → ℕ) → Type 0
NumbersApart program noted first =
    (one other : Instance) (n : ℕ) (body another : BodyOf)
    → body_of program noted one.of ≡ Some body → body_of program noted other.of ≡ Some another
    → IsNameOf body (first one) n → IsNameOf another (first other) n
    → (body ≡ another) × (first one ≡ first other)

-- ---- laws

-- At its place stands the body that a function or a method has.
abbrev pub BodiesStand : Type 0
BodiesStand =
    (program : List ModuleParts) (noted : List NotedParts) (target : Target) (body : BodyOf)
    → body_of program noted target ≡ Some body
    → slice_get (bodies_written noted) (body_place program noted target) ≡ Some body

-- The numbers of the names of a body are below those of each body that stands behind it: so no number is
-- that of two declarations.
abbrev pub NumbersAreApart : Type 0
NumbersAreApart =
    (bodies : List BodyOf) (place other : ℕ) (b : BodyOf) → place < other
    → slice_get bodies place ≡ Some b → names_before bodies place + names_of b ≤ names_before bodies other

-- the numbers of first names are apart
abbrev pub FirstNamesAreApart : Type 0
FirstNamesAreApart =
    (program : List ModuleParts) (noted : List NotedParts) → NumbersApart program noted
    (first_name program noted)
