-- When two things that are written in the two parts of a module agree: names by their bytes, classes and
-- types by what they mean there. Two that both mean nothing count as the same where they are written alike
-- or, for types, in any case.
use Rattle.std.specs.Prelude.{ℕ, Bool, true, false, ◌&&◌, List, [], ◌∷◌, map, Option, None, Some}
use Rattle.std.specs.Str.{bytes_eq}
use Rattle.au_syntax.specs.declared.declarations.Universe.{Universe}
use Rattle.au_syntax.specs.declared.declarations.Universe.TheVariants as universes
use Rattle.au_syntax.specs.declared.modules.Part.{Part}
use Rattle.au_syntax.specs.declared.modules.Part.TheVariants.{Interface, Body}
use Rattle.au_syntax.specs.Modules.{InUniverse, Constrained, Header}
use Rattle.au_syntax.specs.Names.{Placed}
use Rattle.au_syntax.specs.Plain.{Bytes}
use Rattle.au_syntax.specs.Types.{WrittenType, Labelled}
use Rattle.au_types.specs.declared.spaces.Space.TheVariants.{Types}
use Rattle.au_types.specs.Tables.{find}
use Rattle.au_types.specs.declared.headings.Head.{Head}
use Rattle.au_types.specs.declared.parameters.Parameter.{Parameter}
use Rattle.au_types.specs.declared.types.DeclAt.{DeclAt}
use Rattle.au_types.specs.Rows.{same_place}
use Rattle.au_types.specs.Same.{same}
use Rattle.au_types.specs.Types.{Meaning}
use Rattle.au_modules.specs.Programs.{ModuleParts}
use Rattle.au_names.specs.HeadsOf.{heads_of, parameter}
use Rattle.au_names.specs.Meanings.{declared_by, seen}
use Rattle.au_types.specs.Meant.{meant}

-- items of two lists agree, each with that in its place, and there are as many
unfoldable pub all_agree : {A B : Type 0} → (A → B → Bool) → List A → List B → Bool
all_agree agree [] [] = true
all_agree agree (x ∷ xs) (y ∷ ys) = agree x y && all_agree agree xs ys
all_agree agree xs ys = false

-- two universes
abbrev pub same_universe : Universe → Universe → Bool
same_universe universes.Free universes.Free = true
same_universe universes.Linear universes.Linear = true
same_universe universes.AnyType universes.AnyType = true
same_universe universes.Region universes.Region = true
same_universe a b = false

-- two types that are meant, if any are
abbrev pub same_meaning : Option Meaning → Option Meaning → Bool
same_meaning (Some a) (Some b) = same a b
same_meaning None None = true
same_meaning a b = false

-- two declarations that names mean, if they mean any, and else their bytes
abbrev pub same_declaration : Bytes → Bytes → Option DeclAt → Option DeclAt → Bool
same_declaration name other (Some a) (Some b) = same_place a b
same_declaration name other None None = bytes_eq name other
same_declaration name other a b = false

-- two names, as they are written
abbrev pub same_name : Placed Bytes → Placed Bytes → Bool
same_name a b = bytes_eq a.name b.name

-- two type parameters
abbrev pub same_parameter : InUniverse Bytes → InUniverse Bytes → Bool
same_parameter a b = same_name a.name b.name && same_universe a.universe b.universe

-- type parameters behind `generic`, as those of a scope
abbrev pub scope_of : List (Constrained Bytes) → List Parameter
scope_of generics = map (λ p. parameter p.parameter) generics

-- what is seen of a module: the names of types and classes that its interface and its body see, and the
-- rows of the declared types of the program
pub record Sight : Type 0 where
  pub interface : List (Bytes × DeclAt)
  pub body : List (Bytes × DeclAt)
  pub rows : List (DeclAt × Head)

-- the names of types and classes that a part of the module at a place sees
abbrev pub visible : List ModuleParts → ℕ → ModuleParts → Part → List (Bytes × DeclAt)
visible program place m part = declared_by (seen Types program place m part)

-- what is seen of the module at a place
abbrev pub sight_of : List ModuleParts → ℕ → ModuleParts → Sight
sight_of program place m = record {
  interface = visible program place m Interface;
  body = visible program place m Body;
  rows = heads_of program;
}

module _ (sight : Sight) where
  -- a name of the interface and one of the body are of one class
  abbrev pub same_class : Placed Bytes → Placed Bytes → Bool
  same_class a b = same_declaration a.name b.name (find a.name sight.interface) (find b.name sight.body)

  -- a written type of the interface and one of the body, each with its type parameters, mean one type
  abbrev pub same_type : List Parameter → WrittenType → List Parameter → WrittenType → Bool
  same_type scope t other u = same_meaning (meant [] scope sight.interface sight.rows t)
      (meant [] other sight.body sight.rows u)

  -- two type parameters behind `generic`, with the classes of their constraints in order
  abbrev pub same_generic : Constrained Bytes → Constrained Bytes → Bool
  same_generic a b = same_parameter a.parameter b.parameter && all_agree same_class a.classes b.classes

  -- two parameters of functions
  abbrev pub same_labelled : List Parameter → List Parameter → Labelled Bytes → Labelled Bytes → Bool
  same_labelled scope other a b = same_name a.name b.name && same_type scope a.of other b.of

  -- the parameters and the results of two functions, each with its type parameters
  abbrev pub same_signature : List Parameter → Header Bytes → List Parameter → Header Bytes → Bool
  same_signature scope h other k = all_agree (same_labelled scope other) h.parameters k.parameters
      && same_type scope h.result other k.result

  -- two functions: their type parameters, parameters and results
  abbrev pub same_function : List (Constrained Bytes) → Header Bytes → List (Constrained Bytes)
      → Header Bytes → Bool
  same_function generics h others k = all_agree same_generic generics others
      && same_signature (scope_of generics) h (scope_of others) k
