-- What type parameters behind `generic` mean. Each name in a constraint has to mean a class, and no type
-- parameter with constraints may be a region.
use Rattle.std.specs.Prelude.{List, [], ◌∷◌, Bool, true, false, map, flat_map, if◌then◌else◌}
use Rattle.std.specs.Prelude.{Option, None, Some, is_some}
use Rattle.std.specs.Option.{option_or, option_to_list}
use Rattle.au_syntax.specs.declared.declarations.Universe.{Universe}
use Rattle.au_syntax.specs.declared.declarations.Universe.TheVariants as universes
use Rattle.au_syntax.specs.Modules.{Constrained, InUniverse}
use Rattle.au_syntax.specs.Names.{Placed}
use Rattle.au_syntax.specs.Plain.{Bytes}
use Rattle.au_types.specs.declared.headings.Head.{Head}
use Rattle.au_types.specs.declared.parameters.Parameter.{Parameter}
use Rattle.au_types.specs.declared.types.DeclAt.{DeclAt}
use Rattle.au_types.specs.Senses.{Sense, a_class, sense_of}
use Rattle.au_judged_types.specs.declared.reading.Meant.{Meant}
use Rattle.au_judged_types.specs.declared.reading.Meant.TheVariants.{Are, Fails}
use Rattle.au_judged_types.specs.declared.reading.Misfit.{Misfit}
use Rattle.au_judged_types.specs.declared.reading.Misfit.TheVariants.{NoClass, OfRegion}
use Rattle.au_judged_types.specs.Bounds.{Bounded}

-- a type parameter as it is written
abbrev pub parameter : InUniverse Bytes → Parameter
parameter p = record { name = p.name.name; universe = p.universe }

-- the type parameters as they are written
abbrev pub written_params : List (Constrained Bytes) → List Parameter
written_params written = map (λ p. parameter p.parameter) written

-- the class that a name with this sense means, if it means one
abbrev pub class_in : Option Sense → Option DeclAt
class_in (Some (a_class at)) = Some at
class_in sense = None

-- The class that a name means, if it means one: a declaration that is visible and isn't a declared type.
-- The names of these type parameters and those that are built in mean none.
abbrev pub class_meant :
    List Parameter → List (Bytes × DeclAt) → List (DeclAt × Head) → Bytes → Option DeclAt
class_meant params visible heads name = class_in (sense_of [] params visible heads name)

-- whether a type parameter of this universe with these constraints is a region that has any
abbrev pub is_constrained_region : Universe → List (Placed Bytes) → Bool
is_constrained_region universes.Region (one ∷ rest) = true
is_constrained_region universe classes = false

-- by the class that each name means, if it means one
module _ (class_of : Bytes → Option DeclAt) where
  -- what is wrong with a name in a constraint: that it means no class
  abbrev pub name_misfit : Placed Bytes → Option Misfit
  name_misfit one = if is_some (class_of one.name) then None else Some (NoClass one.at)

  -- what is wrong with the first name that means no class
  abbrev pub no_class : List (Placed Bytes) → Option Misfit
  no_class [] = None
  no_class (one ∷ rest) = option_or (name_misfit one) (no_class rest)

  -- What is wrong with a type parameter: that it is a region with constraints, or else the first name in
  -- its constraints that means no class.
  abbrev pub misfit_of : Constrained Bytes → Option Misfit
  misfit_of p =
      if is_constrained_region p.parameter.universe p.classes
      then Some (OfRegion p.parameter.name.at)
      else no_class p.classes

  -- what is wrong with the first type parameter with which anything is
  abbrev pub first_misfit : List (Constrained Bytes) → Option Misfit
  first_misfit [] = None
  first_misfit (p ∷ rest) = option_or (misfit_of p) (first_misfit rest)

  -- the classes that names mean, in order
  abbrev pub classes_meant : List (Placed Bytes) → List DeclAt
  classes_meant names = flat_map (λ one. option_to_list (class_of one.name)) names

  -- the classes that constrain a type parameter
  abbrev pub constraints : Constrained Bytes → List DeclAt
  constraints p = classes_meant p.classes

  -- the classes that the names in the constraints of each type parameter mean, if they mean any
  abbrev pub named_classes : List (Constrained Bytes) → List (List (Option DeclAt))
  named_classes written = map (λ p. map (λ one. class_of one.name) p.classes) written

  -- a type parameter with the classes of its constraints
  abbrev pub with_classes : Constrained Bytes → Bounded
  with_classes p = record { parameter = parameter p.parameter; classes = constraints p }

-- type parameters with their classes, unless something is wrong
abbrev pub judged : List Bounded → Option Misfit → Meant
judged generics None = Are generics
judged generics (Some found) = Fails found

-- What type parameters mean, among the names of types and classes that are visible and the rows of the
-- declared types. They are judged in the order of the text, and each before its constraints.
abbrev pub generics_meant :
    List (Bytes × DeclAt) → List (DeclAt × Head) → List (Constrained Bytes) → Meant
generics_meant visible heads written = by (class_meant (written_params written) visible heads)
  where
    by : (Bytes → Option DeclAt) → Meant
    by class_of = judged (map (with_classes class_of) written) (first_misfit class_of written)
