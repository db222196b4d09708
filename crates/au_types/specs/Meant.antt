-- The type that a written type means, where it means one: each name means something there, types and
-- regions stand where they are wanted, and arguments fit in number.
use Rattle.std.specs.Prelude.{◌&&◌, List, [], ◌∷◌, Option, None, Some, if◌then◌else◌}
use Rattle.std.specs.Option.{option_map}
use Rattle.au_base.specs.declared.kinds.IntKind.TheVariants as kinds
use Rattle.au_syntax.specs.declared.declarations.Universe.{Universe}
use Rattle.au_syntax.specs.declared.declarations.Universe.TheVariants as universes
use Rattle.au_syntax.specs.declared.types.Access.{Access}
use Rattle.au_syntax.specs.declared.types.Access.TheVariants as access
use Rattle.au_syntax.specs.Plain.{Bytes}
use Rattle.au_syntax.specs.Types.{WrittenType, WrittenTypes, named, reference, no_types, types}
use Rattle.au_types.specs.declared.headings.Head.{Head}
use Rattle.au_types.specs.declared.parameters.Parameter.{Parameter}
use Rattle.au_types.specs.declared.types.DeclAt.{DeclAt}
use Rattle.au_types.specs.declared.types.Region.{Region}
use Rattle.au_types.specs.declared.types.Region.TheVariants as regions
use Rattle.au_types.specs.Same.{same, same_region}
use Rattle.au_types.specs.Types as mean
use Rattle.au_types.specs.Types.{Meaning, Argument, Arguments}
use Rattle.au_types.specs.Senses.{Sense, a_type, a_span, a_region, declared, sense_of}

-- a reference to a type in a region, where both mean something
abbrev pub refers : Access → Option Meaning → Option Region → Option Meaning
refers access.Read (Some t) (Some region) = Some (mean.reads t region)
refers access.Write (Some t) (Some region) = Some (mean.writes t region)
refers kind t region = None

-- one argument before others, where all mean something
abbrev pub followed : Option Argument → Option Arguments → Option Arguments
followed (Some one) (Some rest) = Some (mean.arguments one rest)
followed one rest = None

-- the region that a name means, where it means one
abbrev pub region_of : Option Sense → Option Region
region_of (Some (a_region region)) = Some region
region_of other = None

-- the type of texts, for the arguments of `Span` that it has
abbrev pub span_of : Option Meaning → Option Region → Option Meaning
span_of (Some t) (Some region) =
    if same t (mean.integer kinds.Nat8) && same_region region regions.Static then Some mean.text else None
span_of t region = None

-- what a written type means, where a type is wanted and where a region is
pub record Given : Type 0 where
  pub as_type : Option Meaning
  pub as_region : Option Region

-- a type that takes no arguments, with these
abbrev pub alone : Meaning → List Given → Option Meaning
alone t [] = Some t
alone t args = None

-- `Span` with these arguments
abbrev pub span_with : List Given → Option Meaning
span_with (t ∷ region ∷ []) = span_of t.as_type region.as_region
span_with args = None

-- an argument: a region where one is wanted, and else a type
abbrev pub argument_meant : Universe → Given → Option Argument
argument_meant universes.Region one = option_map mean.in_region one.as_region
argument_meant universe one = option_map mean.of_type one.as_type

-- arguments for type parameters, each in its place
abbrev pub arguments_meant : List Parameter → List Given → Option Arguments
arguments_meant [] [] = Some mean.no_arguments
arguments_meant (one ∷ others) (first ∷ rest) =
    followed (argument_meant one.universe first) (arguments_meant others rest)
arguments_meant expected args = None

-- what a name with this sense and these arguments means
abbrev pub applied : Option Sense → List Given → Option Meaning
applied (Some (a_type t)) args = alone t args
applied (Some a_span) args = span_with args
applied (Some (declared at expected)) args = option_map (mean.named at) (arguments_meant expected args)
applied other args = None

module _ (opened : List Bytes) (params : List Parameter) (visible : List (Bytes × DeclAt))
    (heads : List (DeclAt × Head)) where
  -- the region that a written type means: it's a name alone
  abbrev pub region_meant : WrittenType → Option Region
  region_meant (named name no_types) = region_of (sense_of opened params visible heads name.name)
  region_meant other = None

  unfoldable mutual
    -- a type
    pub meant : WrittenType → Option Meaning
    meant (named name args) = applied (sense_of opened params visible heads name.name) (all_given args)
    meant (reference at kind target region) =
        refers kind (meant target) (region_of (sense_of opened params visible heads region.name))

    -- arguments as they are given
    pub all_given : WrittenTypes → List Given
    all_given no_types = []
    all_given (types t rest) = record { as_type = meant t; as_region = region_meant t } ∷ all_given rest
