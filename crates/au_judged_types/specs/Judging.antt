-- What a written type is judged to mean, or why it isn't well formed. Within a written type its name is
-- judged first, then the number of its arguments, then the arguments from left to right, each one whole, and
-- then whether they fit in universe, from left to right. Of a reference the type behind it is judged before
-- its region.
use Rattle.std.specs.Prelude.{◌&&◌, ◌==◌, List, [], ◌∷◌, length, Option, None, Some, if◌then◌else◌}
use Rattle.std.specs.Option.{option_or}
use Rattle.au_base.specs.declared.kinds.IntKind.TheVariants as kinds
use Rattle.au_syntax.specs.declared.declarations.Universe.{Universe}
use Rattle.au_syntax.specs.declared.declarations.Universe.TheVariants as universes
use Rattle.au_syntax.specs.declared.types.Access.{Access}
use Rattle.au_syntax.specs.declared.types.Access.TheVariants as access
use Rattle.au_syntax.specs.Plain.{Bytes}
use Rattle.au_syntax.specs.Types.{WrittenType, WrittenTypes, named, reference, no_types, types}
use Rattle.au_types.specs.declared.headings.Head.{Head}
use Rattle.au_types.specs.declared.parameters.Parameter.{Parameter}
use Rattle.au_types.specs.declared.types.DeclAt.{DeclAt}
use Rattle.au_types.specs.declared.types.Region.{Region}
use Rattle.au_types.specs.declared.types.Region.TheVariants as regions
use Rattle.au_types.specs.Same.{same, same_region}
use Rattle.au_types.specs.Types as mean
use Rattle.au_types.specs.Types.{Meaning, Argument, Arguments}
use Rattle.au_matching.specs.Universes.{is_free, is_linear, universe_of}
use Rattle.au_types.specs.Senses.{Sense, a_type, a_span, a_region, declared, sense_of}
use Rattle.au_judged_types.specs.Reasons.{Reason, unknown, number_wanted, region_wanted, not_free}
use Rattle.au_judged_types.specs.Reasons.{linear_wanted, Outcome, means, fails, kept, in_order, unless}

-- ---- where a region is wanted

-- a name
abbrev pub region_named : Bytes → Option Sense → Outcome Region
region_named name None = fails (unknown name)
region_named name (Some (a_region region)) = means region
region_named name (Some other) = fails region_wanted

-- a region with arguments: it takes none
abbrev pub region_with : Outcome Region → WrittenTypes → Outcome Region
region_with region no_types = region
region_with (means region) args = fails (number_wanted 0)
region_with (fails why) args = fails why

-- ---- arguments

-- what an argument comes to where a type is wanted, and where a region is
pub record Given : Type 0 where
  pub as_type : Outcome Meaning
  pub as_region : Outcome Region

-- an argument: a region where one is wanted, and else a type
abbrev pub argument_judged : Universe → Given → Outcome Argument
argument_judged universes.Region one = kept mean.in_region one.as_region
argument_judged universe one = kept mean.of_type one.as_type

-- as many arguments as there are type parameters, each in its place
abbrev pub arguments_judged : List Parameter → List Given → Outcome Arguments
arguments_judged (one ∷ others) (first ∷ rest) =
    in_order mean.arguments (argument_judged one.universe first) (arguments_judged others rest)
arguments_judged expected args = means mean.no_arguments

module _ (heads : List (DeclAt × Head)) (params : List Parameter) where
  -- why an argument doesn't fit a parameter in universe, if it doesn't
  abbrev pub unfit : Universe → Argument → Option Reason
  unfit universes.Free (mean.of_type t) =
      if is_free (universe_of heads params t) then None else Some (not_free t)
  unfit universes.Linear (mean.of_type t) =
      if is_linear (universe_of heads params t) then None else Some linear_wanted
  unfit universe one = None

  -- why the first of the arguments that don't fit doesn't
  abbrev pub first_unfit : List Parameter → Arguments → Option Reason
  first_unfit (one ∷ others) (mean.arguments first rest) =
      option_or (unfit one.universe first) (first_unfit others rest)
  first_unfit expected args = None

  -- a declared type with arguments that mean something
  abbrev pub fitted : DeclAt → List Parameter → Outcome Arguments → Outcome Meaning
  fitted at expected (means args) = unless (first_unfit expected args) (mean.named at args)
  fitted at expected (fails why) = fails why

  -- a declared type with arguments
  abbrev pub declared_judged : DeclAt → List Parameter → List Given → Outcome Meaning
  declared_judged at expected args =
      if length args == length expected
      then fitted at expected (arguments_judged expected args)
      else fails (number_wanted (length expected))

-- ---- where a type is wanted

-- a type that takes no arguments, with these
abbrev pub alone : Meaning → List Given → Outcome Meaning
alone t [] = means t
alone t args = fails (number_wanted 0)

-- `Span` with two arguments, which are those of the type of texts
abbrev pub span_of : Outcome Meaning → Outcome Region → Outcome Meaning
span_of (means t) (means region) =
    if same t (mean.integer kinds.Nat8) && same_region region regions.Static
    then means mean.text
    else fails (number_wanted 2)
span_of t region = fails (number_wanted 2)

-- `Span` with these arguments
abbrev pub span_with : List Given → Outcome Meaning
span_with (t ∷ region ∷ []) = span_of t.as_type region.as_region
span_with args = fails (number_wanted 2)

-- a name that has this sense, with these arguments
abbrev pub applied : List (DeclAt × Head) → List Parameter → Bytes → Option Sense → List Given →
    Outcome Meaning
applied heads params name (Some (a_type t)) args = alone t args
applied heads params name (Some a_span) args = span_with args
applied heads params name (Some (declared at expected)) args =
    declared_judged heads params at expected args
applied heads params name other args = fails (unknown name)

-- a reference to a type in a region
abbrev pub refers : Access → Meaning → Region → Meaning
refers access.Read t region = mean.reads t region
refers access.Write t region = mean.writes t region

module _ (opened : List Bytes) (params : List Parameter) (visible : List (Bytes × DeclAt))
    (heads : List (DeclAt × Head)) where
  -- a written type where a region is wanted: it's a name alone
  abbrev pub region_judged : WrittenType → Outcome Region
  region_judged (named name args) =
      region_with (region_named name.name (sense_of opened params visible heads name.name)) args
  region_judged other = fails region_wanted

  unfoldable mutual
    -- a written type where a type is wanted
    pub judged : WrittenType → Outcome Meaning
    judged (named name args) =
        applied heads params name.name (sense_of opened params visible heads name.name) (all_given args)
    judged (reference at kind target region) =
        in_order (refers kind) (judged target)
        (region_named region.name (sense_of opened params visible heads region.name))

    -- arguments as they are given
    pub all_given : WrittenTypes → List Given
    all_given no_types = []
    all_given (types t rest) =
        record { as_type = judged t; as_region = region_judged t } ∷ all_given rest
