-- What the rules of typing ask by tests, as rules: that a written type is well formed and means a type, and
-- that what constrains the type parameters of what is called holds of what stands for them.
use Rattle.std.specs.Prelude.{◌≡◌, List, [], ◌∷◌, Contains, Option, Some, None, false}
use Rattle.au_base.specs.declared.kinds.IntKind.TheVariants.{Nat8}
use Rattle.au_base.specs.declared.places.Pos.{Pos}
use Rattle.au_syntax.specs.declared.declarations.Universe.{Universe}
use Rattle.au_syntax.specs.declared.declarations.Universe.TheVariants.{Region as a_region_parameter}
use Rattle.au_syntax.specs.declared.types.Access.{Access}
use Rattle.au_syntax.specs.Names.{Placed}
use Rattle.au_syntax.specs.Plain.{Bytes}
use Rattle.au_syntax.specs.Types.{WrittenType, WrittenTypes, named, reference, no_types, types}
use Rattle.au_types.specs.declared.parameters.Parameter.{Parameter}
use Rattle.au_types.specs.declared.types.DeclAt.{DeclAt}
use Rattle.au_types.specs.declared.types.Region.{Region}
use Rattle.au_types.specs.declared.types.Region.TheVariants.{Static}
use Rattle.au_types.specs.Types as mean
use Rattle.au_types.specs.Types.{Meaning, Arguments, of_type}
use Rattle.au_matching.specs.Bindings.{Bindings, value_of}
use Rattle.au_matching.specs.Forming.{IsWellFormed, wants_region}
use Rattle.au_types.specs.Senses.{Sense, a_type, a_span, a_region, declared, sense_of}
use Rattle.au_judged_types.specs.Judging.{refers}
use Rattle.au_instances.specs.Instances.{Holds, Known}
use Rattle.au_instances.specs.Pairs.{constraints_of}
use Rattle.au_typing.specs.Scopes.{Scope}
use Rattle.au_typing.specs.Lookups.{parameters_in}

-- ---- what a written type means

-- A written type is the name of a region, by what names mean.
pub data IsRegion (sense : Bytes → Option Sense) : WrittenType → Region → Type 0 where
  a_name : (name : Placed Bytes) (region : Region)
      → sense name.name ≡ Some (a_region region)
      → IsRegion sense (named name no_types) region

mutual
  -- A written type means a type, by what names mean: a name alone means a type that takes no arguments,
  -- `Span` of Nat8 and Static is the type of texts, a declared type has its arguments, and a reference refers
  -- to a type in a region.
  pub data Means (sense : Bytes → Option Sense) : WrittenType → Meaning → Type 0 where
    alone : (name : Placed Bytes) (t : Meaning)
        → sense name.name ≡ Some (a_type t)
        → Means sense (named name no_types) t
    span : (name : Placed Bytes) (of region : WrittenType)
        → sense name.name ≡ Some a_span
        → Means sense of (mean.integer Nat8)
        → IsRegion sense region Static
        → Means sense (named name (types of (types region no_types))) mean.text
    with_arguments : (name : Placed Bytes) (at : DeclAt) (params : List Parameter) (written : WrittenTypes)
        (args : Arguments)
        → sense name.name ≡ Some (declared at params)
        → MeanArguments sense params written args
        → Means sense (named name written) (mean.named at args)
    refers_to : (at : Pos) (access : Access) (target : WrittenType) (name : Placed Bytes) (t : Meaning)
        (region : Region)
        → Means sense target t
        → sense name.name ≡ Some (a_region region)
        → Means sense (reference at access target name) (refers access t region)

  -- Written types mean arguments for type parameters: as many, and each a region exactly where its parameter
  -- is one.
  pub data MeanArguments (sense : Bytes → Option Sense)
      : List Parameter → WrittenTypes → Arguments → Type 0 where
    none : MeanArguments sense [] no_types mean.no_arguments
    region_first : (p : Parameter) (params : List Parameter) (written : WrittenType) (rest : WrittenTypes)
        (region : Region) (args : Arguments)
        → p.universe ≡ a_region_parameter
        → IsRegion sense written region
        → MeanArguments sense params rest args
        → MeanArguments sense (p ∷ params) (types written rest) (mean.arguments (mean.in_region region) args)
    type_first : (p : Parameter) (params : List Parameter) (written : WrittenType) (rest : WrittenTypes)
        (t : Meaning) (args : Arguments)
        → wants_region p.universe ≡ false
        → Means sense written t
        → MeanArguments sense params rest args
        → MeanArguments sense (p ∷ params) (types written rest) (mean.arguments (mean.of_type t) args)

-- ---- in a scope

module _ (scope : Scope) where
  -- what names mean among types
  abbrev pub sense_in : Bytes → Option Sense
  sense_in = sense_of scope.regions (parameters_in scope) scope.outside.visible scope.outside.heads

  -- A written type is well formed and means this type.
  pub record IsFormed (written : WrittenType) (t : Meaning) : Type 0 where
    pub means : Means sense_in written t
    pub well_formed : IsWellFormed scope.outside.heads (parameters_in scope) t

  -- Each class that is wanted of a name holds of what the name stands for, if that is a type.
  abbrev pub AllHold : Bindings → Known → Type 0
  AllHold s wanted =
      (name : Bytes) (class : DeclAt) (t : Meaning) → Contains wanted (name, class)
      → value_of name s ≡ Some (of_type t)
      → Holds scope.outside.instances scope.outside.heads (parameters_in scope)
      (constraints_of scope.generics) class t
