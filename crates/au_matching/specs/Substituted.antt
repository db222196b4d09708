-- What a type becomes where all type parameters and regions that a list gives something are replaced at
-- once.
use Rattle.std.specs.Prelude.{◌≡◌, ℕ, List, Option, Some, None}
use Rattle.au_types.specs.declared.types.Region.{Region}
use Rattle.au_types.specs.declared.types.Region.TheVariants.{Static, Named, Anonymous}
use Rattle.au_types.specs.Types.{Meaning, Argument, Arguments, unit, truth, integer, text, parameter, named}
use Rattle.au_types.specs.Types.{reads, writes, of_type, in_region, no_arguments, arguments}
use Rattle.au_matching.specs.Bindings.{Bindings, value_of, GivesType, GivesRegion}

-- what stands for a type parameter: the type that its name is given, and itself where that is none
abbrev pub type_for : Option Argument → List ℕ → Meaning
type_for None name = parameter name
type_for (Some (of_type t)) name = t
type_for (Some (in_region region)) name = parameter name

-- what stands for a region of a name: the region that the name is given, and itself where that is none
abbrev pub region_for : Option Argument → List ℕ → Region
region_for None name = Named name
region_for (Some (of_type t)) name = Named name
region_for (Some (in_region region)) name = region

-- a region
abbrev pub region_substituted : Bindings → Region → Region
region_substituted s Static = Static
region_substituted s (Named name) = region_for (value_of name s) name
region_substituted s Anonymous = Anonymous

abbrev mutual
  -- a type
  pub substituted : Bindings → Meaning → Meaning
  substituted s unit = unit
  substituted s truth = truth
  substituted s (integer kind) = integer kind
  substituted s text = text
  substituted s (parameter name) = type_for (value_of name s) name
  substituted s (named of args) = named of (all_substituted s args)
  substituted s (reads to region) = reads (substituted s to) (region_substituted s region)
  substituted s (writes to region) = writes (substituted s to) (region_substituted s region)

  -- an argument
  pub argument_substituted : Bindings → Argument → Argument
  argument_substituted s (of_type t) = of_type (substituted s t)
  argument_substituted s (in_region region) = in_region (region_substituted s region)

  -- arguments in order
  pub all_substituted : Bindings → Arguments → Arguments
  all_substituted s no_arguments = no_arguments
  all_substituted s (arguments one rest) = arguments (argument_substituted s one) (all_substituted s rest)

-- R of a region, if it is a name
abbrev pub OfRegion : (List ℕ → Type 0) → Region → Type 0
OfRegion R Static = Unit {0}
OfRegion R (Named name) = R name
OfRegion R Anonymous = Unit {0}

abbrev mutual
  -- P of each type parameter of a type, and R of each region in it that is a name
  pub EachName : (List ℕ → Type 0) → (List ℕ → Type 0) → Meaning → Type 0
  EachName P R unit = Unit {0}
  EachName P R truth = Unit {0}
  EachName P R (integer kind) = Unit {0}
  EachName P R text = Unit {0}
  EachName P R (parameter name) = P name
  EachName P R (named of args) = EachNameOfAll P R args
  EachName P R (reads to region) = EachName P R to × OfRegion R region
  EachName P R (writes to region) = EachName P R to × OfRegion R region

  -- the same of an argument
  pub EachNameOf : (List ℕ → Type 0) → (List ℕ → Type 0) → Argument → Type 0
  EachNameOf P R (of_type t) = EachName P R t
  EachNameOf P R (in_region region) = OfRegion R region

  -- the same of arguments
  pub EachNameOfAll : (List ℕ → Type 0) → (List ℕ → Type 0) → Arguments → Type 0
  EachNameOfAll P R no_arguments = Unit {0}
  EachNameOfAll P R (arguments one rest) = EachNameOf P R one × EachNameOfAll P R rest

-- a list gives no type parameter of a type a region, and no region of it a type
abbrev pub Suits : Bindings → Meaning → Type 0
Suits s t = EachName (λ name. ¬ (GivesRegion s name)) (λ name. ¬ (GivesType s name)) t

-- a list gives each type parameter of a type a type, and each region of it that is a name a region
abbrev pub Fixes : Bindings → Meaning → Type 0
Fixes s t = EachName (GivesType s) (GivesRegion s) t

-- a list says nothing of the names in a type
abbrev pub SaysNothingOf : Bindings → Meaning → Type 0
SaysNothingOf s t = EachName (λ name. value_of name s ≡ None) (λ name. value_of name s ≡ None) t
