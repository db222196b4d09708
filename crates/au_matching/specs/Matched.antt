-- Which substitution makes a pattern equal to a target.
use Rattle.std.specs.Prelude.{◌≡◌, ℕ, List, Bool, Option, Some, None, if◌then◌else◌}
use Rattle.au_types.specs.declared.types.Region.{Region}
use Rattle.au_types.specs.declared.types.Region.TheVariants.{Static, Named, Anonymous}
use Rattle.au_types.specs.Rows.{same_place}
use Rattle.au_types.specs.Same.{same, same_argument, same_region}
use Rattle.au_types.specs.Types.{Meaning, Argument, Arguments, unit, truth, integer, text, parameter, named}
use Rattle.au_types.specs.Types.{reads, writes, of_type, in_region, no_arguments, arguments}
use Rattle.au_matching.specs.Bindings.{Bindings, value_of, with_pair, Extends}
use Rattle.au_matching.specs.Substituted.{substituted, Fixes}

-- a list goes on from what is known so far, gives every name of the pattern something, and makes the
-- pattern equal to the target. Nothing is ever put into the target: where a name stands in both, it may
-- mean one thing in the pattern and another in the target.
pub record Makes (so_far : Bindings) (pattern target : Meaning) (s : Bindings) : Type 0 where
  pub extends : Extends so_far s
  pub fixes : Fixes s pattern
  pub equal : substituted s pattern ≡ target

-- the list, if a test holds
abbrev pub only_if : Bool → Bindings → Option Bindings
only_if test s = if test then Some s else None

-- the list with a name standing for this value, where it stands for nothing yet or for the same
abbrev pub bound : List ℕ → Argument → Option Argument → Bindings → Option Bindings
bound name value None s = Some (with_pair name value s)
bound name value (Some known) s = only_if (same_argument known value) s

-- two regions, of which a name in the first stands for the second
abbrev pub region_matched : Region → Region → Bindings → Option Bindings
region_matched Static r s = only_if (same_region Static r) s
region_matched (Named name) r s = bound name (in_region r) (value_of name s) s
region_matched Anonymous r s = only_if (same_region Anonymous r) s

-- what a second step makes of the list that a first step gave
abbrev pub and_then : Option Bindings → (Bindings → Option Bindings) → Option Bindings
and_then None step = None
and_then (Some s) step = step s

abbrev mutual
  -- the pattern and the target, walked together from left to right: the list that is gathered
  pub matched : Meaning → Meaning → Bindings → Option Bindings
  matched unit t s = only_if (same unit t) s
  matched truth t s = only_if (same truth t) s
  matched (integer kind) t s = only_if (same (integer kind) t) s
  matched text t s = only_if (same text t) s
  matched (parameter name) t s = bound name (of_type t) (value_of name s) s
  matched (named a args) (named b others) s = if same_place a b then all_matched args others s else None
  matched (reads p r) (reads t q) s = and_then (matched p t s) (region_matched r q)
  matched (writes p r) (writes t q) s = and_then (matched p t s) (region_matched r q)
  matched p t s = None

  -- the same of two arguments
  pub argument_matched : Argument → Argument → Bindings → Option Bindings
  argument_matched (of_type p) (of_type t) s = matched p t s
  argument_matched (in_region r) (in_region q) s = region_matched r q s
  argument_matched p t s = None

  -- the same of two lists of arguments, each with that in its place
  pub all_matched : Arguments → Arguments → Bindings → Option Bindings
  all_matched no_arguments no_arguments s = Some s
  all_matched (arguments p args) (arguments t others) s =
      and_then (argument_matched p t s) (all_matched args others)
  all_matched p t s = None
