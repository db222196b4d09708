-- What is known of tables of instances.
use Rattle.std.specs.Prelude.{◌≡◌, List, [], Option, None, Some, IsTrue}
use Rattle.std.specs.List.{flat_map}
use Rattle.au_types.specs.declared.headings.Head.{Head}
use Rattle.au_types.specs.declared.parameters.Parameter.{Parameter}
use Rattle.au_types.specs.declared.types.DeclAt.{DeclAt}
use Rattle.au_types.specs.Types.{Meaning, Argument, of_type, in_region}
use Rattle.au_matching.specs.Bindings.{Bindings, value_of}
use Rattle.au_type_texts.specs.Closing.{closed}
use Rattle.au_type_texts.specs.Types.{ClosedType}
use Rattle.au_syntax.specs.Plain.{Bytes}
use Rattle.au_instances.specs.ClosedInstances.{ClosedHolds}
use Rattle.au_instances.specs.Instances.{Known, is_known}
use Rattle.au_instances.specs.Pairs.{Pair, constraints_of, pairs}
use Rattle.au_instances.specs.Rows.{Row}

module _ (rows : List Row) (heads : List (DeclAt × Head)) (scope : List Parameter) where
  -- the pairs that come from a class at the value of a type parameter; a region has none
  abbrev pub pairs_at : Option Argument → DeclAt → List Pair
  pairs_at None class = []
  pairs_at (Some (of_type t)) class = pairs rows heads scope t class
  pairs_at (Some (in_region region)) class = []

  -- the pairs that come from the constraints of a row, whose parameters have these values
  abbrev pub pairs_below : Row → Bindings → List Pair
  pairs_below row s = flat_map (λ one. pairs_at (value_of one.0 s) one.1) (constraints_of row.generics)

-- the values of a substitution meet the known constraints of type parameters: a class that constrains a name
-- holds of what the name's value closes to
abbrev pub ValuesMeet : List Row → List (DeclAt × Head) → Known → Bindings → Type 0
ValuesMeet rows heads known s =
    (name : Bytes) (wanted : DeclAt) (value : Meaning) (part : ClosedType)
    → IsTrue (is_known known name wanted)
    → value_of name s ≡ Some (of_type value)
    → closed value ≡ Some part
    → ClosedHolds rows heads wanted part
