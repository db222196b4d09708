-- What a substitution lists: names, each with the type or the region that it stands for.
use Rattle.std.specs.Prelude.{◌≡◌, ℕ, List, Option, Some, IsTrue}
use Rattle.std.specs.Cmp.Lexicographic.{slice_cmp}
use Rattle.std.specs.FinMap.Entries.{is_sorted, put}
use Rattle.std.specs.Map.{lookup}
use Rattle.std.specs.Ordering.{nat_cmp}
use Rattle.std.specs.Str.{bytes_eq}
use Rattle.au_types.specs.declared.types.Region.{Region}
use Rattle.au_types.specs.Types.{Meaning, Argument, of_type, in_region}

-- pairs of a name and what it stands for
abbrev pub Bindings : Type 0
Bindings = List (List ℕ × Argument)

-- what a name stands for: what the first pair of this name has, and none where no pair is of it
abbrev pub value_of : List ℕ → Bindings → Option Argument
value_of name pairs = lookup (bytes_eq name) pairs

-- each name stands once, and the names are ordered by their bytes
abbrev pub IsInOrder : Bindings → Type 0
IsInOrder pairs = IsTrue (is_sorted (slice_cmp nat_cmp) pairs)

-- the pairs with one more, in its place; a name that is listed stands for the new value from now on
abbrev pub with_pair : List ℕ → Argument → Bindings → Bindings
with_pair name value pairs = put (slice_cmp nat_cmp) name value pairs

-- the second list gives every name what the first one gives it, and may give more names something
abbrev pub Extends : Bindings → Bindings → Type 0
Extends first second =
    (name : List ℕ) (value : Argument) → value_of name first ≡ Some value → value_of name second ≡ Some value

-- a name stands for a type
abbrev pub GivesType : Bindings → List ℕ → Type 0
GivesType pairs name = (t : Meaning) × (value_of name pairs ≡ Some (of_type t))

-- a name stands for a region
abbrev pub GivesRegion : Bindings → List ℕ → Type 0
GivesRegion pairs name = (region : Region) × (value_of name pairs ≡ Some (in_region region))
