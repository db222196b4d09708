-- Tables by name: lists of names and values, in which each name stands once.
use Rattle.std.specs.Prelude.{ℕ, Bool, not, List, [], ◌∷◌, ◌++◌, Option, is_some, filter, map, if◌then◌else◌}
use Rattle.std.specs.Map.{lookup}
use Rattle.std.specs.Str.{bytes_eq}

-- pairs of keys and values, as pairs of names and values
abbrev pub pairs_by : {K V : Type 0} → List (K × V) → (K → List ℕ) → List (List ℕ × V)
pairs_by pairs name_of = map (λ p. (name_of p.0, p.1)) pairs

module _ {V : Type 0} where
  -- the value of a name: that of the first pair with this name
  abbrev pub find : List ℕ → List (List ℕ × V) → Option V
  find name pairs = lookup (bytes_eq name) pairs

  -- whether a name stands in a list of pairs
  abbrev pub has_name : List ℕ → List (List ℕ × V) → Bool
  has_name name pairs = is_some (find name pairs)

  -- the pairs with one more at the end, unless its name stands among them
  unfoldable pub with_pair : List (List ℕ × V) → List ℕ → V → List (List ℕ × V)
  with_pair pairs name value = if has_name name pairs then pairs else pairs ++ (name, value) ∷ []

  -- the pairs after more are put, each unless its name stands among those before
  unfoldable pub with_all : List (List ℕ × V) → List (List ℕ × V) → List (List ℕ × V)
  with_all pairs [] = pairs
  with_all pairs (p ∷ ps) = with_all (with_pair pairs p.0 p.1) ps

  -- the pairs without those of a name
  abbrev pub without : List ℕ → List (List ℕ × V) → List (List ℕ × V)
  without name pairs = filter (λ p. not (bytes_eq name p.0)) pairs

  -- the first pair of each name, in order
  unfoldable pub firsts : List (List ℕ × V) → List (List ℕ × V)
  firsts [] = []
  firsts (p ∷ ps) = p ∷ without p.0 (firsts ps)
