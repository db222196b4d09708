-- Tables by name: lists of names and values. The first pair with a name counts.
use Rattle.std.specs.Prelude.{◌≡◌, ℕ, List, map, Option, if◌then◌else◌}
use Rattle.std.specs.Map.{lookup}
use Rattle.std.specs.Str.{bytes_eq}

-- pairs of keys and values, as pairs of names and values
abbrev pub pairs_by : {K V : Type 0} → List (K × V) → (K → List ℕ) → List (List ℕ × V)
pairs_by pairs name_of = map (λ p. (name_of p.0, p.1)) pairs

module _ {V : Type 0} where
  -- the value of a name
  abbrev pub find : List ℕ → List (List ℕ × V) → Option V
  find name pairs = lookup (bytes_eq name) pairs

  -- the second pairs are the first, but that the name has this value, or none
  abbrev pub Changes : List (List ℕ × V) → List (List ℕ × V) → List ℕ → Option V → Type 0
  Changes old new name value =
      (x : List ℕ) → find x new ≡ (if bytes_eq name x then value else find x old)
