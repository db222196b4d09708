-- The first of several things that may be there.
use Rattle.std.specs.Prelude.{Bool, List, [], ◌∷◌, Option, None, Some, if◌then◌else◌}
use Rattle.std.specs.Option.{option_or}

-- the first that a function gives for the items of a list, in order
unfoldable pub first_of : {A B : Type 0} → (A → Option B) → List A → Option B
first_of f [] = None
first_of f (x ∷ xs) = option_or (f x) (first_of f xs)

-- this, where it is so
abbrev pub where_so : {A : Type 0} → Bool → A → Option A
where_so so x = if so then Some x else None
