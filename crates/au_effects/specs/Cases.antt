-- What a `case` tells apart: a value of a union, or one behind a reference.
use Rattle.std.specs.Prelude.{ℕ, zero, suc, ◌+◌, List, [], ◌∷◌, length, Option, Some, None}
use Rattle.au_effects.specs.Values.{Value, Place, made, reference, listed}
use Rattle.au_effects.specs.Parts.{along}
use Rattle.au_effects.specs.Worlds.{World, spends}
use Rattle.au_effects.specs.References.{referring, reference_along, read_behind}

-- references to so many fields of what a reference refers to, the first of which has this number
abbrev pub fields_behind : {T : Type 0} → ℕ × Place → ℕ → ℕ → List (Value T)
fields_behind one number zero = []
fields_behind one number (suc count) =
    referring (reference_along one (number ∷ [])) ∷ fields_behind one (number + 1) count

-- the number of the case of a value, and references to its fields
abbrev pub case_behind : {T : Type 0} → ℕ × Place → Value T → Option (ℕ × List (Value T))
case_behind one (made tag birth fields) = Some (tag, fields_behind one 0 (length (listed fields)))
case_behind one other = None

-- The number of the case of a value, and its fields: the value is consumed where it has a birth. Behind a
-- reference, its borrow is used, and in place of the fields there are references to them.
abbrev pub told_apart : {T B : Type 0} → Value T → World T B → Option ((ℕ × List (Value T)) × World T B)
told_apart (made tag birth fields) world = Some ((tag, listed fields), spends birth world)
told_apart (reference borrow place) world =
    along (read_behind (borrow, place) world) (λ pair.
    along (case_behind (borrow, place) pair.0) (λ parts. Some (parts, pair.1)))
told_apart other world = None
