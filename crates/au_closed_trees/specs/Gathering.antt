-- What is gathered of the closed declared types that occur in a program.
use Rattle.std.specs.Prelude.{◌≡◌, ℕ, true, List, [], Vec}
use Rattle.std.specs.Global.{Global}
use Rattle.std.specs.List.{list_any}
use Rattle.std.specs.Str.{bytes_eq}
use Rattle.au_graphs.specs.Reached.{adds}
use Rattle.au_type_texts.specs.Keys.{key_of}
use Rattle.au_type_texts.specs.Same.{same}
use Rattle.au_type_texts.specs.Types.{ClosedType}
use Rattle.au_closed_trees.specs.Occurring.{counts_in, occurring}

-- the declared types that occur in a closed type, in all arguments
abbrev pub parts_of : ClosedType → List ClosedType
parts_of = occurring (counts_in true [])

-- all that occur in a type with one of these keys stand among what was found
abbrev pub AreWhole : List ClosedType → List (Vec ℕ Global) → Type 0
AreWhole found keys =
    (of : ClosedType) → list_any (λ (key : Vec ℕ Global). bytes_eq (key_of of) key.items) keys ≡ true
    → adds same found (parts_of of) ≡ found
