-- Where the innermost variable of each name stands, and what each variable hides.
use Rattle.std.specs.Prelude.{◌≡◌, ℕ, List, [], ◌∷◌, Option, None, Some, if◌then◌else◌, length, map, reverse}
use Rattle.std.specs.Str.{bytes_eq}
use Rattle.au_lowering_expressions.specs.declared.locals.Held.{Held}
use Rattle.au_lowering_expressions.specs.declared.locals.Local.{Local}
use Rattle.au_typing.specs.Places.{place_in}

-- variables alone
abbrev pub alone : List Held → List Local
alone all = map (λ (h : Held). h.one) all

-- of variables with the innermost first, how many are further out than the innermost one of a name, if one
-- has the name
abbrev pub place_of : List ℕ → List Held → Option ℕ
place_of name [] = None
place_of name (h ∷ rest) = if bytes_eq h.one.name name then Some (length rest) else place_of name rest

-- each variable tells the place of the one of its name that is next further out, and of no other
abbrev pub HideEachOther : List Held → Type 0
HideEachOther [] = Unit {0}
HideEachOther (h ∷ rest) = (h.hides ≡ place_of h.one.name rest) × HideEachOther rest

-- of variables with the innermost last: the table of places tells of each name its innermost variable, and
-- each variable what it hides
abbrev pub ArePlaced : List Held → List (List ℕ × Option ℕ) → Type 0
ArePlaced all places =
    HideEachOther (reverse all) × ((name : List ℕ) → place_in name places ≡ place_of name (reverse all))
