-- Where the innermost variable of each name stands, and what each variable hides.
use Rattle.std.specs.Prelude.{◌≡◌, ℕ, List, [], ◌∷◌, Option, None, Some, if◌then◌else◌, length, map}
use Rattle.std.specs.Str.{bytes_eq}
use Rattle.au_typing.specs.declared.variables.Held.{Held}
use Rattle.au_typing.specs.Variables.{variable_said}
use Rattle.au_typing.specs.Scopes.{Variable}
use Rattle.au_types.specs.Tables.{find}

-- ---- places by name

-- a place that may be kept, if one is
abbrev pub kept : Option (Option ℕ) → Option ℕ
kept None = None
kept (Some place) = place

-- the place that a name has in a table of places, if it has one
abbrev pub place_in : List ℕ → List (List ℕ × Option ℕ) → Option ℕ
place_in name places = kept (find name places)

-- the places after a name got this one, or none
abbrev pub placed : List ℕ → Option ℕ → (List ℕ → Option ℕ) → List ℕ → Option ℕ
placed name place before other = if bytes_eq name other then place else before other

-- ---- variables, of which the innermost comes first

-- how many variables are further out than the innermost one of a name, if one has the name
abbrev pub place_of : List ℕ → List Variable → Option ℕ
place_of name [] = None
place_of name (one ∷ rest) = if bytes_eq one.name name then Some (length rest) else place_of name rest

-- a variable, and the place of the one that it hides, if it hides one
abbrev pub held_said : Held → Variable × Option ℕ
held_said h = (variable_said h.one, h.hides)

-- variables alone
abbrev pub alone : List (Variable × Option ℕ) → List Variable
alone all = map (λ h. h.0) all

-- each variable tells the place of the one of its name that is next further out, and of no other
abbrev pub HideEachOther : List (Variable × Option ℕ) → Type 0
HideEachOther [] = Unit {0}
HideEachOther (h ∷ rest) = (h.1 ≡ place_of h.0.name (alone rest)) × HideEachOther rest

-- the table of places tells of each name its innermost variable, and each variable what it hides
abbrev pub ArePlaced : List (Variable × Option ℕ) → List (List ℕ × Option ℕ) → Type 0
ArePlaced all places =
    HideEachOther all × ((name : List ℕ) → place_in name places ≡ place_of name (alone all))
