-- Values of records and unions are made of values under way, and taken apart.
use Rattle.std.specs.Prelude.{◌≡◌, ℕ, ◌+◌, Bool, List, [], ◌∷◌, Option, Some, is_some, not}
use Rattle.au_effects.specs.Values.{Fields, no_fields, field_then, made}
use Rattle.au_places.specs.Memories.{Memory}
use Rattle.au_places.specs.Places.{Id, birth}
use Rattle.au_types.specs.Types.{Meaning}
use Rattle.au_memory.specs.Forests.{Core, Holds, Made, in_forest, in_list}
use Rattle.au_memory.specs.Loans.{Types, Table}
use Rattle.au_memory.specs.Shown.{AreDeclared}
use Rattle.au_memory.specs.Trees.{Value, in_birth}
use Rattle.au_lending.specs.Parting.{CasesAreAlone}

-- values come under way, the first one first, so the last is the newest
abbrev pub onto : Made → Made → Made
onto [] under = under
onto (v ∷ vs) under = onto vs (v ∷ under)

-- the fields that they make, and the types of these
abbrev pub fields_made : Made → Fields (List ℕ)
fields_made [] = no_fields
fields_made (v ∷ vs) = field_then v.0 (fields_made vs)

abbrev pub types_made : Made → List Meaning
types_made [] = []
types_made (v ∷ vs) = v.1 ∷ types_made vs

module _ (types : Types) (clock : ℕ) (scope act : ℕ → Bool) (hold : Holds) (type : ℕ → ℕ → Meaning)
    (vs under : Made) (s : Table) (m : Memory (List ℕ))
    (core : Core types clock scope act hold type (onto vs under) s m) where
  -- A value of a case has been made of the newest values under way: everything counts as it did, but for
  -- its birth.
  pub record RecordMade (t : Meaning) (tag : ℕ) (born : Option ℕ) : Type 0 where
    pub after : Core types clock scope act hold type ((made tag born (fields_made vs), t) ∷ under) s m
    pub counts : (id : Id)
        → in_forest id after.top after.forest + in_list id after.trees
        ≡ (in_forest id core.top core.forest + in_list id core.trees) + in_birth id born

  -- So it may be where they have the types of the fields, and it has a birth, of a number that is new,
  -- where its type isn't Free.
  abbrev pub RecordsAreMade : Type 0
  RecordsAreMade =
      (t : Meaning) (tag : ℕ) (born : Option ℕ) → types.fields t tag ≡ Some (types_made vs)
      → is_some born ≡ not (types.is_free t)
      → ((i : ℕ) → born ≡ Some i
      → in_forest (birth i) core.top core.forest + in_list (birth i) core.trees ≡ 0)
      → RecordMade t tag born

module _ (types : Types) (clock : ℕ) (scope act : ℕ → Bool) (hold : Holds) (type : ℕ → ℕ → Meaning)
    (v : Value) (t : Meaning) (under : Made) (s : Table) (m : Memory (List ℕ))
    (core : Core types clock scope act hold type ((v, t) ∷ under) s m) where
  -- The newest value is taken apart: it is one of a case, and its fields are under way instead.
  pub record RecordOpened : Type 0 where
    pub tag : ℕ
    pub born : Option ℕ
    pub parts : Made
    pub is_made : v ≡ made tag born (fields_made parts)
    pub fields : types.fields t tag ≡ Some (types_made parts)
    pub births : is_some born ≡ not (types.is_free t)
    pub after : Core types clock scope act hold type (onto parts under) s m
    pub counts : (id : Id)
        → (in_forest id after.top after.forest + in_list id after.trees) + in_birth id born
        ≡ in_forest id core.top core.forest + in_list id core.trees

  -- So it may be where its type has cases.
  abbrev pub RecordsOpen : Type 0
  RecordsOpen =
      AreDeclared types → CasesAreAlone types → (tag : ℕ) (of : List Meaning)
      → types.fields t tag ≡ Some of → RecordOpened
