-- Infinite types: those that lead back to themselves by what fields name.
use Rattle.std.specs.Prelude.{ℕ, zero, suc, Bool, ◌||◌, List, [], ◌∷◌, Option, None, Some, Contains, find}
use Rattle.std.specs.Prelude.{length, map, if◌then◌else◌}
use Rattle.std.specs.List.{list_any}
use Rattle.au_types.specs.declared.types.DeclAt.{DeclAt}
use Rattle.au_types.specs.Rows.{same_place}
use Rattle.au_formed.specs.declared.namings.Naming.{Naming}

-- the types that the fields of a type name: those of the first record or union that declares it
abbrev pub names_of : List Naming → DeclAt → List DeclAt
names_of [] a = []
names_of (n ∷ ns) a = if same_place a n.of then n.names else names_of ns a

-- a type names another in a field
abbrev pub Names : List Naming → DeclAt → DeclAt → Type 0
Names all a b = Contains (names_of all a) b

-- a type leads to another by what fields name
pub data Leads (all : List Naming) : DeclAt → DeclAt → Type 0 where
  directly : (a b : DeclAt) → Names all a b → Leads all a b
  onward : (a b c : DeclAt) → Names all a b → Leads all b c → Leads all a c

-- a type is infinite: it leads back to itself
abbrev pub IsInfinite : List Naming → DeclAt → Type 0
IsInfinite all a = Leads all a a

-- ---- the same as a test

-- whether a type leads to another by way of at most so many others
unfoldable pub leads_by : List Naming → ℕ → DeclAt → DeclAt → Bool
leads_by all zero a b = list_any (same_place b) (names_of all a)
leads_by all (suc n) a b = list_any (λ c. same_place b c || leads_by all n c b) (names_of all a)

-- whether a type leads back to itself: no way has to pass more types than there are records and unions
abbrev pub is_infinite : List Naming → DeclAt → Bool
is_infinite all a = leads_by all (length all) a a

-- the types that records and unions declare, in the order of the text
abbrev pub types_declared : List Naming → List DeclAt
types_declared all = map (λ n. n.of) all

-- the first of them that is infinite
abbrev pub first_infinite : List Naming → Option DeclAt
first_infinite all = find (is_infinite all) (types_declared all)
