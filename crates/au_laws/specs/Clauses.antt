-- Clauses of a rule in the order in which they are judged, and the first of them that doesn't hold.
use Rattle.std.specs.Prelude.{◌≡◌, ◌⊎◌, List, [], ◌∷◌, Bool, true, false, Option, None, Some}
use Rattle.au_types.specs.Same.{same}
use Rattle.au_types.specs.Types.{Meaning}
use Rattle.au_typing.specs.Faults.{Fault, Why, why, limit, different}
use Rattle.au_typing.specs.Limits.{limit_among, types_noted}
use Rattle.au_typing.specs.Notes.{Mode}

-- a clause: whether it holds, and what is told where it doesn't
pub record Clause : Type 0 where
  pub holds : Bool
  pub told : Fault

-- The first clause that doesn't hold tells this; those in front of it hold.
abbrev pub TellsFirst : List Clause → Fault → Type 0
TellsFirst [] fault = ⊥
TellsFirst (one ∷ rest) fault =
    ((one.holds ≡ false) × (fault ≡ one.told)) ⊎ ((one.holds ≡ true) × TellsFirst rest fault)

-- ---- lists of clauses, each with the clauses behind it

-- a test
abbrev pub must : Bool → Why → List Clause → List Clause
must test cause rest = record { holds = test; told = why cause } ∷ rest

-- a clause that doesn't hold
abbrev pub broken : Fault → List Clause
broken told = record { holds = false; told = told } ∷ []

-- something must be there, and the clauses behind speak of it
abbrev pub must_be : {A : Type 0} → Why → Option A → (A → List Clause) → List Clause
must_be cause None rest = broken (why cause)
must_be cause (Some x) rest = rest x

-- nothing must be there
abbrev pub must_lack : {A : Type 0} → (A → Fault) → Option A → List Clause → List Clause
must_lack told None rest = rest
must_lack told (Some x) rest = broken (told x)

-- no type passes a limit
abbrev pub in_limits : List Meaning → List Clause → List Clause
in_limits types rest = must_lack limit (limit_among types) rest

-- a type is the wanted one, where one is wanted
abbrev pub as_wanted : Mode → Meaning → List Clause → List Clause
as_wanted None t rest = rest
as_wanted (Some wanted) t rest = must (same wanted t) (different wanted t) rest

-- a node's own type passes no limit, and is the wanted one
abbrev pub has_type : Mode → Meaning → List Clause → List Clause
has_type mode t rest = in_limits (types_noted mode t []) (as_wanted mode t rest)
