-- What is known round a body that runs: which functions may be called at which running types, and which
-- tokens are active.
use Rattle.std.specs.Prelude.{◌≡◌, ◌⊎◌, ℕ, ◌==◌, Bool, true, List, [], ◌∷◌, if◌then◌else◌}
use Rattle.au_types.specs.declared.types.Region.{Region}
use Rattle.au_types.specs.declared.types.Region.TheVariants.{Static}
use Rattle.au_types.specs.Types.{Meaning, reads, writes}
use Rattle.au_running_types.specs.Running.{token}
use Rattle.au_memory.specs.Loans.{Types}

-- The ways in which functions are called: each has a key, and for this the function, the running types of its
-- parameters and of its result, and the tokens for which its region parameters stand.
pub record Callables (I K : Type 0) : Type 0 where
  pub of : K → I
  pub parameters : K → List Meaning
  pub result : K → Meaning
  pub tokens : K → List ℕ

-- Which calls functions make: each is made in the body of a function that is called in one way, and calls one
-- in another.
pub record Calls (K E : Type 0) : Type 0 where
  pub from : E → K
  pub to : E → K

-- what may be called in the body of a function that is called so: each way to which a call of it leads
abbrev pub callees : {I K E : Type 0} → Callables I K → (calls : Calls K E) → (key : K)
    → Callables I ((one : E) × (calls.from one ≡ key))
callees known calls key = record {
  of = λ call. known.of (calls.to call.0);
  parameters = λ call. known.parameters (calls.to call.0);
  result = λ call. known.result (calls.to call.0);
  tokens = λ call. known.tokens (calls.to call.0);
}

-- one token more is active
abbrev pub with_token : ℕ → (ℕ → Bool) → ℕ → Bool
with_token z active y = if z == y then true else active y

-- each token of a list is active
abbrev pub AreActive : (ℕ → Bool) → List ℕ → Type 0
AreActive active [] = Unit {0}
AreActive active (z ∷ zs) = (active z ≡ true) × AreActive active zs

-- A region may be used: it is a token that is active; or it is `Static`, of which there are no references.
abbrev pub InScope : (ℕ → Bool) → Region → Type 0
InScope active region = (region ≡ Static) ⊎ ((z : ℕ) × (region ≡ token z) × (active z ≡ true))

-- a type of references of either access, to a type and in a region; those that read are Free
abbrev pub IsReference : Types → Meaning → Meaning → Region → Type 0
IsReference types r t region =
    (r ≡ writes t region) ⊎ ((r ≡ reads t region) × (types.is_free (reads t region) ≡ true))
