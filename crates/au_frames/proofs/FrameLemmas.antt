-- How names stand in frames.
use Rattle.std.proofs.Common.{◌≡◌, ◌⊎◌, inl, inr, ℕ, suc, ◌+◌, ◌≤◌, ◌<◌, ◌==◌, ◌&&◌, Bool, true, false, List, [], ◌∷◌, length}
use Rattle.std.proofs.Common.{Option, Some, refl, sym, ap, subst, ◌∙◌, arith, if◌then◌else◌}
use Rattle.std.specs.Prelude.{None}
use Rattle.std.proofs.lemmas.Bool.{eq-eqb, eqb-true, ne_eqb}
use Rattle.au_effects.specs.Values.{name_of}
use Rattle.au_places.specs.Memories.{Memory}
use Rattle.au_types.specs.Types.{Meaning}
use Rattle.au_memory.specs.Forests.{Hold, Holds, Made, NameStands, empty}
use Rattle.au_memory.specs.Loans.{Types}
use Rattle.au_lending.specs.Holding.{with_hold, with_name}
use Rattle.au_borrows.specs.Orders.{Act}
use Rattle.au_borrows.specs.Told.{Told}
use Rattle.au_acting.specs.Safe.{IsSafe}
use Rattle.au_frames.specs.Frames.{Frame, filled, hold_at, standing, type_at}

-- beyond the newest frame no name holds anything
pub beyond : (fs : List Frame) (k x : ℕ) → length fs ≤ k → hold_at fs k x ≡ empty
beyond [] k x above = refl
beyond (f ∷ fs) k x above =
    ap (λ (b : Bool). if b then f.hold x else hold_at fs k x) (ne_eqb (length fs) k (λ same. omega arith))
    ∙ beyond fs k x (omega arith)

pub own_hold : (f : Frame) (fs : List Frame) (x : ℕ) → hold_at (f ∷ fs) (length fs) x ≡ f.hold x
own_hold f fs x =
    ap (λ (b : Bool). if b then f.hold x else hold_at fs (length fs) x) (eq-eqb (length fs) (length fs) refl)

pub own_type : (f : Frame) (fs : List Frame) (x : ℕ) → type_at (f ∷ fs) (length fs) x ≡ f.type x
own_type f fs x =
    ap (λ (b : Bool). if b then f.type x else type_at fs (length fs) x) (eq-eqb (length fs) (length fs) refl)

pub hold_step : (f : Frame) (fs : List Frame) (x : ℕ) (h : Hold) (k y : ℕ)
    → with_hold (length fs) x h (hold_at (f ∷ fs)) k y ≡ hold_at (standing x h f ∷ fs) k y
hold_step f fs x h k y = by (length fs == k)
  where
    by : (b : Bool) → (if b && (x == y) then h else (if b then f.hold y else hold_at fs k y))
        ≡ (if b then (if x == y then h else f.hold y) else hold_at fs k y)
    by true = refl
    by false = refl

pub type_step : (f : Frame) (fs : List Frame) (x : ℕ) (t : Meaning) (k y : ℕ)
    → with_name (length fs) x t (type_at (f ∷ fs)) k y ≡ type_at (filled x t f ∷ fs) k y
type_step f fs x t k y = by (length fs == k)
  where
    by : (b : Bool) → (if b && (x == y) then t else (if b then f.type y else type_at fs k y))
        ≡ (if b then (if x == y then t else f.type y) else type_at fs k y)
    by true = refl
    by false = refl

-- an empty name holds nothing in memory
pub nothing_held : (B : Type 0) (types : Types) (owner : B → Option (List ℕ)) (acts : List Act) (hold : Holds)
    (type : ℕ → ℕ → Meaning) (under : Made) (m : Memory (List ℕ)) (w : Told B) (frame x : ℕ)
    → hold frame x ≡ empty → IsSafe types owner acts hold type under m w → m.at (name_of frame x) ≡ None
nothing_held B types owner acts hold type under m w frame x is state =
    let core = state.inv.core in
    subst (λ h. NameStands types state.rows core.forest m core.root frame x (type frame x) h) is (core.names frame x)
