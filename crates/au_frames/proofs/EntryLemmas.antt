-- Frames begin.
use Rattle.std.proofs.Common.{◌≡◌, ◌⊎◌, inl, inr, ℕ, suc, ◌+◌, ◌≤◌, ◌<◌, ◌==◌, Bool, true, false, List, [], ◌∷◌, length}
use Rattle.std.proofs.Common.{Option, Some, refl, sym, ap, subst, ◌∙◌, arith, if◌then◌else◌}
use Rattle.std.proofs.lemmas.Bool.{eqb-true, ne_eqb}
use Rattle.au_effects.specs.Values.{name_of}
use Rattle.au_places.specs.Memories.{Memory, with_base}
use Rattle.au_types.specs.Types.{Meaning}
use Rattle.au_memory.specs.Forests.{Holds, Made, empty, ready}
use Rattle.au_memory.specs.Loans.{Types}
use Rattle.au_lending.specs.Holding.{with_hold, with_name}
use Rattle.au_lending.specs.Records.{onto}
use Rattle.au_borrows.specs.Orders.{Act}
use Rattle.au_borrows.specs.Told.{Told}
use Rattle.au_acting.specs.Safe.{IsSafe}
use Rattle.au_acting.proofs.NameLemmas.{fills}
use Rattle.au_acting.proofs.StartLemmas.{agrees}
use Rattle.au_frames.specs.Frames.{Frame, filled, frame_of, hold_at, no_names, type_at, with_frame}
use Rattle.au_frames.specs.Laws.{FramesBegin}
use Rattle.au_frames.proofs.FrameLemmas.{beyond, hold_step, own_hold, type_step}

-- names before the first one hold nothing
unfilled : (vs : Made) (first x : ℕ) → x < first → (frame_of first vs).hold x ≡ empty
unfilled [] first x below = refl
unfilled (v ∷ vs) first x below =
    ap (λ (b : Bool). if b then ready else (frame_of (suc first) vs).hold x)
    (ne_eqb first x (λ same. omega arith))
    ∙ unfilled vs (suc first) x (omega arith)

-- ---- a frame without names is no frame

no_hold : (fs : List Frame) (k x : ℕ) → hold_at fs k x ≡ hold_at (no_names ∷ fs) k x
no_hold fs k x = by (length fs == k) refl
  where
    by : (b : Bool) → (length fs == k) ≡ b → hold_at fs k x ≡ (if b then empty else hold_at fs k x)
    by true e = let same = eqb-true (length fs) k e in beyond fs k x (omega arith)
    by false e = refl

no_type : (fs : List Frame) (k x : ℕ)
    → (hold_at fs k x ≡ empty) ⊎ (type_at fs k x ≡ type_at (no_names ∷ fs) k x)
no_type fs k x = by (length fs == k) refl
  where
    by : (b : Bool) → (length fs == k) ≡ b
        → (hold_at fs k x ≡ empty) ⊎ (type_at fs k x ≡ (if b then no_names.type x else type_at fs k x))
    by true e = let same = eqb-true (length fs) k e in inl (beyond fs k x (omega arith))
    by false e = inr refl

pub frames_from : (B : Type 0) (types : Types) (owner : B → Option (List ℕ)) (acts : List Act) (fs : List Frame)
    (m : Memory (List ℕ)) (w : Told B) (values : Made) (first : ℕ) (under : Made)
    → IsSafe types owner acts (hold_at fs) (type_at fs) (onto values under) m w
    → IsSafe types owner acts (hold_at (frame_of first values ∷ fs)) (type_at (frame_of first values ∷ fs)) under
    (with_frame (length fs) first values m) w
frames_from B types owner acts fs m w [] first under state =
    agrees B types owner acts (hold_at fs) (type_at fs) under m w (hold_at (no_names ∷ fs)) (type_at (no_names ∷ fs)) m
    (no_hold fs) (no_type fs) (λ base. refl) (λ i. refl) state
frames_from B types owner acts fs m w (v ∷ vs) first under state =
    let g = frame_of (suc first) vs in
    let n = with_frame (length fs) (suc first) vs m in
    let rest = frames_from B types owner acts fs m w vs (suc first) (v ∷ under) state in
    let none : hold_at (g ∷ fs) (length fs) first ≡ empty =
    own_hold g fs first ∙ unfilled vs (suc first) first (omega arith) in
    let one = fills B types owner acts (hold_at (g ∷ fs)) (type_at (g ∷ fs)) under n w (length fs) first v.0 v.1 none
    rest in
    agrees B types owner acts (with_hold (length fs) first ready (hold_at (g ∷ fs)))
    (with_name (length fs) first v.1 (type_at (g ∷ fs))) under (with_base (name_of (length fs) first) (Some v.0) n) w
    (hold_at (filled first v.1 g ∷ fs)) (type_at (filled first v.1 g ∷ fs))
    (with_base (name_of (length fs) first) (Some v.0) n) (hold_step g fs first ready)
    (λ k y. inr (type_step g fs first v.1 k y)) (λ base. refl) (λ i. refl) one

module _ (B : Type 0) (types : Types) (owner : B → Option (List ℕ)) (acts : List Act) (fs : List Frame)
    (under : Made) (m : Memory (List ℕ)) (w : Told B) where
  pub frames_begin : FramesBegin B types owner acts fs under m w
  frames_begin values first state = frames_from B types owner acts fs m w values first under state
