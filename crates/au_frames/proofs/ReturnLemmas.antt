-- Frames end.
use Rattle.std.proofs.Common.{◌≡◌, ◌⊎◌, inl, inr, ℕ, zero, suc, ◌+◌, ◌≤◌, ◌<◌, ◌==◌, ◌&&◌, Bool, true, false, List, [], ◌∷◌}
use Rattle.std.proofs.Common.{length, Option, Some, refl, sym, ap, subst, ◌∙◌, arith, if◌then◌else◌}
use Rattle.std.specs.Prelude.{None}
use Rattle.std.proofs.lemmas.Bool.{cases_lt, eq-eqb, eqb-true}
use Rattle.au_effects.specs.Values.{Base, content_of, name_of}
use Rattle.au_places.specs.Memories.{Memory, with_base}
use Rattle.au_places.specs.Places.{same_base}
use Rattle.au_running_types.specs.Running.{token}
use Rattle.au_types.specs.Types as meaning
use Rattle.au_types.specs.Types.{Meaning}
use Rattle.au_memory.specs.Forests.{Holds, Made, empty, ready}
use Rattle.au_memory.specs.Loans.{Types}
use Rattle.au_memory.specs.Shown.{AreDeclared, AreLawful}
use Rattle.au_memory.specs.Trees.{Value}
use Rattle.au_lending.specs.Holding.{with_hold}
use Rattle.au_borrows.specs.Orders.{Act}
use Rattle.au_borrows.specs.Told.{Told}
use Rattle.au_acting.specs.Safe.{IsSafe}
use Rattle.au_acting.proofs.NameLemmas.{mentions}
use Rattle.au_acting.proofs.StartLemmas.{agrees}
use Rattle.au_acting.proofs.ValueLemmas.{drops, drops_writers}
use Rattle.au_frames.specs.Frames.{Frame, IsDroppable, IsLoose, at_outside, hold_at, standing, type_at, without_frame}
use Rattle.au_frames.specs.Laws.{FramesEnd}
use Rattle.au_frames.proofs.FrameLemmas.{beyond, hold_step, nothing_held, own_hold, own_type}

module _ (B : Type 0) (types : Types) (owner : B → Option (List ℕ)) (forms : AreDeclared types)
    (lawful : AreLawful types) (acts : List Act) (fs : List Frame) (under : Made) (w : Told B) where
  abbrev k : ℕ
  k = length fs

  -- a state of frames
  abbrev In : Frame → Memory (List ℕ) → Type 0
  In f m = IsSafe types owner acts (hold_at (f ∷ fs)) (type_at (f ∷ fs)) under m w

  -- ---- one name

  -- what may be dropped is
  dropped : (hold : Holds) (type : ℕ → ℕ → Meaning) (m : Memory (List ℕ)) (v : Value) (t : Meaning)
      → IsDroppable types t → IsSafe types owner acts hold type ((v, t) ∷ under) m w
      → IsSafe types owner acts hold type under m w
  dropped hold type m v t (inl free) state = drops B types owner acts hold type under m w lawful v t free state
  dropped hold type m v t (inr one) state =
      drops_writers B types owner acts hold type under m w forms v one.0 one.1
      (subst (λ u. IsSafe types owner acts hold type ((v, u) ∷ under) m w) one.2 state)

  -- a name that is empty may as well be made so
  module _ (f : Frame) (m : Memory (List ℕ)) (x : ℕ) (none : f.hold x ≡ empty) (state : In f m) where
    same_hold : (a y : ℕ) → hold_at (f ∷ fs) a y ≡ hold_at (standing x empty f ∷ fs) a y
    same_hold a y = by (k == a)
      where
        at : (c : Bool) → (x == y) ≡ c → f.hold y ≡ (if c then empty else f.hold y)
        at true e = subst (λ n. f.hold n ≡ empty) (eqb-true x y e) none
        at false e = refl

        by : (b : Bool) → (if b then f.hold y else hold_at fs a y)
            ≡ (if b then (if x == y then empty else f.hold y) else hold_at fs a y)
        by true = at (x == y) refl
        by false = refl

    none_held : m.at (name_of k x) ≡ None
    none_held =
        nothing_held B types owner acts (hold_at (f ∷ fs)) (type_at (f ∷ fs)) under m w k x (own_hold f fs x ∙ none) state

    same_at : (base : Base) → m.at base ≡ (with_base (name_of k x) None m).at base
    same_at (content_of i) = refl
    same_at (name_of a y) = by (k == a) (x == y) refl refl
      where
        by : (b c : Bool) → (k == a) ≡ b → (x == y) ≡ c
            → m.at (name_of a y) ≡ (if b && c then None else m.at (name_of a y))
        by true true e d =
            subst (λ n. m.at (name_of n y) ≡ None) (eqb-true k a e)
            (subst (λ n. m.at (name_of k n) ≡ None) (eqb-true x y d) none_held)
        by true false e d = refl
        by false c e d = refl

    emptied : In (standing x empty f) (with_base (name_of k x) None m)
    emptied =
        agrees B types owner acts (hold_at (f ∷ fs)) (type_at (f ∷ fs)) under m w
        (hold_at (standing x empty f ∷ fs)) (type_at (standing x empty f ∷ fs)) (with_base (name_of k x) None m)
        same_hold (λ a y. inr refl) same_at (λ i. refl) state

  -- a name that is loose is made empty
  pub forgets : (f : Frame) (m : Memory (List ℕ)) (x : ℕ) → IsLoose types (f.hold x) (f.type x) → In f m
      → In (standing x empty f) (with_base (name_of k x) None m)
  forgets f m x (inl none) state = emptied f m x none state
  forgets f m x (inr loose) state =
      let hold = hold_at (f ∷ fs) in
      let type = type_at (f ∷ fs) in
      let n = with_base (name_of k x) None m in
      let done = mentions B types owner acts hold type under m w k x (own_hold f fs x ∙ loose.0) state in
      let may = subst (λ t. IsDroppable types t) (sym (own_type f fs x)) loose.1 in
      let gone = dropped (with_hold k x empty hold) type n done.0 (type k x) may done.2 in
      agrees B types owner acts (with_hold k x empty hold) type under n w (hold_at (standing x empty f ∷ fs))
      (type_at (standing x empty f ∷ fs)) n (hold_step f fs x empty) (λ a y. inr refl) (λ base. refl) (λ i. refl) gone

  -- ---- all names

  -- a frame of which all names are empty is no frame
  module _ (f : Frame) (m : Memory (List ℕ)) (none : (x : ℕ) → f.hold x ≡ empty) (state : In f m) where
    last_hold : (a y : ℕ) → hold_at (f ∷ fs) a y ≡ hold_at fs a y
    last_hold a y = by (k == a) refl
      where
        by : (b : Bool) → (k == a) ≡ b → (if b then f.hold y else hold_at fs a y) ≡ hold_at fs a y
        by true e = let same = eqb-true k a e in none y ∙ sym (beyond fs a y (omega arith))
        by false e = refl

    last_type : (a y : ℕ) → (hold_at (f ∷ fs) a y ≡ empty) ⊎ (type_at (f ∷ fs) a y ≡ type_at fs a y)
    last_type a y = by (k == a)
      where
        by : (b : Bool) → ((if b then f.hold y else hold_at fs a y) ≡ empty)
            ⊎ ((if b then f.type y else type_at fs a y) ≡ type_at fs a y)
        by true = inl (none y)
        by false = inr refl

    last_at : (base : Base) → m.at base ≡ at_outside k m base
    last_at (content_of i) = refl
    last_at (name_of a y) = by (k == a) refl
      where
        by : (b : Bool) → (k == a) ≡ b → m.at (name_of a y) ≡ (if b then None else m.at (name_of a y))
        by true e =
            subst (λ n. m.at (name_of n y) ≡ None) (eqb-true k a e)
            (nothing_held B types owner acts (hold_at (f ∷ fs)) (type_at (f ∷ fs)) under m w k y
            (own_hold f fs y ∙ none y) state)
        by false e = refl

    last : IsSafe types owner acts (hold_at fs) (type_at fs) under (without_frame k m) w
    last =
        agrees B types owner acts (hold_at (f ∷ fs)) (type_at (f ∷ fs)) under m w (hold_at fs) (type_at fs)
        (without_frame k m) last_hold last_type last_at (λ i. refl) state

  -- a name that is gone changes nothing more
  outside_same : (m : Memory (List ℕ)) (n : ℕ) (base : Base)
      → at_outside k (with_base (name_of k n) None m) base ≡ at_outside k m base
  outside_same m n (content_of i) = refl
  outside_same m n (name_of a y) = by (k == a)
    where
      by : (b : Bool) → (if b then None else (if b && (n == y) then None else m.at (name_of a y)))
          ≡ (if b then None else m.at (name_of a y))
      by true = refl
      by false = refl

  frames_to : (n : ℕ) (f : Frame) (m : Memory (List ℕ)) → ((x : ℕ) → IsLoose types (f.hold x) (f.type x))
      → ((x : ℕ) → n ≤ x → f.hold x ≡ empty) → In f m
      → IsSafe types owner acts (hold_at fs) (type_at fs) under (without_frame k m) w
  frames_to zero f m loose rest state = last f m (λ x. rest x (omega arith)) state
  frames_to (suc n) f m loose rest state =
      let one = forgets f m n (loose n) state in
      let more = frames_to n (standing n empty f) (with_base (name_of k n) None m) loose_after rest_after one in
      agrees B types owner acts (hold_at fs) (type_at fs) under (without_frame k (with_base (name_of k n) None m)) w
      (hold_at fs) (type_at fs) (without_frame k m) (λ a y. refl) (λ a y. inr refl) (outside_same m n) (λ i. refl) more
    where
      loose_after : (x : ℕ) → IsLoose types (if n == x then empty else f.hold x) (f.type x)
      loose_after x = by (n == x)
        where
          by : (b : Bool) → IsLoose types (if b then empty else f.hold x) (f.type x)
          by true = inl refl
          by false = loose x

      rest_after : (x : ℕ) → n ≤ x → (if n == x then empty else f.hold x) ≡ empty
      rest_after x above = by (cases_lt n x)
        where
          at : (b : Bool) → f.hold x ≡ empty → (if b then empty else f.hold x) ≡ empty
          at true none = refl
          at false none = none

          by : (n < x) ⊎ (x ≤ n) → (if n == x then empty else f.hold x) ≡ empty
          by (inl less) = at (n == x) (rest x (omega arith))
          by (inr over) =
              let same : n ≡ x = omega arith in
              ap (λ (b : Bool). if b then empty else f.hold x) (eq-eqb n x same)

module _ (B : Type 0) (types : Types) (owner : B → Option (List ℕ)) (acts : List Act) (fs : List Frame)
    (under : Made) (m : Memory (List ℕ)) (w : Told B) where
  pub frames_end : FramesEnd B types owner acts fs under m w
  frames_end forms lawful f n loose rest state =
      frames_to B types owner forms lawful acts fs under w n f m loose rest state
