-- Operators, and conditional expressions.
use Rattle.std.proofs.Common.{◌≡◌, ℕ, ◌+◌, Bool, true, false, List, ◌∷◌, Option}
use Rattle.std.proofs.Common.{refl, sym, ap, subst, ◌∙◌, arith}
use Rattle.au_effects.specs.Numbers.{negated}
use Rattle.au_effects.specs.Values as values
use Rattle.au_type_texts.specs.Types.{ClosedType}
use Rattle.au_types.specs.Types as type
use Rattle.au_types.specs.Types.{Meaning}
use Rattle.au_lives.specs.Mentions.{Counts, plus}
use Rattle.au_memory.specs.Forests.{Made}
use Rattle.au_memory.specs.Loans.{Types}
use Rattle.au_memory.specs.Shown.{IsPlain}
use Rattle.au_lending.specs.Ending.{freed}
use Rattle.au_borrows.specs.Orders.{Act, is_active}
use Rattle.au_running_judgements.specs.Frames.{Frame}
use Rattle.au_meaning.specs.Expressions.{chosen}
use Rattle.au_meaning.specs.Ticks.{Action, comes, follows, tick, ◌>>=◌}
use Rattle.au_meaning.specs.Worlds.{Value, World}
use Rattle.au_running_judgements.specs.Good.{IsRunning}
use Rattle.au_running_judgements.proofs.GoodLemmas.{good_so, good_then, good_uncut}
use Rattle.au_running_judgements.specs.Lives.{AreReady, Standing, spent}
use Rattle.au_sound_expressions.specs.Actions.{ActionsAreSafe}
use Rattle.au_sound_expressions.specs.Safe.{Stands, frame}
use Rattle.au_sound_expressions.proofs.HoldLemmas.{regrouped, rest_ready}
use Rattle.au_sound_expressions.proofs.LeafLemmas.{In, Left, Safe, both_after, ticks_well}
use Rattle.au_running_judgements.specs.Held.{AllHeld, GoodHeld, Permits}

-- a value of the type of truth values is one
pub truth_is : (v : Value) → IsPlain v type.truth → (b : Bool) × (v ≡ values.truth b)
truth_is values.unit is = absurd is
truth_is (values.truth b) is = (b, refl)
truth_is (values.number kind z) is = absurd is
truth_is (values.text t) is = absurd is
truth_is (values.made tag birth parts) is = absurd is
truth_is (values.reference borrow place) is = absurd is
truth_is (values.box id) is = absurd is
truth_is (values.buffer id) is = absurd is
truth_is (values.terminal id) is = absurd is
truth_is (values.root id) is = absurd is

module _ (types : Types) (owner : ClosedType → Option (List ℕ)) {V W : Type 0} (permits : Permits V W)
    (way : V) (ways : List V) (laws : ActionsAreSafe types owner)
    (a : Act) (older : List Act) (names : ℕ → Meaning) (fs : List Frame) (sizes : List ℕ) (size : ℕ)
    (running : IsRunning sizes fs size) (below : AllHeld permits ways fs) where
  abbrev Ins : Standing → Made → World → Type 0
  Ins h under w = In types owner permits way ways laws a older names fs sizes size running below h under w

  abbrev Lefts : Meaning → Standing → (ℕ → ℕ) → (ℕ → Counts) → Made → Value → World → Type 0
  Lefts t h consumed rest under v n = Left types owner permits way ways laws a older names fs sizes size running
      below t h
      consumed rest under v n

  abbrev IsSafe : (ℕ → Counts) → (Meaning → Type 0) → Action Value → Type 0
  IsSafe counts A action = Safe types owner permits way ways laws a older names fs sizes size running below counts A
      action

  -- ---- `not`

  pub negation_safe : (counts : ℕ → Counts) (A : Meaning → Type 0) (one : Action Value) → IsSafe counts A one
      → IsSafe counts (λ t. A type.truth × (t ≡ type.truth)) (one >>= (λ x. tick (comes (negated x))))
  negation_safe counts A one safe t fits rest h under w ticks met waits state =
      let consumed = λ (k : ℕ). (counts k).consumed in
      let q = Lefts type.truth h consumed rest under in
      subst (λ (u : Meaning). GoodHeld types owner permits (way ∷ ways) (Lefts u h consumed rest under)
      (follows (one w ticks) (λ x. tick (comes (negated x))))) (sym fits.1)
      (good_then owner _ (Lefts type.truth h consumed rest under) q (one w ticks) (λ x. tick (comes (negated x)))
      (safe type.truth fits.0 rest h under w ticks met waits state) (λ x n left after.
      ticks_well types owner permits way ways laws a older names fs sizes size running below q (comes (negated x))
      after.hold
      ((x, type.truth) ∷ under) n left after.waits after.state (λ more.
      good_so owner _ (λ (v : Value) m. Ins after.hold ((v, type.truth) ∷ under) m) q (comes (negated x) n more)
      (λ v m good. record {
        hold = after.hold;
        met = after.met;
        gone = after.gone;
        waits = after.waits;
        state = good;
      }) (good_uncut owner _ (λ (v : Value) m. Ins after.hold ((v, type.truth) ∷ under) m) (comes (negated x) n more)
      (laws.negated (a ∷ older) (frame after.hold names ∷ fs) sizes under n more x
      after.state)))))

  -- ---- two operands

  -- both are evaluated, and then an action on them gives a value of this type
  pub two_safe : (ca cb : ℕ → Counts) (A B : Meaning → Type 0) (one two : Action Value) → IsSafe ca A one → IsSafe cb
      B two
      → (s u t : Meaning) → A s → B u → (go : Value → Value → Action Value)
      → ((x y : Value) (h : Standing) (under : Made) (n : World) (left : ℕ)
      → Ins h ((y, u) ∷ (x, s) ∷ under) n
      → GoodHeld types owner permits (way ∷ ways) (λ (v : Value) m. Ins h ((v, t) ∷ under) m) (go x y n left))
      → (rest : ℕ → Counts) (h : Standing) (under : Made) (w : World) (ticks : ℕ)
      → AreReady h (λ k. plus (plus (ca k) (cb k)) (rest k)) → Stands permits way (is_active (a ∷ older)) h names
      → Ins h under w
      → GoodHeld types owner permits (way ∷ ways) (Lefts t h (λ k. (ca k).consumed + (cb k).consumed) rest under)
      (follows (one w ticks) (λ x. two >>= (λ y. tick (go x y))))
  two_safe ca cb A B one two safe_one safe_two s u t fits_one fits_two go goes rest h under w ticks met waits state =
      let c = λ (k : ℕ). (ca k).consumed in
      let d = λ (k : ℕ). (cb k).consumed in
      let both = λ (k : ℕ). plus (cb k) (rest k) in
      let q = Lefts t h (λ k. (ca k).consumed + (cb k).consumed) rest under in
      good_then owner _ (Lefts s h c both under) q (one w ticks) (λ x. two >>= (λ y. tick (go x y)))
      (safe_one s fits_one both h under w ticks (regrouped h ca cb rest met) waits state) (λ x n left first.
      good_then owner _ (Lefts u first.hold d rest ((x, s) ∷ under)) q (two n left) (λ y. tick (go x y))
      (safe_two u fits_two rest first.hold ((x, s) ∷ under) n left first.met first.waits first.state)
      (λ y m more second.
      ticks_well types owner permits way ways laws a older names fs sizes size running below q (go x y) second.hold
      ((y, u) ∷ (x, s) ∷ under) m
      more second.waits second.state (λ last.
      good_so owner _ (λ (v : Value) p. Ins second.hold ((v, t) ∷ under) p) q (go x y m last)
      (λ v p good. both_after types owner permits way ways laws a older names fs sizes size running below h c d both
      rest
      ((x, s) ∷ under)
      ((y, u) ∷ (x, s) ∷ under) ((v, t) ∷ under) n m p first second good)
      (goes x y second.hold under m last second.state))))

  -- ---- a test, and what is chosen by it

  -- By a truth value one action or another follows; of each, only what it meets is known, and it consumes nothing.
  pub chosen_safe : (ca cb cc : ℕ → Counts) (A B : Meaning → Type 0) (one two : Action Value) → IsSafe cb A one
      → IsSafe cc B two → ((k : ℕ) → (cb k).consumed ≡ 0) → ((k : ℕ) → (cc k).consumed ≡ 0) → (t : Meaning) → A t → B t
      → (rest : ℕ → Counts) (h : Standing) (under : Made) (test : Action Value) (w : World) (ticks : ℕ)
      → GoodHeld types owner permits (way ∷ ways) (Lefts type.truth h (λ k. (ca k).consumed)
      (λ k. plus (plus (cb k) (cc k)) (rest k)) under)
      (test w ticks)
      → GoodHeld types owner permits (way ∷ ways) (Lefts t h (λ k. (ca k).consumed +
      ((cb k).consumed + (cc k).consumed)) rest under)
      (follows (test w ticks) (λ x. tick (chosen one two x)))
  chosen_safe ca cb cc A B one two safe_one safe_two none_one none_two t fits_one fits_two rest h under test w
      ticks good =
      let c = λ (k : ℕ). (ca k).consumed in
      let d = λ (k : ℕ). (cb k).consumed + (cc k).consumed in
      let both = λ (k : ℕ). plus (plus (cb k) (cc k)) (rest k) in
      let q = Lefts t h (λ k. (ca k).consumed + ((cb k).consumed + (cc k).consumed)) rest under in
      good_then owner _ (Lefts type.truth h c both under) q (test w ticks) (λ x. tick (chosen one two x)) good
      (λ x n left first.
      let truth = laws.truths (a ∷ older) (frame first.hold names ∷ fs) sizes under n x first.state in
      let is = truth_is x truth.0 in
      ticks_well types owner permits way ways laws a older names fs sizes size running below q (chosen one two x)
      first.hold
      ((x, type.truth) ∷ under) n left first.waits first.state (λ more.
      subst (λ (y : Value). GoodHeld types owner permits (way ∷ ways) q (chosen one two y n more)) (sym is.1)
      (by x n first truth.1 more is.0)))
    where
      last : (x : Value) (n : World)
          (first : Lefts type.truth h (λ k. (ca k).consumed) (λ k. plus (plus (cb k) (cc k)) (rest k)) under x n)
          (ce : ℕ → Counts) → ((k : ℕ) → (ce k).consumed ≡ 0) → (v : Value) (m : World)
          → Lefts t first.hold (λ k. (ce k).consumed) rest under v m
          → Lefts t h (λ k. (ca k).consumed + ((cb k).consumed + (cc k).consumed)) rest under v m
      last x n first ce none v m second =
          let so = both_after types owner permits way ways laws a older names fs sizes size running below h
          (λ k. (ca k).consumed)
          (λ k. (ce k).consumed) (λ k. plus (plus (cb k) (cc k)) (rest k)) rest ((x, type.truth) ∷ under)
          ((v, t) ∷ under) ((v, t) ∷ under) n m m first second second.state in
          record {
            hold = so.hold;
            met = so.met;
            gone = λ k. so.gone k ∙ ap (λ (e : ℕ). spent e (freed a.token (h k))) (count k);
            waits = so.waits;
            state = so.state;
          }
        where
          count : (k : ℕ) → (ca k).consumed + (ce k).consumed
              ≡ (ca k).consumed + ((cb k).consumed + (cc k).consumed)
          count k =
              let b = none_one k in
              let c = none_two k in
              let e = none k in
              omega arith

      by : (x : Value) (n : World)
          (first : Lefts type.truth h (λ k. (ca k).consumed) (λ k. plus (plus (cb k) (cc k)) (rest k)) under x n)
          → Ins first.hold under n → (more : ℕ) (b : Bool)
          → GoodHeld types owner permits (way ∷ ways) (Lefts t h
          (λ k. (ca k).consumed + ((cb k).consumed + (cc k).consumed)) rest
          under)
          (chosen one two (values.truth b) n more)
      by x n first state more true =
          let met = regrouped first.hold cb cc rest first.met in
          good_so owner _ (Lefts t first.hold (λ k. (cb k).consumed) (λ k. plus (cc k) (rest k)) under)
          (Lefts t h (λ k. (ca k).consumed + ((cb k).consumed + (cc k).consumed)) rest under) (one n more)
          (λ v m second. last x n first cb none_one v m (record {
            hold = second.hold;
            met = rest_ready second.hold cc rest second.met;
            gone = second.gone;
            waits = second.waits;
            state = second.state;
          }))
          (safe_one t fits_one (λ k. plus (cc k) (rest k)) first.hold under n more met first.waits state)
      by x n first state more false =
          let met = rest_ready first.hold cb (λ k. plus (cc k) (rest k)) (regrouped first.hold cb cc rest first.met) in
          good_so owner _ (Lefts t first.hold (λ k. (cc k).consumed) rest under)
          (Lefts t h (λ k. (ca k).consumed + ((cb k).consumed + (cc k).consumed)) rest under) (two n more)
          (λ v m second. last x n first cc none_two v m second)
          (safe_two t fits_two rest first.hold under n more met first.waits state)
