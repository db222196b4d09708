-- What operators do with their operands.
use Rattle.std.proofs.Common.{◌≡◌, ◌⊎◌, inl, inr, ℕ, ◌+◌, true, false, List, ◌∷◌, Option, Some, None}
use Rattle.std.proofs.Common.{refl, sym, ap, subst, ◌∙◌, arith}
use Rattle.au_base.specs.declared.kinds.IntKind.{IntKind}
use Rattle.au_effects.specs.Numbers.{compared, computed}
use Rattle.au_effects.specs.Values as values
use Rattle.au_type_texts.specs.Types.{ClosedType}
use Rattle.au_types.specs.Types as type
use Rattle.au_types.specs.Types.{Meaning, integer}
use Rattle.au_ahead.specs.Ready.{Ready}
use Rattle.au_lives.specs.Mentions.{Counts, counts, plus, unmentioned}
use Rattle.au_memory.specs.Forests.{Made}
use Rattle.au_memory.specs.Loans.{Types}
use Rattle.au_memory.specs.Shown.{IsPlain}
use Rattle.au_lending.specs.Ending.{freed}
use Rattle.au_borrows.specs.Orders.{Act}
use Rattle.au_running_judgements.specs.Frames.{Frame}
use Rattle.au_meaning.specs.Expressions.{Operation, chosen, compared_kind, compares, computes, is_and, is_or, joins}
use Rattle.au_meaning.specs.Expressions.{kind_in, operates}
use Rattle.au_meaning.specs.Ticks.{Action, comes, follows, pure, tick, ◌>>=◌}
use Rattle.au_meaning.specs.Views.{View}
use Rattle.au_meaning.specs.Worlds.{Value, World}
use Rattle.au_running_judgements.specs.Good.{IsRunning}
use Rattle.au_running_judgements.proofs.GoodLemmas.{good_needing, good_so, good_uncut}
use Rattle.au_running_judgements.specs.Expressions.{IsEquality, Joins}
use Rattle.au_running_judgements.specs.Known.{Callables}
use Rattle.au_running_judgements.specs.Lives.{Standing, spent, stand}
use Rattle.au_sound_expressions.specs.Actions.{ActionsAreSafe}
use Rattle.au_sound_expressions.specs.Safe.{frame}
use Rattle.au_sound_expressions.proofs.HoldLemmas.{nothing_plus, plus_nothing, regrouped}
use Rattle.au_sound_expressions.proofs.JoinLemmas.{chosen_safe, two_safe}
use Rattle.au_sound_expressions.proofs.LeafLemmas.{In, Left, Safe, plain_left}
use Rattle.au_running_judgements.specs.Held.{AllHeld, GoodHeld, Permits}

module _ (types : Types) (owner : ClosedType → Option (List ℕ)) {V W : Type 0} (permits : Permits V W)
    (way : V) (ways : List V) (laws : ActionsAreSafe types owner)
    (a : Act) (older : List Act) (names : ℕ → Meaning) (fs : List Frame) (sizes : List ℕ) (size : ℕ)
    (running : IsRunning sizes fs size) (below : AllHeld permits ways fs) where
  abbrev Ins : Standing → Made → World → Type 0
  Ins h under w = In types owner permits way ways laws a older names fs sizes size running below h under w

  abbrev Lefts : Meaning → Standing → (ℕ → ℕ) → (ℕ → Counts) → Made → Value → World → Type 0
  Lefts t h consumed rest under v n = Left types owner permits way ways laws a older names fs sizes size running
      below t h
      consumed rest under v n

  abbrev IsSafe : (ℕ → Counts) → (Meaning → Type 0) → Action Value → Type 0
  IsSafe counts A action = Safe types owner permits way ways laws a older names fs sizes size running below counts A
      action

  -- as much is consumed, said in another way
  recounted : (t : Meaning) (h : Standing) (c d : ℕ → ℕ) (rest : ℕ → Counts) (under : Made) (v : Value) (n : World)
      → ((k : ℕ) → c k ≡ d k) → Lefts t h c rest under v n → Lefts t h d rest under v n
  recounted t h c d rest under v n same after = record {
    hold = after.hold;
    met = after.met;
    gone = λ k. after.gone k ∙ ap (λ (e : ℕ). spent e (freed a.token (h k))) (same k);
    waits = after.waits;
    state = after.state;
  }

  -- a value that holds nothing, without a tick
  pure_safe : (v : Value) → IsSafe (λ k. unmentioned) (IsPlain v) (pure v)
  pure_safe v t is rest h under w ticks met waits state =
      plain_left types owner permits way ways laws a older names fs sizes size running below v t is rest h under w
      met waits
      state

  module _ {I T C K : Type 0} (see : View I T C) (known : Callables I K) (invoke : I → List Value → Action Value)
      (whole first : T) (ca cb : ℕ → Counts) (A B : Meaning → Type 0) (one two : Action Value)
      (safe_one : IsSafe ca A one)
      (safe_two : IsSafe cb B two) where
    pub joins_safe : (op : Operation)
        → IsSafe (λ k. plus (ca k) (cb k))
        (λ t. Joins types owner see known op whole first A B ((k : ℕ) → (cb k).consumed ≡ 0) t)
        (joins see invoke op whole first one two)
    joins_safe (computes op) t fits rest h under w ticks met waits state =
        let kind = fits.0 in
        let go = λ (x y : Value). operates see (computes op) whole first x y in
        subst (λ (u : Meaning). GoodHeld types owner permits (way ∷ ways)
        (Lefts u h (λ k. (ca k).consumed + (cb k).consumed) rest
        under)
        (follows (one w ticks) (λ x. two >>= (λ y. tick (operates see (computes op) whole first x y))))) (sym fits.4)
        (two_safe types owner permits way ways laws a older names fs sizes size running below ca cb A B one two safe_one
        safe_two (integer kind)
        (integer kind) (integer kind) fits.2 fits.3 (λ x y. operates see (computes op) whole first x y)
        (λ x y g more n left both.
        good_needing owner _ (λ (v : Value) m. Ins g ((v, integer kind) ∷ more) m) (kind_in (see.type_of whole)) kind
        (λ (u : IntKind). comes (computed op u x y)) n left fits.1
        (good_uncut owner _ (λ (v : Value) m. Ins g ((v, integer kind) ∷ more) m)
        (comes (computed op kind x y) n left) (laws.computed (a ∷ older) (frame g names ∷ fs) sizes more n left op
        kind x y both)))
        rest h under w ticks met waits
        state)
    joins_safe (compares op) t fits rest h under w ticks met waits state =
        subst (λ (u : Meaning). GoodHeld types owner permits (way ∷ ways)
        (Lefts u h (λ k. (ca k).consumed + (cb k).consumed) rest
        under)
        (follows (one w ticks) (λ x. two >>= (λ y. tick (operates see (compares op) whole first x y))))) (sym fits.0)
        (by fits.1)
      where
        by : ((kind : IntKind) × (compared_kind (see.type_of first) ≡ Some (Some kind)) × A (integer kind)
            × B (integer kind))
            ⊎ ((compared_kind (see.type_of first) ≡ Some None) × IsEquality op × A type.truth × B type.truth)
            → GoodHeld types owner permits (way ∷ ways) (Lefts type.truth h (λ k. (ca k).consumed + (cb k).consumed)
            rest under)
            (follows (one w ticks) (λ x. two >>= (λ y. tick (operates see (compares op) whole first x y))))
        by (inl of) =
            two_safe types owner permits way ways laws a older names fs sizes size running below ca cb A B one two
            safe_one
            safe_two
            (integer of.0) (integer of.0) type.truth of.2 of.3 (λ x y. operates see (compares op) whole first x y)
            (λ x y g more n left both.
            good_needing owner _ (λ (v : Value) m. Ins g ((v, type.truth) ∷ more) m) (compared_kind (see.type_of first))
            (Some of.0) (λ (u : Option IntKind). comes (compared op u x y)) n left of.1
            (good_uncut owner _ (λ (v : Value) m. Ins g ((v, type.truth) ∷ more) m)
            (comes (compared op (Some of.0) x y) n left) (laws.compared (a ∷ older) (frame g names ∷ fs) sizes more n
            left op of.0 x y
            both))) rest h under w ticks met
            waits state
        by (inr of) =
            two_safe types owner permits way ways laws a older names fs sizes size running below ca cb A B one two
            safe_one
            safe_two type.truth
            type.truth type.truth of.2 of.3 (λ x y. operates see (compares op) whole first x y)
            (λ x y g more n left both.
            good_needing owner _ (λ (v : Value) m. Ins g ((v, type.truth) ∷ more) m) (compared_kind (see.type_of first))
            None (λ (u : Option IntKind). comes (compared op u x y)) n left of.0
            (good_uncut owner _ (λ (v : Value) m. Ins g ((v, type.truth) ∷ more) m)
            (comes (compared op None x y) n left) (laws.equated (a ∷ older) (frame g names ∷ fs) sizes more n left op
            x y of.1
            both))) rest h under w ticks met
            waits state
    joins_safe is_and t fits rest h under w ticks met waits state =
        let c = λ (k : ℕ). (ca k).consumed + ((cb k).consumed + 0) in
        let d = λ (k : ℕ). (ca k).consumed + (cb k).consumed in
        subst (λ (u : Meaning). GoodHeld types owner permits (way ∷ ways)
        (Lefts u h (λ k. (ca k).consumed + (cb k).consumed) rest
        under)
        (follows (one w ticks) (λ x. tick (chosen two (pure (values.truth false)) x)))) (sym fits.0)
        (good_so owner _ (Lefts type.truth h c rest under) (Lefts type.truth h d rest under)
        (follows (one w ticks) (λ x. tick (chosen two (pure (values.truth false)) x)))
        (λ v n left. recounted type.truth h c d rest under v n (λ k. omega arith) left)
        (chosen_safe types owner permits way ways laws a older names fs sizes size running below ca cb
        (λ k. unmentioned) B
        (IsPlain (values.truth false)) two (pure (values.truth false)) safe_two (pure_safe (values.truth false)) fits.3
        (λ k. refl) type.truth fits.2 tt rest h under one w ticks
        (safe_one type.truth fits.1 (λ k. plus (plus (cb k) unmentioned) (rest k)) h under w ticks
        (λ k. subst (λ n. Ready (stand (h k)) (plus (ca k) (plus n (rest k)))) (sym (plus_nothing (cb k)))
        (regrouped h ca cb rest met k)) waits state)))
    joins_safe is_or t fits rest h under w ticks met waits state =
        let c = λ (k : ℕ). (ca k).consumed + (0 + (cb k).consumed) in
        let d = λ (k : ℕ). (ca k).consumed + (cb k).consumed in
        subst (λ (u : Meaning). GoodHeld types owner permits (way ∷ ways)
        (Lefts u h (λ k. (ca k).consumed + (cb k).consumed) rest
        under)
        (follows (one w ticks) (λ x. tick (chosen (pure (values.truth true)) two x)))) (sym fits.0)
        (good_so owner _ (Lefts type.truth h c rest under) (Lefts type.truth h d rest under)
        (follows (one w ticks) (λ x. tick (chosen (pure (values.truth true)) two x)))
        (λ v n left. recounted type.truth h c d rest under v n (λ k. omega arith) left)
        (chosen_safe types owner permits way ways laws a older names fs sizes size running below ca
        (λ k. unmentioned) cb
        (IsPlain (values.truth true)) B (pure (values.truth true)) two (pure_safe (values.truth true)) safe_two
        (λ k. refl) fits.3 type.truth tt fits.2 rest h under one w ticks
        (safe_one type.truth fits.1 (λ k. plus (plus unmentioned (cb k)) (rest k)) h under w ticks
        (λ k. subst (λ n. Ready (stand (h k)) (plus (ca k) (plus n (rest k)))) (sym (nothing_plus (cb k)))
        (regrouped h ca cb rest met k)) waits state)))
