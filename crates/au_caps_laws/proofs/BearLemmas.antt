-- What is born by actions, one after another.
use Rattle.std.proofs.Common.{◌≡◌, ℕ, zero, suc, Bool, true, false, List, [], ◌∷◌, ◌++◌, Option, None, Some}
use Rattle.std.proofs.Common.{refl, sym, ap, ◌∙◌, if◌then◌else◌}
use Rattle.std.proofs.lemmas.List.{append-nil, append_assoc}
use Rattle.au_effects.specs.Answers as answer
use Rattle.au_effects.specs.Worlds.{consumed, closed, closes, spends, tells}
use Rattle.au_type_texts.specs.Types.{ClosedType}
use Rattle.au_meaning.specs.Acts.{stored}
use Rattle.au_meaning.specs.Ticks.{Action, Out, aborts, asks, by_truth, comes, cut, does, follows, found_in, gives}
use Rattle.au_meaning.specs.Ticks.{needing, no_rule, over, pure, stuck, takes, tick, ticked, where_true, ◌>>=◌}
use Rattle.au_meaning.specs.Ticks.{◌>>◌}
use Rattle.au_meaning.specs.Worlds.{Event, Store, World}
use Rattle.au_caps_laws.specs.Bearing.{AreWithin, Bears, BearsTo, IsWithin}

module _ (P : ClosedType → Type 0) where
  -- ---- stores

  within_both : (es fs : List Event) → AreWithin P es → AreWithin P fs → AreWithin P (es ++ fs)
  within_both [] fs one two = two
  within_both (e ∷ es) fs one two = (one.0, within_both es fs one.1 two)

  -- nothing is told
  pub bears_same : (s t : Store) → t.deeds ≡ s.deeds → Bears P s t
  bears_same s t same = record { more = []; adds = same ∙ sym (append-nil s.deeds); within = tt }

  -- first this is told, and then that
  pub bears_then : (s t u : Store) → Bears P s t → Bears P t u → Bears P s u
  bears_then s t u one two = record {
    more = one.more ++ two.more;
    adds = two.adds ∙ ap (λ (all : List Event). all ++ two.more) one.adds
        ∙ append_assoc s.deeds one.more two.more;
    within = within_both one.more two.more one.within two.within;
  }

  -- the same of another store with the same deeds
  pub bears_as : (s t u : Store) → u.deeds ≡ t.deeds → Bears P s t → Bears P s u
  bears_as s t u same one = record { more = one.more; adds = same ∙ one.adds; within = one.within }

  bears_if : (keeps : Bool) (before : List Event) (e : Event) → IsWithin P e → (s t : Store)
      → s.deeds ≡ before → t.deeds ≡ (if keeps then before ++ e ∷ [] else before) → Bears P s t
  bears_if true before e within s t old new = record {
    more = e ∷ [];
    adds = new ∙ ap (λ (all : List Event). all ++ e ∷ []) (sym old);
    within = (within, tt);
  }
  bears_if false before e within s t old new = bears_same s t (new ∙ sym old)

  -- an event is told of a store with as many deeds
  pub bears_one : (e : Event) → IsWithin P e → (s t : Store) → t.deeds ≡ s.deeds → Bears P s (tells e t)
  bears_one e within s t same =
      bears_if t.keeps t.deeds e within s (tells e t) (sym same) refl

  pub bears_spends : (birth : Option ℕ) (s : Store) → Bears P s (spends birth s)
  bears_spends None s = bears_same s s refl
  bears_spends (Some id) s = bears_one (consumed id) tt s s refl

  pub bears_closes : (all : List ℕ) (s : Store) → Bears P s (closes all s)
  bears_closes [] s = bears_same s s refl
  bears_closes (one ∷ rest) s =
      bears_then s (tells (closed one) s) (closes rest (tells (closed one) s))
      (bears_one (closed one) tt s s refl) (bears_closes rest (tells (closed one) s))

  -- ---- actions

  abbrev pub Keeps : {A : Type 0} → Action A → Type 0
  Keeps m = (w : World) (ticks : ℕ) → BearsTo P w (m w ticks)

  pub pure_keeps : {A : Type 0} (a : A) → Keeps (pure a)
  unfolding BearsTo
  pure_keeps a w ticks = bears_same w.store w.store refl

  pub stuck_keeps : (A : Type 0) → Keeps {A = A} stuck
  unfolding BearsTo
  stuck_keeps A w ticks = bears_same w.store w.store refl

  pub over_keeps : (A : Type 0) → Keeps {A = A} over
  unfolding BearsTo
  over_keeps A w ticks = bears_same w.store w.store refl

  pub bears_out : {A : Type 0} (w v : World) (out : Out A) → Bears P w.store v.store → BearsTo P v out → BearsTo P w out
  unfolding BearsTo
  bears_out w v (gives a u left) one two = bears_then w.store v.store u.store one two
  bears_out w v (aborts fault u left) one two = bears_then w.store v.store u.store one two
  bears_out w v (cut u) one two = bears_then w.store v.store u.store one two
  bears_out w v (no_rule u left) one two = bears_then w.store v.store u.store one two

  follows_bears : {A B : Type 0} (w : World) (out : Out A) (go : A → Action B) → BearsTo P w out
      → ((a : A) → Keeps (go a)) → BearsTo P w (follows out go)
  unfolding follows BearsTo
  follows_bears w (gives a v left) go one next = bears_out w v (go a v left) one (next a v left)
  follows_bears w (aborts fault v left) go one next = one
  follows_bears w (cut v) go one next = one
  follows_bears w (no_rule v left) go one next = one

  pub then_keeps : {A B : Type 0} (m : Action A) (go : A → Action B) → Keeps m → ((a : A) → Keeps (go a))
      → Keeps (m >>= go)
  then_keeps m go one next w ticks = follows_bears w (m w ticks) go (one w ticks) next

  pub and_keeps : {A B : Type 0} (m : Action A) (next : Action B) → Keeps m → Keeps next → Keeps (m >> next)
  and_keeps m next one two = then_keeps m (λ a. next) one (λ a. two)

  pub tick_keeps : {A : Type 0} (m : Action A) → Keeps m → Keeps (tick m)
  unfolding ticked BearsTo
  tick_keeps m one w zero = bears_same w.store w.store refl
  tick_keeps m one w (suc left) = one w left

  pub needing_keeps : {A B : Type 0} (o : Option A) (go : A → Action B) → ((a : A) → Keeps (go a))
      → Keeps (needing o go)
  needing_keeps None go next = stuck_keeps _
  needing_keeps (Some a) go next = next a

  pub where_keeps : {A : Type 0} (b : Bool) (m : Action A) → Keeps m → Keeps (where_true b m)
  where_keeps true m one = one
  where_keeps false m one = stuck_keeps _

  pub truth_keeps : {A : Type 0} (one other : Action A) (b : Bool) → Keeps one → Keeps other
      → Keeps (by_truth one other b)
  truth_keeps one other true first second = first
  truth_keeps one other false first second = second

  needing_at : {A : Type 0} (o : Option A) (w : World) (ticks : ℕ) → BearsTo P w (needing o pure w ticks)
  unfolding BearsTo
  needing_at None w ticks = bears_same w.store w.store refl
  needing_at (Some a) w ticks = bears_same w.store w.store refl

  pub asks_keeps : {A : Type 0} (find : World → Option A) → Keeps (asks find)
  asks_keeps find w ticks = needing_at (find w) w ticks

  pub does_keeps : (change : World → World) → ((w : World) → Bears P w.store (change w).store)
      → Keeps (does change)
  unfolding BearsTo
  does_keeps change bears w ticks = bears w

  -- what is found in a world with another store
  abbrev pub FoundBears : {A : Type 0} → Store → Option (A × Store) → Type 0
  FoundBears s None = Unit {0}
  FoundBears s (Some pair) = Bears P s pair.1

  stored_bears : {A : Type 0} (w : World) (ticks : ℕ) (o : Option (A × Store)) → FoundBears w.store o
      → BearsTo P w (found_in (stored o w) w ticks)
  unfolding BearsTo
  stored_bears w ticks None one = bears_same w.store w.store refl
  stored_bears w ticks (Some pair) one = one

  pub takes_keeps : {A : Type 0} (change : Store → Option (A × Store))
      → ((s : Store) → FoundBears s (change s)) → Keeps (takes (λ world. stored (change world.store) world))
  takes_keeps change bears w ticks = stored_bears w ticks (change w.store) (bears w.store)

  pub comes_keeps : (result : answer.Result (List ℕ)) → Keeps (comes result)
  unfolding BearsTo
  comes_keeps (answer.value value) w ticks = bears_same w.store w.store refl
  comes_keeps (answer.fault fault) w ticks = bears_same w.store w.store refl
  comes_keeps answer.no_rule w ticks = bears_same w.store w.store refl
