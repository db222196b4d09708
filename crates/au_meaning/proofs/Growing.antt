-- More ticks tell more of an action: this is said of two actions, of which the second goes deeper than the
-- first, and holds of all that is joined of such actions.
use Rattle.std.proofs.Common.{◌≡◌, ℕ, zero, suc, ◌+◌, ◌≤◌, Bool, true, false, List, [], ◌++◌, Option, Some}
use Rattle.std.proofs.Common.{None, refl, sym, ap, subst, ◌∙◌, append_assoc, append-nil, if◌then◌else◌}
use Rattle.std.proofs.Math.Nat.{le_refl, le_trans}
use Rattle.std.proofs.Common.{arith}
use Rattle.au_syntax.specs.Plain.{Bytes}
use Rattle.au_effects.specs.Answers as answer
use Rattle.au_effects.specs.Numbers.{truth_in}
use Rattle.au_meaning.specs.Expressions.{chosen}
use Rattle.au_meaning.specs.Laws.{Begins, Ends, Continues, left_in}
use Rattle.au_meaning.specs.Ticks.{Out, Action, gives, aborts, cut, no_rule, pure, stuck, over, follows}
use Rattle.au_meaning.specs.Ticks.{◌>>=◌, ◌>>◌, ticked, tick, needing, where_true, by_truth, asks, does}
use Rattle.au_meaning.specs.Ticks.{found_in, takes, comes}
use Rattle.au_meaning.specs.Worlds.{Value, World}

-- ---- worlds

pub begins_refl : {A : Type 0} (xs : List A) → Begins xs xs
begins_refl xs = ([], sym (append-nil xs))

pub begins_trans : {A : Type 0} (xs ys zs : List A) → Begins xs ys → Begins ys zs → Begins xs zs
begins_trans xs ys zs p q =
    (p.0 ++ q.0, q.1 ∙ ap (λ l. l ++ q.0) p.1 ∙ append_assoc xs p.0 q.0)

ends_trans : {A : Type 0} (xs ys zs : List A) → Ends xs ys → Ends ys zs → Ends xs zs
ends_trans xs ys zs p q =
    (q.0 ++ p.0, q.1 ∙ ap (λ l. q.0 ++ l) p.1 ∙ sym (append_assoc q.0 p.0 xs))

pub continues_refl : (w : World) → Continues w w
continues_refl w = record {
  output = begins_refl w.output;
  events = begins_refl w.store.deeds;
  input = ([], refl);
}

pub continues_trans : {u v w : World} → Continues u v → Continues v w → Continues u w
continues_trans {u} {v} {w} p q = record {
  output = begins_trans u.output v.output w.output p.output q.output;
  events = begins_trans u.store.deeds v.store.deeds w.store.deeds p.events q.events;
  input = ends_trans w.left v.left u.left q.input p.input;
}

-- the world that an action leaves
abbrev pub world_in : {A : Type 0} → Out A → World
world_in (gives a world left) = world
world_in (aborts fault world left) = world
world_in (cut world) = world
world_in (no_rule world left) = world

-- ---- one action

-- an action goes on from its world, and leaves no more ticks than it had
pub record Proper {A : Type 0} (m : Action A) : Type 0 where
  pub tells : (w : World) (n : ℕ) → Continues w (world_in (m w n))
  pub spends : (w : World) (n : ℕ) → left_in (m w n) ≤ n

follows_tells : {A B : Type 0} (w : World) (r : Out A) (go : A → Action B) → Continues w (world_in r)
    → ((a : A) → Proper (go a)) → Continues w (world_in (follows r go))
unfolding follows
follows_tells w (gives a world left) go c p = continues_trans c ((p a).tells world left)
follows_tells w (aborts fault world left) go c p = c
follows_tells w (cut world) go c p = c
follows_tells w (no_rule world left) go c p = c

follows_spends : {A B : Type 0} (n : ℕ) (r : Out A) (go : A → Action B) → left_in r ≤ n
    → ((a : A) → Proper (go a)) → left_in (follows r go) ≤ n
unfolding follows
follows_spends n (gives a world left) go h p = le_trans ((p a).spends world left) h
follows_spends n (aborts fault world left) go h p = h
follows_spends n (cut world) go h p = h
follows_spends n (no_rule world left) go h p = h

pub proper_bind : {A B : Type 0} {m : Action A} {k : A → Action B} → Proper m → ((a : A) → Proper (k a))
    → Proper (m >>= k)
proper_bind {A} {B} {m} {k} pm pk = record {
  tells = λ w n. follows_tells w (m w n) k (pm.tells w n) pk;
  spends = λ w n. follows_spends n (m w n) k (pm.spends w n) pk;
}

pub proper_pure : {A : Type 0} {a : A} → Proper (pure a)
proper_pure = record { tells = λ w n. continues_refl w; spends = λ w n. le_refl n }

pub proper_stuck : {A : Type 0} → Proper {A = A} stuck
proper_stuck = record { tells = λ w n. continues_refl w; spends = λ w n. le_refl n }

pub proper_over : {A : Type 0} → Proper {A = A} over
proper_over = record { tells = λ w n. continues_refl w; spends = λ w n. omega arith }

ticked_tells : {A : Type 0} (m : Action A) (w : World) (n : ℕ) → Proper m
    → Continues w (world_in (ticked m w n))
unfolding ticked
ticked_tells m w zero p = continues_refl w
ticked_tells m w (suc n) p = p.tells w n

ticked_spends : {A : Type 0} (m : Action A) (w : World) (n : ℕ) → Proper m → left_in (ticked m w n) ≤ n
unfolding ticked
ticked_spends m w zero p = le_refl 0
ticked_spends m w (suc n) p = le_trans (p.spends w n) (omega arith)

pub proper_tick : {A : Type 0} {m : Action A} → Proper m → Proper (tick m)
proper_tick {A} {m} p = record {
  tells = λ w n. ticked_tells m w n p;
  spends = λ w n. ticked_spends m w n p;
}

proper_truth : {A : Type 0} {m k : Action A} (b : Bool) → Proper m → Proper k → Proper (by_truth m k b)
proper_truth true p q = p
proper_truth false p q = q

proper_needing : {A B : Type 0} {k : A → Action B} (o : Option A) → ((a : A) → Proper (k a))
    → Proper (needing o k)
proper_needing None p = proper_stuck
proper_needing (Some a) p = p a

pub proper_chosen : {A : Type 0} {m k : Action A} (v : Value) → Proper m → Proper k → Proper (chosen m k v)
proper_chosen v p q = proper_needing (truth_in v) (λ b. proper_truth b p q)

pub proper_if : {A : Type 0} {m k : Action A} (b : Bool) → Proper m → Proper k → Proper (if b then m else k)
proper_if true p q = p
proper_if false p q = q

-- ---- two actions

-- what an action came to, and what another comes to that had so many ticks more
abbrev pub More : {A : Type 0} → ℕ → Out A → Out A → Type 0
More j (gives a w l) r = r ≡ gives a w (l + j)
More j (aborts f w l) r = r ≡ aborts f w (l + j)
More j (cut w) r = Continues w (world_in r)
More j (no_rule w l) r = r ≡ no_rule w (l + j)

-- the second action with more ticks does what the first one did, and goes on where that was cut
pub record Grows {A : Type 0} (m m2 : Action A) : Type 0 where
  pub more : (w : World) (n j : ℕ) → More j (m w n) (m2 w (n + j))
  pub proper : Proper m2

bind_more : {A B : Type 0} (j : ℕ) (r r2 : Out A) (k k2 : A → Action B) → More j r r2
    → ((a : A) → Grows (k a) (k2 a)) → More j (follows r k) (follows r2 k2)
unfolding follows
bind_more j (gives a w l) r2 k k2 e g =
    subst (λ r. More j (k a w l) (follows r k2)) (sym e) ((g a).more w l j)
bind_more j (aborts f w l) r2 k k2 e g = ap (λ r. follows r k2) e
bind_more j (cut w) r2 k k2 c g = follows_tells w r2 k2 c (λ a. (g a).proper)
bind_more j (no_rule w l) r2 k k2 e g = ap (λ r. follows r k2) e

pub grows_bind : {A B : Type 0} {m m2 : Action A} {k k2 : A → Action B} → Grows m m2
    → ((a : A) → Grows (k a) (k2 a)) → Grows (m >>= k) (m2 >>= k2)
grows_bind {A} {B} {m} {m2} {k} {k2} g h = record {
  more = λ w n j. bind_more j (m w n) (m2 w (n + j)) k k2 (g.more w n j) h;
  proper = proper_bind g.proper (λ a. (h a).proper);
}

pub grows_then : {A B : Type 0} {m m2 : Action A} {k k2 : Action B} → Grows m m2 → Grows k k2
    → Grows (m >> k) (m2 >> k2)
grows_then g h = grows_bind g (λ a. h)

pub grows_pure : {A : Type 0} {a : A} → Grows (pure a) (pure a)
grows_pure = record { more = λ w n j. refl; proper = proper_pure }

pub grows_stuck : {A : Type 0} → Grows {A = A} stuck stuck
grows_stuck = record { more = λ w n j. refl; proper = proper_stuck }

pub grows_over : {A : Type 0} {m : Action A} → Proper m → Grows over m
grows_over p = record { more = λ w n j. p.tells w (n + j); proper = p }

tick_more : {A : Type 0} (m m2 : Action A) (w : World) (n j : ℕ) → Grows m m2
    → More j (ticked m w n) (ticked m2 w (n + j))
unfolding ticked
tick_more m m2 w zero j g = ticked_tells m2 w (0 + j) g.proper
tick_more m m2 w (suc n) j g =
    let e : suc (n + j) ≡ suc n + j = omega arith in
    subst (λ k. More j (m w n) (ticked m2 w k)) e (g.more w n j)

pub grows_tick : {A : Type 0} {m m2 : Action A} → Grows m m2 → Grows (tick m) (tick m2)
grows_tick {A} {m} {m2} g = record {
  more = λ w n j. tick_more m m2 w n j g;
  proper = proper_tick g.proper;
}

pub grows_needing : {A B : Type 0} {k k2 : A → Action B} (o : Option A) → ((a : A) → Grows (k a) (k2 a))
    → Grows (needing o k) (needing o k2)
grows_needing None g = grows_stuck
grows_needing (Some a) g = g a

pub grows_where : {A : Type 0} {m m2 : Action A} (b : Bool) → Grows m m2
    → Grows (where_true b m) (where_true b m2)
grows_where true g = g
grows_where false g = grows_stuck

grows_truth : {A : Type 0} {m m2 k k2 : Action A} (b : Bool) → Grows m m2 → Grows k k2
    → Grows (by_truth m k b) (by_truth m2 k2 b)
grows_truth true g h = g
grows_truth false g h = h

pub grows_chosen : {A : Type 0} {m m2 k k2 : Action A} (v : Value) → Grows m m2 → Grows k k2
    → Grows (chosen m k v) (chosen m2 k2 v)
grows_chosen v g h = grows_needing (truth_in v) (λ b. grows_truth b g h)

pub grows_if : {A : Type 0} {m m2 k k2 : Action A} (b : Bool) → Grows m m2 → Grows k k2
    → Grows (if b then m else k) (if b then m2 else k2)
grows_if true g h = g
grows_if false g h = h

-- ---- actions that look at no ticks

-- what is found in the world
asks_more : {A : Type 0} (o : Option A) (w : World) (n j : ℕ)
    → More j (needing o pure w n) (needing o pure w (n + j))
asks_more None w n j = refl
asks_more (Some a) w n j = refl

asks_tells : {A : Type 0} (o : Option A) (w : World) (n : ℕ) → Continues w (world_in (needing o pure w n))
asks_tells None w n = continues_refl w
asks_tells (Some a) w n = continues_refl w

asks_spends : {A : Type 0} (o : Option A) (w : World) (n : ℕ) → left_in (needing o pure w n) ≤ n
asks_spends None w n = le_refl n
asks_spends (Some a) w n = le_refl n

pub grows_asks : {A : Type 0} (find : World → Option A) → Grows (asks find) (asks find)
grows_asks find = record {
  more = λ w n j. asks_more (find w) w n j;
  proper = record { tells = λ w n. asks_tells (find w) w n; spends = λ w n. asks_spends (find w) w n };
}

-- the world becomes another
pub grows_does : {change : World → World} → ((w : World) → Continues w (change w))
    → Grows (does change) (does change)
grows_does told = record {
  more = λ w n j. refl;
  proper = record { tells = λ w n. told w; spends = λ w n. le_refl n };
}

-- the same, where something is given with it
abbrev pub Found : {A : Type 0} → World → Option (A × World) → Type 0
Found w None = Unit {0}
Found w (Some pair) = Continues w pair.1

found_more : {A : Type 0} (o : Option (A × World)) (w : World) (n j : ℕ)
    → More j (found_in o w n) (found_in o w (n + j))
found_more None w n j = refl
found_more (Some pair) w n j = refl

found_tells : {A : Type 0} (o : Option (A × World)) (w : World) (n : ℕ) → Found w o
    → Continues w (world_in (found_in o w n))
found_tells None w n told = continues_refl w
found_tells (Some pair) w n told = told

found_spends : {A : Type 0} (o : Option (A × World)) (w : World) (n : ℕ) → left_in (found_in o w n) ≤ n
found_spends None w n = le_refl n
found_spends (Some pair) w n = le_refl n

pub grows_takes : {A : Type 0} (change : World → Option (A × World)) → ((w : World) → Found w (change w))
    → Grows (takes change) (takes change)
grows_takes change told = record {
  more = λ w n j. found_more (change w) w n j;
  proper = record {
    tells = λ w n. found_tells (change w) w n (told w);
    spends = λ w n. found_spends (change w) w n;
  };
}

-- operations on values
pub grows_comes : (r : answer.Result Bytes) → Grows (comes r) (comes r)
grows_comes (answer.value value) = grows_pure
grows_comes (answer.fault fault) = record {
  more = λ w n j. refl;
  proper = record { tells = λ w n. continues_refl w; spends = λ w n. le_refl n };
}
grows_comes answer.no_rule = grows_stuck
