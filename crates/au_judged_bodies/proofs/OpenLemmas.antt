-- A borrow statement, said of all names at once.
use Rattle.std.proofs.Common.{◌≡◌, ◌⊎◌, inl, inr, ℕ, ◌==◌, Bool, true, false, List, [], ◌∷◌}
use Rattle.std.proofs.Common.{Option, Some, None, refl, sym, ap, subst, ◌∙◌, arith, if◌then◌else◌}
use Rattle.std.proofs.lemmas.Bool.{eq-eqb, eqb-true, false_from_ne_true}
use Rattle.std.specs.Str.{bytes_eq}
use Rattle.au_base.proofs.TextLemmas.{bytes_same, bytes_self}
use Rattle.au_ahead.specs.Ready.{Ready}
use Rattle.au_lending.specs.Ending.{freed, left_watched, others_of}
use Rattle.au_lives.specs.Lives as life
use Rattle.au_lives.specs.Lives.{held_from, opening_counts, tighter}
use Rattle.au_lives.specs.Mentions.{Counts, borrowed_by, unmentioned}
use Rattle.au_lives.specs.Paths as paths
use Rattle.au_lives.specs.Paths.{access_of, declared}
use Rattle.au_memory.specs.Forests.{Hold, empty, ready, shut, watched}
use Rattle.au_meaning.specs.Names.{Scope, Variable, mode_of, variable_of}
use Rattle.au_syntax.specs.declared.expressions.BorrowMode.{BorrowMode}
use Rattle.au_syntax.specs.declared.expressions.BorrowMode.TheVariants as mode
use Rattle.au_syntax.specs.declared.types.Access.{Access}
use Rattle.au_syntax.specs.declared.types.Access.TheVariants as access
use Rattle.au_syntax.specs.Plain.{Bytes}
use Rattle.au_running_lives.specs.Lives.{AreReady, IsNew, freed_each, lending, lent_for, stand}
use Rattle.au_running_lives.specs.Uses.{where_of}
use Rattle.au_judged_bodies.specs.NamesAheadStanding.{hold_of, is_named, left, standing}
use Rattle.au_judged_bodies.proofs.ScopeLemmas.{Numbered, apart, named, unnamed}
use Rattle.au_judged_bodies.proofs.StepLemmas.{Well}

-- ---- one name

pub opened : (m : BorrowMode) (u : Bool) (h : Hold) → Ready (stand (left u h)) (borrowed_by m)
    → (u ≡ false) × Ready (stand h) (borrowed_by m)
opened m false h r = (refl, r)
opened mode.Read true h r = let never : 1 ≡ 0 = r.2 in absurd (omega (arith, never))
opened mode.Write true h r = let never : 1 ≡ 0 = r.1 in absurd (omega (arith, never))
opened mode.Reborrow true h r = let never : 1 ≡ 0 = r.1 in absurd (omega (arith, never))

shut_back : (z : ℕ) → freed z (shut z) ≡ ready
shut_back z = ap (λ (b : Bool). if b then ready else shut z) (eq-eqb z z refl)

watched_back : (z : ℕ) (tokens : List ℕ) → freed z (watched (z ∷ tokens)) ≡ left_watched (others_of z tokens)
watched_back z tokens =
    ap (λ (b : Bool). left_watched (if b then others_of z tokens else z ∷ others_of z tokens))
    (eq-eqb z z refl)

-- what it was lent for ends, and it is as it was
lent_back : (m : BorrowMode) (z : ℕ) (h : Hold) → freed z h ≡ h → Ready (stand h) (borrowed_by m)
    → freed z (lent_for m z h) ≡ h
lent_back mode.Write z ready same r = shut_back z
lent_back mode.Write z empty same r = let never : 1 ≡ 0 = r.1 in absurd (omega (arith, never))
lent_back mode.Write z (shut y) same r = let never : 1 ≡ 0 = r.1 in absurd (omega (arith, never))
lent_back mode.Write z (watched ys) same r = let never : 1 ≡ 0 = r.1 in absurd (omega (arith, never))
lent_back mode.Reborrow z ready same r = shut_back z
lent_back mode.Reborrow z empty same r = let never : 1 ≡ 0 = r.1 in absurd (omega (arith, never))
lent_back mode.Reborrow z (shut y) same r = let never : 1 ≡ 0 = r.1 in absurd (omega (arith, never))
lent_back mode.Reborrow z (watched ys) same r = let never : 1 ≡ 0 = r.1 in absurd (omega (arith, never))
lent_back mode.Read z ready same r = watched_back z []
lent_back mode.Read z empty same r = let never : 1 ≡ 0 = r.2 in absurd (omega (arith, never))
lent_back mode.Read z (shut y) same r = let never : 1 ≡ 0 = r.2 in absurd (omega (arith, never))
lent_back mode.Read z (watched ys) same r = watched_back z ys ∙ same

-- how it is held is how the statement holds it
held_for : (m : BorrowMode) (z : ℕ) (h : Hold) → hold_of (lent_for m z h) ≡ tighter (access_of m) (hold_of h)
held_for mode.Write z empty = refl
held_for mode.Write z ready = refl
held_for mode.Write z (shut y) = refl
held_for mode.Write z (watched ys) = refl
held_for mode.Reborrow z empty = refl
held_for mode.Reborrow z ready = refl
held_for mode.Reborrow z (shut y) = refl
held_for mode.Reborrow z (watched ys) = refl
held_for mode.Read z empty = refl
held_for mode.Read z ready = refl
held_for mode.Read z (shut y) = refl
held_for mode.Read z (watched ys) = refl

pub opening_is : (m : BorrowMode) → opening_counts (access_of m) ≡ borrowed_by m
opening_is mode.Read = refl
opening_is mode.Write = refl
opening_is mode.Reborrow = refl

pub mode_is : (a : Access) → access_of (mode_of a) ≡ a
mode_is access.Read = refl
mode_is access.Write = refl

same_number : (w v : Variable) → ◌≡◌ {A = Option Variable} (Some w) (Some v) → w.number ≡ v.number
same_number w v e = let is : w ≡ v = cc in ap (λ (u : Variable). u.number) is

-- ---- all names

module _ (number : ℕ) (scope : Scope) (zs : List ℕ) (lent : ℕ → Hold) (gone : ℕ
    → Bool) (numbered : Numbered number scope)
    (well : Well scope zs lent gone) (m : BorrowMode) (y : Bytes)
    (asks : AreReady (standing scope lent gone) (λ k. where_of k (variable_of scope y) (borrowed_by m)))
    (z : ℕ)
    (new : IsNew z (standing scope lent gone)) where
  abbrev pub then_lent : ℕ → Hold
  then_lent k = lending m z (variable_of scope y) lent k

  -- what is lent is ready for it
  can : (v : Variable) → variable_of scope y ≡ Some v
      → (gone v.number ≡ false) × Ready (stand (lent v.number)) (borrowed_by m)
  can v there =
      let n = v.number in
      let counted : where_of n (variable_of scope y) (borrowed_by m) ≡ borrowed_by m =
      ap (λ (o : Option Variable). where_of n o (borrowed_by m)) there
      ∙ ap (λ (b : Bool). if b then borrowed_by m else unmentioned) (eq-eqb n n refl) in
      let stood : standing scope lent gone n ≡ left (gone n) (lent n) =
      ap (λ (b : Bool). if b then left (gone n) (lent n) else empty) (named scope y v there) in
      opened m (gone n) (lent n)
      (subst (λ (h : Hold). Ready (stand h) (borrowed_by m)) stood
      (subst (λ (c : Counts). Ready (stand (standing scope lent gone n)) c) counted (asks n)))

  -- a name that waits for no new token
  waits : (k : ℕ) → freed z (lent k) ≡ lent k
  waits k = by (well.kept k)
    where
      free : lent k ≡ ready → freed z (lent k) ≡ lent k
      free is = subst (λ (h : Hold). freed z h ≡ h) (sym is) refl

      there : gone k ≡ false → (b : Bool) → is_named k scope ≡ b → freed z (lent k) ≡ lent k
      there is false lacks = free (well.idle k lacks).0
      there is true sure =
          let stood : standing scope lent gone k ≡ lent k =
          ap (λ (b : Bool). if b then left (gone k) (lent k) else empty) sure
          ∙ ap (λ (u : Bool). left u (lent k)) is in
          subst (λ (h : Hold). freed z h ≡ h) stood (new k)

      by : (lent k ≡ ready) ⊎ (gone k ≡ false) → freed z (lent k) ≡ lent k
      by (inl is) = free is
      by (inr is) = there is (is_named k scope) refl

  pub lent_ends : (k : ℕ) → freed z (then_lent k) ≡ lent k
  lent_ends k = by (variable_of scope y) refl
    where
      own : (v : Variable) → variable_of scope y ≡ Some v → v.number ≡ k
          → freed z (lent_for m z (lent v.number)) ≡ lent k
      own v there same =
          lent_back m z (lent v.number) (waits v.number) (can v there).1 ∙ ap lent same

      at : (v : Variable) → variable_of scope y ≡ Some v → (b : Bool) → (v.number == k) ≡ b
          → freed z (if b then lent_for m z (lent v.number) else lent k) ≡ lent k
      at v there true same = own v there (eqb-true v.number k same)
      at v there false same = waits k

      by : (o : Option Variable) → variable_of scope y ≡ o → freed z (lending m z o lent k) ≡ lent k
      by None is = waits k
      by (Some v) is = at v is (v.number == k) refl

  -- what isn't in scope isn't lent
  others : (k : ℕ) → is_named k scope ≡ false → then_lent k ≡ lent k
  others k lacks = by (variable_of scope y) refl
    where
      by : (o : Option Variable) → variable_of scope y ≡ o → lending m z o lent k ≡ lent k
      by None is = refl
      by (Some v) is =
          ap (λ (b : Bool). if b then lent_for m z (lent v.number) else lent k)
          (false_from_ne_true (v.number == k) (λ same. unnamed scope y v k lacks is
          (eqb-true v.number k same)))

  pub open_well : Well scope (z ∷ zs) then_lent gone
  open_well = record {
    idle = λ k lacks. (others k lacks ∙ (well.idle k lacks).0, (well.idle k lacks).1);
    kept = λ k. by k (variable_of scope y) refl;
    awaited = λ k. ap (freed_each zs) (lent_ends k) ∙ well.awaited k;
  }
    where
      at : (k : ℕ) (v : Variable) → variable_of scope y ≡ Some v → (b : Bool) → (v.number == k) ≡ b
          → ((if b then lent_for m z (lent v.number) else lent k) ≡ ready) ⊎ (gone k ≡ false)
      at k v there true same =
          inr (subst (λ (n : ℕ). gone n ≡ false) (eqb-true v.number k same) (can v there).0)
      at k v there false same = well.kept k

      by : (k : ℕ) (o : Option Variable) → variable_of scope y ≡ o
          → (lending m z o lent k ≡ ready) ⊎ (gone k ≡ false)
      by k None is = well.kept k
      by k (Some v) is = at k v is (v.number == k) refl

  pub open_same : standing scope then_lent gone ≡ lending m z (variable_of scope y) (standing scope lent gone)
  open_same = λ i k. by k (variable_of scope y) refl i
    where
      at : (k : ℕ) (v : Variable) → variable_of scope y ≡ Some v → (b : Bool) → (v.number == k) ≡ b
          → (if is_named k scope then left (gone k) (if b then lent_for m z
          (lent v.number) else lent k) else empty)
          ≡ (if b then lent_for m z (standing scope lent gone v.number) else standing scope lent gone k)
      at k v there false same = refl
      at k v there true same =
          let n = v.number in
          let is : n ≡ k = eqb-true n k same in
          let sure : is_named n scope ≡ true = named scope y v there in
          let whole : gone n ≡ false = (can v there).0 in
          let first : (if is_named n scope then left (gone n) (lent_for m z
          (lent n)) else empty) ≡ lent_for m z (lent n) =
          ap (λ (b : Bool). if b then left (gone n) (lent_for m z (lent n)) else empty) sure
          ∙ ap (λ (u : Bool). left u (lent_for m z (lent n))) whole in
          let second : lent_for m z (standing scope lent gone n) ≡ lent_for m z (lent n) =
          ap (lent_for m z) (ap (λ (b : Bool). if b then left (gone n) (lent n) else empty) sure
          ∙ ap (λ (u : Bool). left u (lent n)) whole) in
          subst (λ (j : ℕ). (if is_named j scope then left (gone j) (lent_for m z (lent n)) else empty)
          ≡ lent_for m z (standing scope lent gone n)) is (first ∙ sym second)

      by : (k : ℕ) (o : Option Variable) → variable_of scope y ≡ o
          → (if is_named k scope then left (gone k) (lending m z o lent k) else empty)
          ≡ lending m z o (standing scope lent gone) k
      by k None is = refl
      by k (Some v) is = at k v is (v.number == k) refl

  -- how names are held in its block
  pub open_held : (a : Access) → a ≡ access_of m → (r : Bytes) → variable_of scope r ≡ None
      → (x : Bytes) (v : Variable)
      → variable_of scope x ≡ Some v
      → held_from x (declared r ∷ paths.lent a y ∷ []) (hold_of (lent v.number)) ≡ hold_of
      (then_lent v.number)
  open_held a same r fresh x v there =
      ap (λ (b : Bool). if b then life.hidden else (if bytes_eq y x then tighter a (hold_of (lent v.number))
      else hold_of (lent v.number)))
      (apart scope r x v fresh there)
      ∙ by (bytes_eq y x) refl (variable_of scope y) refl
    where
      by : (b : Bool) → bytes_eq y x ≡ b → (o : Option Variable) → variable_of scope y ≡ o
          → (if b then tighter a (hold_of (lent v.number)) else hold_of (lent v.number))
          ≡ hold_of (lending m z o lent v.number)
      by true is None gives = let clash : ◌≡◌ {A = Option Variable} None (Some v) =
          sym gives ∙ (ap (variable_of scope) (bytes_same y x is) ∙ there) in absurd cc
      by true is (Some w) gives =
          let found : ◌≡◌ {A = Option Variable} (Some w) (Some v) =
          sym gives ∙ (ap (variable_of scope) (bytes_same y x is) ∙ there) in
          let number_is : w.number ≡ v.number = same_number w v found in
          sym (ap hold_of (ap (λ (b : Bool). if b then lent_for m z (lent w.number) else lent v.number)
          (eq-eqb w.number v.number number_is)
          ∙ ap (λ (j : ℕ). lent_for m z (lent j)) number_is)
          ∙ (held_for m z (lent v.number) ∙ ap (λ (b : Access). tighter b (hold_of (lent v.number)))
          (sym same)))
      by false is None gives = refl
      by false is (Some w) gives =
          sym (ap (λ (b : Bool). hold_of (if b then lent_for m z (lent w.number) else lent v.number))
          (false_from_ne_true (w.number == v.number) (λ twice.
          let one : y ≡ x = numbered.unique y x w v gives there (eqb-true w.number v.number twice) in
          let sure : bytes_eq y x ≡ true = subst (λ (t : Bytes). bytes_eq t x ≡ true) (sym one)
          (bytes_self x) in
          let clash : true ≡ false = sym sure ∙ is in absurd cc)))

  -- ---- its end

  module _ (last : ℕ → Bool) where
    pub shut_same : (λ (k : ℕ). freed z (standing scope then_lent last k)) ≡ standing scope lent last
    shut_same = λ i k. by k (is_named k scope) i
      where
        back : (k : ℕ) (u : Bool) → freed z (left u (then_lent k)) ≡ left u (lent k)
        back k true = refl
        back k false = lent_ends k

        by : (k : ℕ) (b : Bool) → freed z (if b then left (last k) (then_lent k) else empty)
            ≡ (if b then left (last k) (lent k) else empty)
        by k true = back k (last k)
        by k false = refl

    pub shut_well : Well scope (z ∷ zs) then_lent last → Well scope zs lent last
    shut_well inner = record {
      idle = λ k lacks. ((well.idle k lacks).0, (inner.idle k lacks).1);
      kept = λ k. by k (inner.kept k);
      awaited = well.awaited;
    }
      where
        by : (k : ℕ) → (then_lent k ≡ ready) ⊎ (last k ≡ false) → (lent k ≡ ready) ⊎ (last k ≡ false)
        by k (inl is) = inl (sym (lent_ends k) ∙ ap (freed z) is)
        by k (inr is) = inr is
