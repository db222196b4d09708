-- What a walk says of the turns of a loop whose parts leave the state as it is.
use Rattle.std.proofs.Common.{◌≡◌, ℕ, zero, suc, ◌==◌, Bool, true, false, List, [], ◌∷◌, ◌++◌, length, drop}
use Rattle.std.proofs.Common.{Ok, Err, refl, sym, ap, subst, ◌∙◌, if◌then◌else◌}
use Rattle.std.proofs.lemmas.List.{append_assoc}
use Rattle.au_lives.specs.declared.lives.LifeKind.{LifeKind}
use Rattle.au_lives.specs.Lives.{Fate, going, broken}
use Rattle.au_lives.specs.Paths.{first}
use Rattle.au_lives.specs.Walks.{Reach, Walk, ◌>>=◌, choose, left, Drive, drives, Machine, picking, onto}
use Rattle.au_lives.specs.Walks.{step_by, in_turn, leave, turning, turns_by, looping, armed, chosen}
use Rattle.au_lives.proofs.Summaries.{Has, Fine, Passes, Comes, Broken, Breaks, Sums, Summed, Absorbs}
use Rattle.au_lives.proofs.Summaries.{fine_onto, breaks_onto, choose_is, choose_has, step_comes, pick_breaks}

-- where it goes on, it is in the state in which it began
abbrev pub Keeps : Machine → Type 0
Keeps m = (s t : Bool) (cs : List ℕ) → (m (going s) cs).fate ≡ going t → t ≡ s

-- what follows the test
abbrev again : Machine → Machine → Machine
again body rest w ds = if first ds == 0 then leave w ds else onto (turning body w ds) rest

abbrev state_of : Fate → Bool
state_of (going s) = s
state_of (broken k) = false

abbrev is_broken : Fate → Bool
is_broken (going s) = false
is_broken (broken k) = true

pub going_same : (s t : Bool) → going s ≡ going t → s ≡ t
going_same s t h = ap state_of h

pub broken_going : {A : Type 0} (k : LifeKind) (s : Bool) → broken k ≡ going s → A
broken_going k s h = let wrong : true ≡ false = ap is_broken h in absurd (cc)

by_fate : (b : Bool) (x y : Drive) (v : Fate) → x.fate ≡ v → y.fate ≡ v → (if b then x else y).fate ≡ v
by_fate true x y v g h = g
by_fate false x y v g h = h

by_fine : (b : Bool) (x y : Drive) (u : Reach) → Fine x u → Fine y u → Fine (if b then x else y) u
by_fine true x y u g h = g
by_fine false x y u g h = h

by_state : (b : Bool) (x y : Drive) (s t : Bool) → (x.fate ≡ going t → t ≡ s) → (y.fate ≡ going t → t ≡ s) →
    (if b then x else y).fate ≡ going t → t ≡ s
by_state true x y s t g h e = g e
by_state false x y s t g h e = h e

absorbs_on : (v : Fate) (t cs : List ℕ) (b : Bool) (k : Machine) (e : LifeKind) → v ≡ broken e → Absorbs k →
    (onto (drives v t cs b) k).fate ≡ broken e
absorbs_on v t cs true k e h a = h
absorbs_on v t cs false k e h a = ap (λ w. (k w cs).fate) h ∙ a e cs

pub absorbs_onto : (m k : Machine) → Absorbs m → Absorbs k → Absorbs (in_turn m k)
absorbs_onto m k a b e cs = let d = m (broken e) cs in
    absorbs_on d.fate d.taken d.rest d.returned k e (a e cs) b

pub absorbs_step : (f : Bool → Fate) → Absorbs (step_by f)
absorbs_step f e cs = refl

absorbs_again : (body rest : Machine) → Absorbs body → Absorbs rest → Absorbs (again body rest)
absorbs_again body rest a b e ds =
    by_fate (first ds == 0) (leave (broken e) ds) (onto (turning body (broken e) ds) rest) (broken e) refl
    (absorbs_onto (turning body) rest (λ k cs. a k (drop 1 cs)) b e ds)

absorbs_leave : Absorbs leave
absorbs_leave e cs = refl

pub absorbs_turns : (f : Bool → Fate) (body : Machine) (n : ℕ) → Absorbs body →
    Absorbs (turns_by (step_by f) body n)
absorbs_turns f body zero a = absorbs_onto (step_by f) leave (absorbs_step f) absorbs_leave
absorbs_turns f body (suc n) a =
    absorbs_onto (step_by f) (again body (turns_by (step_by f) body n)) (absorbs_step f)
    (absorbs_again body (turns_by (step_by f) body n) a (absorbs_turns f body n a))

pub absorbs_looping : (f : Bool → Fate) (body : Machine) → Absorbs body → Absorbs (looping (step_by f) body)
absorbs_looping f body a e cs = absorbs_turns f body (length cs) a e cs

pub absorbs_armed : (f : Bool → Fate) (m : Machine) (others : ℕ → Machine) → Absorbs m →
    ((n : ℕ) → Absorbs (others n)) → (n : ℕ) → Absorbs (armed (step_by f) m others n)
absorbs_armed f m others a b zero = absorbs_onto (step_by f) m (absorbs_step f) a
absorbs_armed f m others a b (suc n) = absorbs_onto (step_by f) (others n) (absorbs_step f) (b n)

pub absorbs_chosen : (last : ℕ) (ms : ℕ → Machine) → ((n : ℕ) → Absorbs (ms n)) → Absorbs (chosen last ms)
absorbs_chosen last ms a e cs = a (first cs) e (drop 1 cs)

keeps_from : (v : Fate) (cs : List ℕ) (k : Machine) (s t : Bool) → ((u : Bool) → v ≡ going u → u ≡ s) →
    Keeps k → Absorbs k → (k v cs).fate ≡ going t → t ≡ s
keeps_from (going u) cs k s t a b c h = b u t cs h ∙ a u refl
keeps_from (broken e) cs k s t a b c h = broken_going e t (sym (c e cs) ∙ h)

keeps_on : (v : Fate) (l cs : List ℕ) (b : Bool) (k : Machine) (s t : Bool) →
    ((u : Bool) → v ≡ going u → u ≡ s) → Keeps k → Absorbs k → (onto (drives v l cs b) k).fate ≡ going t → t
    ≡ s
keeps_on v l cs true k s t a b c h = a t h
keeps_on v l cs false k s t a b c h = keeps_from v cs k s t a b c h

pub keeps_onto : (m k : Machine) → Keeps m → Keeps k → Absorbs k → Keeps (in_turn m k)
keeps_onto m k a b c s t cs h = let d = m (going s) cs in
    keeps_on d.fate d.taken d.rest d.returned k s t (λ u e. a s u cs e) b c h

pub keeps_going : Keeps (step_by going)
keeps_going s t cs h = sym (going_same s t h)

keeps_leave : Keeps leave
keeps_leave s t cs h = sym (going_same s t h)

keeps_again : (body rest : Machine) → Keeps body → Keeps rest → Absorbs rest → Keeps (again body rest)
keeps_again body rest a b c s t ds h =
    by_state (first ds == 0) (leave (going s) ds) (onto (turning body (going s) ds) rest) s t
    (keeps_leave s t ds)
    (keeps_onto (turning body) rest (λ u v cs. a u v (drop 1 cs)) b c s t ds) h

pub keeps_turns : (f : Bool → Fate) (body : Machine) (n : ℕ) → Keeps (step_by f) → Keeps body → Absorbs body →
    Keeps (turns_by (step_by f) body n)
keeps_turns f body zero a b c = keeps_onto (step_by f) leave a keeps_leave absorbs_leave
keeps_turns f body (suc n) a b c =
    let rest = turns_by (step_by f) body n in
    keeps_onto (step_by f) (again body rest) a
    (keeps_again body rest b (keeps_turns f body n a b c) (absorbs_turns f body n c))
    (absorbs_again body rest c (absorbs_turns f body n c))

pub keeps_looping : (f : Bool → Fate) (body : Machine) → Keeps (step_by f) → Keeps body → Absorbs body →
    Keeps (looping (step_by f) body)
keeps_looping f body a b c s t cs h = keeps_turns f body (length cs) a b c s t cs h

pub keeps_armed : (f : Bool → Fate) (m : Machine) (others : ℕ → Machine) → Keeps (step_by f) → Keeps m →
    Absorbs m → ((n : ℕ) → Keeps (others n)) → ((n : ℕ) → Absorbs (others n)) → (n : ℕ) →
    Keeps (armed (step_by f) m others n)
keeps_armed f m others a b c d e zero = keeps_onto (step_by f) m a b c
keeps_armed f m others a b c d e (suc n) = keeps_onto (step_by f) (others n) a (d n) (e n)

pub keeps_chosen : (last : ℕ) (ms : ℕ → Machine) → ((n : ℕ) → Keeps (ms n)) → Keeps (chosen last ms)
keeps_chosen last ms a s t cs h = a (first cs) s t (drop 1 cs) h

-- Turns.
turn_on : (v : Fate) (l cs : List ℕ) (b : Bool) (rest : Machine) (s : Bool) (u : Reach) → v ≡ going s →
    ((ds : List ℕ) → Fine (rest (going s) ds) u) → Fine (onto (drives v l cs b) rest) u
turn_on v l cs true rest s u h g =
    record { state = s; fate = h; within = λ n. let wrong : true ≡ false = n in absurd (cc) }
turn_on v l cs false rest s u h g =
    let y : Fine (rest v cs) u = subst (λ (z : Fate). Fine (rest z cs) u) (sym h) (g cs) in
    record { state = y.state; fate = y.fate; within = y.within }

module _ (f : Bool → Fate) (body : Machine) (r q : Reach) (keeps : Keeps (step_by f))
    (body_keeps : Keeps body) (a : Absorbs body) (t : Sums (step_by f) r q) where
  -- a state behind the test was there before it
  back : (s : Bool) (p : List ℕ) → Has q s p → Has r s p
  back s p h =
      let c = step_comes f r s p (t.comes s p h) in
      let same : s ≡ c.0 = keeps c.0 s [] c.2 in
      subst (λ (z : Bool). Has r z p) (sym same) c.1

  leave_passes : Passes leave q (choose 0 q)
  leave_passes s p h cs = record { state = s; fate = refl; within = λ n. (p ++ 0 ∷ [], choose_has 0 q s p h) }

  module _ (o : Reach) (h : Sums body (choose 1 q) o) where
    turns_pass : (n : ℕ) → Passes (turns_by (step_by f) body n) r (choose 0 q)
    turns_pass zero = λ s p k cs.
        fine_onto (step_by f (going s) cs) leave q (choose 0 q) (t.passes s p k cs) leave_passes
    turns_pass (suc n) =
        let rest = turns_by (step_by f) body n in
        let onward : Passes (again body rest) q (choose 0 q) = λ s p k ds.
        let b = h.passes s (p ++ 1 ∷ []) (choose_has 1 q s p k) (drop 1 ds) in
        let d = turning body (going s) ds in
        by_fine (first ds == 0) (leave (going s) ds) (onto d rest) (choose 0 q) (leave_passes s p k ds)
        (turn_on d.fate d.taken d.rest d.returned rest s (choose 0 q) (b.fate
        ∙ ap going (body_keeps s b.state (drop 1 ds) b.fate)) (λ cs. turns_pass n s p (back s p k) cs)) in
        λ s p k cs. fine_onto (step_by f (going s) cs) (again body rest) q (choose 0 q) (t.passes s p k cs)
        onward

  loop_comes : (s : Bool) (p : List ℕ) → Has (choose 0 q) s p → Comes (looping (step_by f) body) r s p
  loop_comes s p k =
      let c = choose_is 0 q s p k in
      let d = step_comes f r s c.0 (t.comes s c.0 c.1) in
      record {
        from = d.0;
        before = c.0;
        here = 0 ∷ [];
        starts = d.1;
        splits = c.2;
        falls =
            λ z. record { fate = d.2; taken = refl; rest = refl; stays = refl };
      }

  loop_breaks : (e : LifeKind) (path : List ℕ) → Breaks body (choose 1 q) e path →
      Breaks (looping (step_by f) body) r e path
  loop_breaks e path x =
      let c = choose_is 1 q x.from x.before x.starts in
      let d = step_comes f r x.from c.0 (t.comes x.from c.0 c.1) in
      record {
        from = d.0;
        before = c.0;
        here = 1 ∷ x.here;
        starts = d.1;
        splits = x.splits ∙ ap (λ l. l ++ x.here) c.2 ∙ append_assoc c.0 (1 ∷ []) x.here;
        breaks = λ z.
            let cs = x.here ++ z in
            let b : Broken (body (f d.0) cs) e x.here =
            subst (λ (v : Fate). Broken (body v cs) e x.here) (sym d.2) (x.breaks z) in
            let w = breaks_onto (picking 1 (body (f d.0) cs)) (turns_by (step_by f) body (length cs)) e (1 ∷
            x.here) (absorbs_turns f body (length cs) a)
            (pick_breaks (body (f d.0) cs) 1 1 e x.here refl b) in
            record { fate = w.fate; more = w.more; taken = w.taken };
      }

  pub loop_sum : (w : Walk) → Summed body (choose 1 q) w → Summed (looping (step_by f) body) r (w >>= left q)
  loop_sum (Ok o) h = record { passes = λ s p k cs. turns_pass o h (length cs) s p k cs; comes = loop_comes }
  loop_sum (Err e) h = loop_breaks e.kind e.path h

turns_break : (f : Bool → Fate) (body : Machine) (a : Absorbs body) (n : ℕ) (s : Bool) (cs : List ℕ)
    (e : LifeKind) (p : List ℕ) → Broken (step_by f (going s) cs) e p →
    Broken (turns_by (step_by f) body n (going s) cs) e p
turns_break f body a zero s cs e p h = breaks_onto (step_by f (going s) cs) leave e p absorbs_leave h
turns_break f body a (suc n) s cs e p h =
    breaks_onto (step_by f (going s) cs) (again body (turns_by (step_by f) body n)) e p
    (absorbs_again body (turns_by (step_by f) body n) a (absorbs_turns f body n a)) h

pub test_sum : (f : Bool → Fate) (body : Machine) (r : Reach) (w : Walk) (k : Reach → Walk) → Absorbs body →
    Summed (step_by f) r w →
    ((q : Reach) → Sums (step_by f) r q → Summed (looping (step_by f) body) r (k q)) →
    Summed (looping (step_by f) body) r (w >>= k)
test_sum f body r (Ok q) k a t g = g q t
test_sum f body r (Err e) k a t g = record {
  from = t.from;
  before = t.before;
  here = t.here;
  starts = t.starts;
  splits = t.splits;
  breaks = λ z. turns_break f body a (length (t.here ++ z)) t.from (t.here ++ z) e.kind t.here (t.breaks z);
}
