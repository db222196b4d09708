-- What a walk says of arms, of which the number that is read picks one.
use Rattle.std.proofs.Common.{◌≡◌, ℕ, zero, suc, ◌+◌, ◌≤◌, Bool, List, [], ◌∷◌, ◌++◌, drop, min, Ok, Err, ◌⊎◌}
use Rattle.std.proofs.Common.{inl, inr, refl, ap, ◌∙◌, arith, append-nil, zero-add}
use Rattle.std.proofs.lemmas.List.{append_assoc}
use Rattle.au_base.proofs.ListLemmas.{nothing_front}
use Rattle.au_lives.specs.declared.lives.LifeKind.{LifeKind}
use Rattle.au_lives.specs.Lives.{Fate, going}
use Rattle.au_lives.specs.Paths.{first}
use Rattle.au_lives.specs.Walks.{Reach, Walk, Breach, ◌>>=◌, nowhere, merge, choose, noted, joined, Machine}
use Rattle.au_lives.specs.Walks.{step_by, armed, chosen}
use Rattle.au_lives.proofs.Summaries.{Has, Falls, Passes, Comes, Broken, Breaks, Sums, Summed, Absorbs}
use Rattle.au_lives.proofs.Summaries.{fine_onto, falls_onto, later_onto, has_either, has_left, has_right}
use Rattle.au_lives.proofs.Summaries.{nowhere_has, choose_is, choose_has, step_comes, step_falls}
use Rattle.au_lives.proofs.Summaries.{pick_falls, pick_breaks, pick_fine, wider}

pub record ArmComes (ms : ℕ → Machine) (last i : ℕ) (r : Reach) (s : Bool) (path : List ℕ) : Type 0 where
  pub from : Bool
  pub before : List ℕ
  pub number : ℕ
  pub here : List ℕ
  pub small : number ≤ last
  pub starts : Has r from before
  pub splits : path ≡ before ++ ((i + number) ∷ here)
  pub falls : (q : List ℕ) → Falls (ms number (going from) (here ++ q)) s here q

pub record ArmBreaks (ms : ℕ → Machine) (last i : ℕ) (r : Reach) (k : LifeKind) (path : List ℕ) : Type 0 where
  pub from : Bool
  pub before : List ℕ
  pub number : ℕ
  pub here : List ℕ
  pub small : number ≤ last
  pub starts : Has r from before
  pub splits : path ≡ before ++ ((i + number) ∷ here)
  pub breaks : (q : List ℕ) → Broken (ms number (going from) (here ++ q)) k here

pub record ArmsSum (ms : ℕ → Machine) (last i : ℕ) (r out o : Reach) : Type 0 where
  pub passes : (n : ℕ) → Passes (ms n) r o
  pub keeps : (s : Bool) (p : List ℕ) → Has out s p → (q : List ℕ) × Has o s q
  pub comes : (s : Bool) (p : List ℕ) → Has o s p → Has out s p ⊎ ArmComes ms last i r s p

abbrev pub ArmsSummed : (ℕ → Machine) → ℕ → ℕ → Reach → Reach → Walk → Type 0
ArmsSummed ms last i r out (Ok o) = ArmsSum ms last i r out o
ArmsSummed ms last i r out (Err b) = ArmBreaks ms last i r b.kind b.path

-- a path whose last number is that of the arm
moved : (p b q h : List ℕ) (i : ℕ) → p ≡ b ++ h → b ≡ q ++ i ∷ [] → p ≡ q ++ ((i + 0) ∷ h)
moved p b q h i e k =
    let n : i ≡ i + 0 = omega arith in
    e ∙ ap (λ l. l ++ h) k ∙ append_assoc q (i ∷ []) h ∙ ap (λ m. q ++ (m ∷ h)) n

-- the number of a later arm
later : (p b h : List ℕ) (i n : ℕ) → p ≡ b ++ ((i + 1 + n) ∷ h) → p ≡ b ++ ((i + suc n) ∷ h)
later p b h i n e = let m : i + 1 + n ≡ i + suc n = omega arith in e ∙ ap (λ k. b ++ (k ∷ h)) m

pub arms_base : (m : Machine) (i : ℕ) (r out : Reach) (w : Walk) → Summed m (choose i r) w →
    ArmsSummed (λ n. m) 0 i r out (w >>= joined out)
arms_base m i r out (Ok o) h = record {
  passes = λ n s p k cs.
      wider (m (going s) cs) o (merge out o) (λ t q. has_right out o t q)
      (h.passes s (p ++ i ∷ []) (choose_has i r s p k) cs);
  keeps = λ s p k. has_left out o s p k;
  comes = λ s p k. elim (has_either out o s p k) [
    | inl l ↦ inl l
    | inr l ↦ let c = h.comes s p l in
        let b = choose_is i r c.from c.before c.starts in
        inr (record {
          from = c.from;
          before = b.0;
          number = 0;
          here = c.here;
          small = omega arith;
          starts =
              b.1;
          splits = moved p c.before b.0 c.here i c.splits b.2;
          falls = c.falls;
        })
  ];
}
arms_base m i r out (Err e) h =
    let b = choose_is i r h.from h.before h.starts in
    record {
      from = h.from;
      before = b.0;
      number = 0;
      here = h.here;
      small = omega arith;
      starts = b.1;
      splits = moved e.path h.before b.0 h.here i h.splits b.2;
      breaks = h.breaks;
    }

module _ (f : Bool → Fate) (m : Machine) (others : ℕ → Machine) (last i : ℕ) (r out : Reach) where
  abbrev all : ℕ → Machine
  all = armed (step_by f) m others

  test_breaks : (e : Breach) → Breaks (step_by f) r e.kind e.path → Absorbs m →
      ArmBreaks all (suc last) i r e.kind (e.path ++ i ∷ [])
  test_breaks e t a =
      let b = t.breaks [] in
      let none : t.here ≡ [] = nothing_front t.here b.more b.taken in
      let path : e.path ≡ t.before = t.splits ∙ ap (λ l. t.before ++ l) none ∙ append-nil t.before in
      let n : i ≡ i + 0 = omega arith in
      record {
        from = t.from;
        before = t.before;
        number = 0;
        here = [];
        small = omega arith;
        starts = t.starts;
        splits = ap (λ l. l ++ i ∷ []) path ∙ ap (λ k. t.before ++ k ∷ []) n;
        breaks = λ q. record {
          fate = ap (λ w. (m w q).fate) b.fate ∙ a e.kind q;
          more = (m (f t.from) q).taken;
          taken = refl;
        };
      }

  arm_breaks : (q : Reach) (e : LifeKind) (path : List ℕ) → Sums (step_by f) r q →
      Breaks m (choose i q) e path → ArmBreaks all (suc last) i r e path
  arm_breaks q e path t b =
      let c = choose_is i q b.from b.before b.starts in
      let s = step_comes f r b.from c.0 (t.comes b.from c.0 c.1) in
      record {
        from = s.0;
        before = c.0;
        number = 0;
        here = b.here;
        small = omega arith;
        starts = s.1;
        splits = moved path b.before c.0 b.here i b.splits c.2;
        breaks = λ z. later_onto (step_by f (going s.0) (b.here ++ z)) m b.from [] (b.here ++ z) b.here e
            (step_falls f s.0 b.from (b.here ++ z) s.2) (b.breaks z);
      }

  later_breaks : (q o : Reach) (e : LifeKind) (path : List ℕ) → Sums (step_by f) r q →
      ArmBreaks others last (i + 1) q e path → ArmBreaks all (suc last) i r e path
  later_breaks q o e path t b =
      let s = step_comes f r b.from b.before (t.comes b.from b.before b.starts) in
      record {
        from = s.0;
        before = b.before;
        number = suc b.number;
        here = b.here;
        small = omega (arith, b.small);
        starts = s.1;
        splits = later path b.before b.here i b.number b.splits;
        breaks = λ z. later_onto (step_by f (going s.0) (b.here ++ z)) (others b.number) b.from [] (b.here
            ++ z) b.here e (step_falls f s.0 b.from (b.here ++ z) s.2) (b.breaks z);
      }

  module _ (q o u : Reach) (t : Sums (step_by f) r q) (a : Sums m (choose i q) o)
      (h : ArmsSum others last (i + 1) q (merge out o) u) where
    arm_passes : Passes m q u
    arm_passes s p k cs =
        wider (m (going s) cs) o u (λ v z w. let l = has_right out o v z w in
        h.keeps v l.0 l.1) (a.passes s (p ++ i ∷ []) (choose_has i q s p k) cs)

    all_pass : (n : ℕ) → Passes (all n) r u
    all_pass zero = λ s p k cs. fine_onto (step_by f (going s) cs) m q u (t.passes s p k cs) arm_passes
    all_pass (suc n) = λ s p k cs.
        fine_onto (step_by f (going s) cs) (others n) q u (t.passes s p k cs) (h.passes n)

    arm_comes : (s : Bool) (p : List ℕ) → Comes m (choose i q) s p → ArmComes all (suc last) i r s p
    arm_comes s p b =
        let c = choose_is i q b.from b.before b.starts in
        let k = step_comes f r b.from c.0 (t.comes b.from c.0 c.1) in
        record {
          from = k.0;
          before = c.0;
          number = 0;
          here = b.here;
          small = omega arith;
          starts = k.1;
          splits = moved p b.before c.0 b.here i b.splits c.2;
          falls = λ z. falls_onto (step_by f (going k.0) (b.here ++ z)) m b.from s [] b.here z
              (step_falls f k.0 b.from (b.here ++ z) k.2) (b.falls z);
        }

    later_comes : (s : Bool) (p : List ℕ) → ArmComes others last (i + 1) q s p →
        ArmComes all (suc last) i r s p
    later_comes s p b =
        let k = step_comes f r b.from b.before (t.comes b.from b.before b.starts) in
        record {
          from = k.0;
          before = b.before;
          number = suc b.number;
          here = b.here;
          small = omega (arith, b.small);
          starts = k.1;
          splits = later p b.before b.here i b.number b.splits;
          falls = λ z. falls_onto (step_by f (going k.0) (b.here ++ z)) (others b.number) b.from s [] b.here z
              (step_falls f k.0 b.from (b.here ++ z) k.2) (b.falls z);
        }

    all_sum : ArmsSum all (suc last) i r out u
    all_sum = record {
      passes = all_pass;
      keeps = λ s p k. let l = has_left out o s p k in h.keeps s l.0 l.1;
      comes = λ s p k. elim (h.comes s p k) [
        | inl l ↦ elim (has_either out o s p l) [
          | inl w ↦ inl w
          | inr w ↦
              inr (arm_comes s p (a.comes s p w))
        ]
        | inr c ↦ inr (later_comes s p c)
      ];
    }

  after_arm : (q o : Reach) (w : Walk) → Sums (step_by f) r q → Sums m (choose i q) o →
      ArmsSummed others last (i + 1) q (merge out o) w → ArmsSummed all (suc last) i r out w
  after_arm q o (Ok u) t a h = all_sum q o u t a h
  after_arm q o (Err e) t a h = later_breaks q o e.kind e.path t h

  after_test : (q : Reach) (w : Walk) (k : Reach → Walk) → Sums (step_by f) r q → Summed m (choose i q) w →
      ((o : Reach) → ArmsSummed others last (i + 1) q (merge out o) (k o)) →
      ArmsSummed all (suc last) i r out (w >>= k)
  after_test q (Ok o) k t a h = after_arm q o (k o) t a (h o)
  after_test q (Err e) k t a h = arm_breaks q e.kind e.path t a

  pub arms_step : Absorbs m → (w : Walk) (b : Reach → Walk) (k : Reach → Reach → Walk) →
      Summed (step_by f) r w → ((q : Reach) → Summed m q (b q)) →
      ((q o : Reach) → ArmsSummed others last (i + 1) q (merge out o) (k q (merge out o))) →
      ArmsSummed all (suc last) i r out (noted i w >>= (λ q. b (choose i q) >>= (λ o. k q (merge out o))))
  arms_step a (Ok q) b k t h g =
      after_test q (b (choose i q)) (λ o. k q (merge out o)) t (h (choose i q)) (g q)
  arms_step a (Err e) b k t h g = test_breaks e t a

-- The statement that reads the number.
pub chosen_sum : (ms : ℕ → Machine) (last : ℕ) (r : Reach) (w : Walk) → ArmsSummed ms last 0 r nowhere w →
    Summed (chosen last ms) r w
chosen_sum ms last r (Ok o) h = record {
  passes = λ s p k cs. pick_fine (ms (first cs) (going s) (drop 1 cs)) (min (first cs) last) o
      (h.passes (first cs) s p k (drop 1 cs));
  comes = λ s p k. elim (h.comes s p k) [
    | inl l ↦ nowhere_has s p l
    | inr c ↦ record {
      from = c.from;
      before = c.before;
      here = c.number ∷ c.here;
      starts = c.starts;
      splits = c.splits ∙ ap (λ n. c.before ++ (n ∷ c.here)) (zero-add c.number);
      falls = λ q. pick_falls (ms c.number (going c.from) (c.here ++ q)) (min c.number last) c.number s c.here
          q (omega (arith, c.small)) (c.falls q);
    }
  ];
}
chosen_sum ms last r (Err c) h = record {
  from = h.from;
  before = h.before;
  here = h.number ∷ h.here;
  starts = h.starts;
  splits = h.splits ∙ ap (λ n. h.before ++ (n ∷ h.here)) (zero-add h.number);
  breaks = λ q. pick_breaks (ms h.number (going h.from) (h.here ++ q)) (min h.number last) h.number c.kind
      h.here (omega (arith, h.small)) (h.breaks q);
}
