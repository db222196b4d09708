-- What a walk says of a machine, and that it says so of one machine after another.
use Rattle.std.proofs.Common.{◌≡◌, ℕ, Bool, true, false, List, [], ◌∷◌, ◌++◌, Option, None, Some, Ok}
use Rattle.std.proofs.Common.{Err, ◌⊎◌, inl, inr, refl, sym, ap, subst, ◌∙◌, append-nil}
use Rattle.std.proofs.lemmas.List.{append_assoc}
use Rattle.au_lives.specs.declared.lives.LifeKind.{LifeKind}
use Rattle.au_lives.specs.Lives.{Fate, going, broken}
use Rattle.au_lives.specs.Walks.{Reach, at_state, Walk, ◌>>=◌, nowhere, either, merge, push, choose, only}
use Rattle.au_lives.specs.Walks.{land, landed, walk_by, walk_step, stop, Drive, drives, Machine, picking}
use Rattle.au_lives.specs.Walks.{onto, step_by, in_turn, ending}

abbrev pub Has : Reach → Bool → List ℕ → Type 0
Has r s p = at_state r s ≡ Some p

-- the path p is taken whole, whatever follows, and goes on in the state s
pub record Falls (d : Drive) (s : Bool) (p q : List ℕ) : Type 0 where
  pub fate : d.fate ≡ going s
  pub taken : d.taken ≡ p
  pub rest : d.rest ≡ q
  pub stays : d.returned ≡ false

-- it doesn't break, and where it goes on, o has its state
pub record Fine (d : Drive) (o : Reach) : Type 0 where
  pub state : Bool
  pub fate : d.fate ≡ going state
  pub within : d.returned ≡ false → (p : List ℕ) × Has o state p

abbrev pub Passes : Machine → Reach → Reach → Type 0
Passes m r o = (s : Bool) (p : List ℕ) → Has r s p → (cs : List ℕ) → Fine (m (going s) cs) o

pub record Comes (m : Machine) (r : Reach) (s : Bool) (path : List ℕ) : Type 0 where
  pub from : Bool
  pub before : List ℕ
  pub here : List ℕ
  pub starts : Has r from before
  pub splits : path ≡ before ++ here
  pub falls : (q : List ℕ) → Falls (m (going from) (here ++ q)) s here q

-- it breaks, and the numbers that it took begin with p
pub record Broken (d : Drive) (k : LifeKind) (p : List ℕ) : Type 0 where
  pub fate : d.fate ≡ broken k
  pub more : List ℕ
  pub taken : d.taken ≡ p ++ more

pub record Breaks (m : Machine) (r : Reach) (k : LifeKind) (path : List ℕ) : Type 0 where
  pub from : Bool
  pub before : List ℕ
  pub here : List ℕ
  pub starts : Has r from before
  pub splits : path ≡ before ++ here
  pub breaks : (q : List ℕ) → Broken (m (going from) (here ++ q)) k here

pub record Sums (m : Machine) (r o : Reach) : Type 0 where
  pub passes : Passes m r o
  pub comes : (s : Bool) (p : List ℕ) → Has o s p → Comes m r s p

abbrev pub Summed : Machine → Reach → Walk → Type 0
Summed m r (Ok o) = Sums m r o
Summed m r (Err b) = Breaks m r b.kind b.path

abbrev pub Absorbs : Machine → Type 0
Absorbs m = (k : LifeKind) (cs : List ℕ) → (m (broken k) cs).fate ≡ broken k

-- Options.
abbrev is_path : Option (List ℕ) → Bool
is_path None = false
is_path (Some p) = true

abbrev path_or : List ℕ → Option (List ℕ) → List ℕ
path_or d None = d
path_or d (Some p) = p

pub none_some : {A : Type 0} (p : List ℕ) → ◌≡◌ {A = Option (List ℕ)} None (Some p) → A
none_some p h = let wrong : false ≡ true = ap is_path h in absurd (cc)

pub some_same : (p q : List ℕ) → ◌≡◌ {A = Option (List ℕ)} (Some p) (Some q) → p ≡ q
some_same p q h = ap (path_or p) h

pub nowhere_has : {A : Type 0} (s : Bool) (p : List ℕ) → Has nowhere s p → A
nowhere_has true p h = none_some p h
nowhere_has false p h = none_some p h

either_is : (o u : Option (List ℕ)) (p : List ℕ) → either o u ≡ Some p → (o ≡ Some p) ⊎ (u ≡ Some p)
either_is (Some q) u p h = inl h
either_is None u p h = inr h

either_left : (o u : Option (List ℕ)) (p : List ℕ) → o ≡ Some p → (q : List ℕ) × (either o u ≡ Some q)
either_left (Some q) u p h = (q, refl)
either_left None u p h = none_some p h

either_right : (o u : Option (List ℕ)) (p : List ℕ) → u ≡ Some p → (q : List ℕ) × (either o u ≡ Some q)
either_right (Some q) u p h = (q, refl)
either_right None u p h = (p, h)

pub has_either : (a b : Reach) (s : Bool) (p : List ℕ) → Has (merge a b) s p → Has a s p ⊎ Has b s p
has_either a b true p h = either_is a.spent b.spent p h
has_either a b false p h = either_is a.live b.live p h

pub has_left : (a b : Reach) (s : Bool) (p : List ℕ) → Has a s p → (q : List ℕ) × Has (merge a b) s q
has_left a b true p h = either_left a.spent b.spent p h
has_left a b false p h = either_left a.live b.live p h

pub has_right : (a b : Reach) (s : Bool) (p : List ℕ) → Has b s p → (q : List ℕ) × Has (merge a b) s q
has_right a b true p h = either_right a.spent b.spent p h
has_right a b false p h = either_right a.live b.live p h

has_only : (s t : Bool) (o : Option (List ℕ)) (p : List ℕ) → Has (only s o) t p → (s ≡ t) × (o ≡ Some p)
has_only true true o p h = (refl, h)
has_only false false o p h = (refl, h)
has_only true false o p h = none_some p h
has_only false true o p h = none_some p h

only_has : (s : Bool) (o : Option (List ℕ)) (p : List ℕ) → o ≡ Some p → Has (only s o) s p
only_has true o p h = h
only_has false o p h = h

of_only : (r : Reach) (t : Bool) (o : Option (List ℕ)) (s : Bool) (p : List ℕ) → Has (only t o) s p →
    at_state r t ≡ o → Has r s p
of_only r t o s p h k = let e = has_only t s o p h in ap (at_state r) (sym e.0) ∙ k ∙ e.1

or_only : (r : Reach) (s : Bool) (p : List ℕ) → Has r s p →
    Has (only true r.spent) s p ⊎ Has (only false r.live) s p
or_only r true p h = inl h
or_only r false p h = inr h

push_is : (n : ℕ) (o : Option (List ℕ)) (p : List ℕ) → push n o ≡ Some p → (q : List ℕ) × (o ≡ Some q)
    × (p ≡ q ++ n ∷ [])
push_is n None p h = none_some p h
push_is n (Some q) p h = (q, refl, sym (some_same (q ++ n ∷ []) p h))

pub choose_is : (n : ℕ) (r : Reach) (s : Bool) (p : List ℕ) → Has (choose n r) s p → (q : List ℕ) × Has r s q
    × (p ≡ q ++ n ∷ [])
choose_is n r true p h = push_is n r.spent p h
choose_is n r false p h = push_is n r.live p h

pub choose_has : (n : ℕ) (r : Reach) (s : Bool) (p : List ℕ) → Has r s p → Has (choose n r) s (p ++ n ∷ [])
choose_has n r true p h = ap (push n) h
choose_has n r false p h = ap (push n) h

-- One machine after another.
fine_on : (v : Fate) (t cs : List ℕ) (b : Bool) (k : Machine) (o u : Reach) → Fine (drives v t cs b) o →
    Passes k o u → Fine (onto (drives v t cs b) k) u
fine_on v t cs true k o u f g =
    record { state = f.state; fate = f.fate; within = λ h. let wrong : true ≡ false = h in absurd (cc) }
fine_on v t cs false k o u f g =
    let w = f.within refl in
    let x : Fine (k (going f.state) cs) u = g f.state w.0 w.1 cs in
    let y : Fine (k v cs) u = subst (λ (z : Fate). Fine (k z cs) u) (sym f.fate) x in
    record { state = y.state; fate = y.fate; within = y.within }

pub fine_onto : (d : Drive) (k : Machine) (o u : Reach) → Fine d o → Passes k o u → Fine (onto d k) u
fine_onto d k o u f g = fine_on d.fate d.taken d.rest d.returned k o u f g

falls_on : (v : Fate) (a cs : List ℕ) (b : Bool) (k : Machine) (s t : Bool) (p q z : List ℕ) →
    Falls (drives v a cs b) s p (q ++ z) → Falls (k (going s) (q ++ z)) t q z →
    Falls (onto (drives v a cs b) k) t (p ++ q) z
falls_on v a cs true k s t p q z f g = let wrong : true ≡ false = f.stays in absurd (cc)
falls_on v a cs false k s t p q z f g =
    let x : Falls (k v (q ++ z)) t q z = subst (λ (y : Fate). Falls (k y (q ++ z)) t q z) (sym f.fate) g in
    let y : Falls (k v cs) t q z = subst (λ (c : List ℕ). Falls (k v c) t q z) (sym f.rest) x in
    let e : a ≡ p = f.taken in
    record {
      fate = y.fate;
      taken = ap (λ l. l ++ (k v cs).taken) e ∙ ap (λ l. p ++ l) y.taken;
      rest = y.rest;
      stays = y.stays;
    }

pub falls_onto : (d : Drive) (k : Machine) (s t : Bool) (p q z : List ℕ) → Falls d s p (q ++ z) →
    Falls (k (going s) (q ++ z)) t q z → Falls (onto d k) t (p ++ q) z
falls_onto d k s t p q z f g = falls_on d.fate d.taken d.rest d.returned k s t p q z f g

breaks_on : (v : Fate) (a cs : List ℕ) (b : Bool) (k : Machine) (e : LifeKind) (p : List ℕ) → Absorbs k →
    Broken (drives v a cs b) e p → Broken (onto (drives v a cs b) k) e p
breaks_on v a cs true k e p h g = g
breaks_on v a cs false k e p h g =
    let f : v ≡ broken e = g.fate in
    let t : a ≡ p ++ g.more = g.taken in
    record {
      fate = ap (λ w. (k w cs).fate) f ∙ h e cs;
      more = g.more ++ (k v cs).taken;
      taken = ap (λ l. l ++ (k v cs).taken) t ∙ append_assoc p g.more (k v cs).taken;
    }

pub breaks_onto : (d : Drive) (k : Machine) (e : LifeKind) (p : List ℕ) → Absorbs k → Broken d e p →
    Broken (onto d k) e p
breaks_onto d k e p h g = breaks_on d.fate d.taken d.rest d.returned k e p h g

later_on : (v : Fate) (a cs : List ℕ) (b : Bool) (k : Machine) (s : Bool) (p z u : List ℕ) (e : LifeKind) →
    Falls (drives v a cs b) s p z → Broken (k (going s) z) e u → Broken (onto (drives v a cs b) k) e (p ++ u)
later_on v a cs true k s p z u e f g = let wrong : true ≡ false = f.stays in absurd (cc)
later_on v a cs false k s p z u e f g =
    let x : Broken (k v z) e u = subst (λ (y : Fate). Broken (k y z) e u) (sym f.fate) g in
    let y : Broken (k v cs) e u = subst (λ (c : List ℕ). Broken (k v c) e u) (sym f.rest) x in
    let t : a ≡ p = f.taken in
    record {
      fate = y.fate;
      more = y.more;
      taken = ap (λ l. l ++ (k v cs).taken) t ∙ ap (λ l. p ++ l) y.taken
          ∙ sym (append_assoc p u y.more);
    }

pub later_onto : (d : Drive) (k : Machine) (s : Bool) (p z u : List ℕ) (e : LifeKind) → Falls d s p z →
    Broken (k (going s) z) e u → Broken (onto d k) e (p ++ u)
later_onto d k s p z u e f g = later_on d.fate d.taken d.rest d.returned k s p z u e f g

pub sums_onto : (m k : Machine) (r o u : Reach) → Sums m r o → Sums k o u → Sums (in_turn m k) r u
sums_onto m k r o u a b = record {
  passes = λ s p h cs. fine_onto (m (going s) cs) k o u (a.passes s p h cs) b.passes;
  comes = λ s p h.
      let y = b.comes s p h in
      let x = a.comes y.from y.before y.starts in
      record {
        from = x.from;
        before = x.before;
        here = x.here ++ y.here;
        starts = x.starts;
        splits = y.splits ∙ ap (λ l. l ++ y.here) x.splits ∙ append_assoc x.before x.here y.here;
        falls = λ q. subst (λ (l : List ℕ). Falls (onto (m (going x.from) l) k) s (x.here ++ y.here) q)
            (sym (append_assoc x.here y.here q))
            (falls_onto (m (going x.from) (x.here ++ (y.here ++ q))) k y.from s x.here y.here q
            (x.falls (y.here ++ q)) (y.falls q));
      };
}

breaks_later : (m k : Machine) (r o : Reach) (e : LifeKind) (path : List ℕ) → Sums m r o → Breaks k o e path →
    Breaks (in_turn m k) r e path
breaks_later m k r o e path a y =
    let x = a.comes y.from y.before y.starts in
    record {
      from = x.from;
      before = x.before;
      here = x.here ++ y.here;
      starts = x.starts;
      splits = y.splits ∙ ap (λ l. l ++ y.here) x.splits ∙ append_assoc x.before x.here y.here;
      breaks = λ q. subst (λ (l : List ℕ). Broken (onto (m (going x.from) l) k) e (x.here ++ y.here))
          (sym (append_assoc x.here y.here q))
          (later_onto (m (going x.from) (x.here ++ (y.here ++ q))) k y.from x.here (y.here ++ q) y.here e
          (x.falls (y.here ++ q)) (y.breaks q));
    }

then_sum : (m k : Machine) (r o : Reach) (w : Walk) → Sums m r o → Summed k o w → Summed (in_turn m k) r w
then_sum m k r o (Ok u) a b = sums_onto m k r o u a b
then_sum m k r o (Err e) a b = breaks_later m k r o e.kind e.path a b

pub seq_sum : (m k : Machine) (r : Reach) (w : Walk) (f : Reach → Walk) → Absorbs k → Summed m r w →
    ((o : Reach) → Summed k o (f o)) → Summed (in_turn m k) r (w >>= f)
seq_sum m k r (Ok o) f a h g = then_sum m k r o (f o) h (g o)
seq_sum m k r (Err e) f a h g =
    record {
      from = h.from;
      before = h.before;
      here = h.here;
      starts = h.starts;
      splits = h.splits;
      breaks =
          λ q. breaks_onto (m (going h.from) (h.here ++ q)) k e.kind h.here a (h.breaks q);
    }

-- one of two starts is where it breaks, or the ends are joined
both_sum : (m : Machine) (a b r : Reach) (v w : Walk) → ((s : Bool) (p : List ℕ) → Has a s p → Has r s p) →
    ((s : Bool) (p : List ℕ) → Has b s p → Has r s p) →
    ((s : Bool) (p : List ℕ) → Has r s p → Has a s p ⊎ Has b s p) → Summed m a v → Summed m b w →
    Summed m r (v >>= landed w)
both_sum m a b r (Err e) w i j k x y =
    record {
      from = x.from;
      before = x.before;
      here = x.here;
      starts = i x.from x.before x.starts;
      splits =
          x.splits;
      breaks = x.breaks;
    }
both_sum m a b r (Ok o) (Err e) i j k x y =
    record {
      from = y.from;
      before = y.before;
      here = y.here;
      starts = j y.from y.before y.starts;
      splits =
          y.splits;
      breaks = y.breaks;
    }
both_sum m a b r (Ok o) (Ok u) i j k x y = record {
  passes = λ s p h cs. elim (k s p h) [
    | inl l ↦ let f = x.passes s p l cs in
        record {
          state = f.state;
          fate = f.fate;
          within = λ n. let g = f.within n in
              has_left o u f.state g.0 g.1;
        }
    | inr l ↦ let f = y.passes s p l cs in
        record {
          state = f.state;
          fate = f.fate;
          within = λ n. let g = f.within n in
              has_right o u f.state g.0 g.1;
        }
  ];
  comes = λ s p h. elim (has_either o u s p h) [
    | inl l ↦ let c = x.comes s p l in
        record {
          from = c.from;
          before = c.before;
          here = c.here;
          starts = i c.from c.before c.starts;
          splits = c.splits;
          falls = c.falls;
        }
    | inr l ↦ let c = y.comes s p l in
        record {
          from = c.from;
          before = c.before;
          here = c.here;
          starts = j c.from c.before c.starts;
          splits = c.splits;
          falls = c.falls;
        }
  ];
}

-- A step from one state.
land_sum : (f : Bool → Fate) (s : Bool) (o : Option (List ℕ)) (v : Fate) → f s ≡ v →
    Summed (step_by f) (only s o) (land o v)
land_sum f s None v h =
    record { passes = λ t p i cs. none_some p (has_only s t None p i).1; comes = λ t p i. nowhere_has t p i }
land_sum f s (Some p) (going t) h = record {
  passes = λ u q i cs. record {
    state = t;
    fate = ap f (sym (has_only s u (Some p) q i).0) ∙ h;
    within =
        λ n. (p, only_has t (Some p) p refl);
  };
  comes = λ u q i.
      let e = has_only t u (Some p) q i in
      record {
        from = s;
        before = p;
        here = [];
        starts = only_has s (Some p) p refl;
        splits =
            sym (some_same p q e.1) ∙ sym (append-nil p);
        falls =
            λ z. record { fate = h ∙ ap going e.0; taken = refl; rest = refl; stays = refl };
      };
}
land_sum f s (Some p) (broken k) h =
    record {
      from = s;
      before = p;
      here = [];
      starts = only_has s (Some p) p refl;
      splits =
          sym (append-nil p);
      breaks = λ q. record { fate = h; more = []; taken = refl };
    }

pub step_sum : (f : Bool → Fate) (r : Reach) → Summed (step_by f) r (walk_step f r)
unfolding walk_by
step_sum f r = both_sum (step_by f) (only true r.spent) (only false r.live) r (land r.spent (f true))
    (land r.live (f false))
    (λ s p h. of_only r true r.spent s p h refl) (λ s p h. of_only r false r.live s p h refl)
    (λ s p h. or_only r s p h)
    (land_sum f true r.spent (f true) refl) (land_sum f false r.live (f false) refl)

pub end_sum : (f : Bool → Fate) (r : Reach) (w : Walk) → Summed (step_by f) r w →
    Summed (ending f) r (w >>= stop)
end_sum f r (Ok o) x = record {
  passes = λ s p h cs. let g = x.passes s p h cs in
      record { state = g.state; fate = g.fate; within = λ n. let wrong : true ≡ false = n in absurd (cc) };
  comes = λ s p h. nowhere_has s p h;
}
end_sum f r (Err e) x = record {
  from = x.from;
  before = x.before;
  here = x.here;
  starts = x.starts;
  splits = x.splits;
  breaks = λ q. let b = x.breaks q in record { fate = b.fate; more = b.more; taken = b.taken };
}

pub going_sums : (r : Reach) → Sums (step_by going) r r
going_sums r = record {
  passes = λ s p h cs. record { state = s; fate = refl; within = λ n. (p, h) };
  comes = λ s p h. record {
    from = s;
    before = p;
    here = [];
    starts = h;
    splits = sym (append-nil p);
    falls =
        λ q. record { fate = refl; taken = refl; rest = refl; stays = refl };
  };
}

-- What is known of a step that falls.
pub step_comes : (f : Bool → Fate) (r : Reach) (s : Bool) (p : List ℕ) → Comes (step_by f) r s p → (t : Bool)
    × Has r t p × (f t ≡ going s)
step_comes f r s p c =
    let e = c.falls [] in
    let same : p ≡ c.before = c.splits ∙ ap (λ l. c.before ++ l) (sym e.taken) ∙ append-nil c.before in
    (c.from, c.starts ∙ ap Some (sym same), e.fate)

pub step_falls : (f : Bool → Fate) (s t : Bool) (cs : List ℕ) → f s ≡ going t →
    Falls (step_by f (going s) cs) t [] cs
step_falls f s t cs h = record { fate = h; taken = refl; rest = refl; stays = refl }

pub pick_falls : (d : Drive) (k n : ℕ) (s : Bool) (p q : List ℕ) → k ≡ n → Falls d s p q →
    Falls (picking k d) s (n ∷ p) q
pick_falls d k n s p q e f =
    record {
      fate = f.fate;
      taken = ap (λ m. m ∷ d.taken) e ∙ ap (λ l. n ∷ l) f.taken;
      rest = f.rest;
      stays =
          f.stays;
    }

pub pick_breaks : (d : Drive) (k n : ℕ) (e : LifeKind) (p : List ℕ) → k ≡ n → Broken d e p →
    Broken (picking k d) e (n ∷ p)
pick_breaks d k n e p h b =
    record { fate = b.fate; more = b.more; taken = ap (λ m. m ∷ d.taken) h ∙ ap (λ l. n ∷ l) b.taken }

pub pick_fine : (d : Drive) (k : ℕ) (o : Reach) → Fine d o → Fine (picking k d) o
pick_fine d k o f = record { state = f.state; fate = f.fate; within = f.within }

pub wider : (d : Drive) (a b : Reach) → ((s : Bool) (p : List ℕ) → Has a s p → (q : List ℕ) × Has b s q) →
    Fine d a → Fine d b
wider d a b g f = record {
  state = f.state;
  fate = f.fate;
  within = λ n. let w = f.within n in
      g f.state w.0 w.1;
}
