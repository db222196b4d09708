-- What a dealing says of the walk over a part, and of parts that are put together.
use Rattle.std.proofs.Common.{◌≡◌, ℕ, ◌+◌, ◌≤◌, ◌<◌, Bool, true, false, not, ◌||◌, ◌&&◌, List, Option, None}
use Rattle.std.proofs.Common.{Some, Ok, ◌⊎◌, inl, inr, refl, sym, ap, subst, ◌∙◌, arith, if◌then◌else◌}
use Rattle.std.proofs.lemmas.Bool.{and_from, or_left, or_right}
use Rattle.au_syntax.specs.declared.types.Access.{Access}
use Rattle.au_syntax.specs.declared.types.Access.TheVariants as access
use Rattle.au_lives.specs.declared.lives.Sort.{Sort}
use Rattle.au_lives.specs.declared.lives.Sort.TheVariants as sorts
use Rattle.au_lives.specs.Mentions.{Counts, counts, unmentioned}
use Rattle.au_lives.specs.Lives.{Hold, unlent, read_lent, write_lent, hidden, tighter, opening_counts, Fate}
use Rattle.au_lives.specs.Lives.{going, broken, if_live, if_spent, verdict, at_end}
use Rattle.au_lives.specs.Lives as lives
use Rattle.au_lives.specs.Walks.{Reach, reach, Walk, ◌>>=◌, nowhere, either, merge, push, choose, noted, only}
use Rattle.au_lives.specs.Walks.{land, landed, walk_by, walk_step, joined, finish, stop, returned, left}
use Rattle.au_lives.specs.Walks.{turned}
use Rattle.au_clearing.specs.Touches.{Touch, Fits, Untouched, Quiet, Written, Consumed, Broken, worse, kept}
use Rattle.au_clearing.specs.Touches.{is_consumed, behind_spent}
use Rattle.au_clearing.specs.Touches as touches
use Rattle.au_clearing.specs.Dealings.{Dealing, nothing, never, once, sum, chain, fork, turns, lend, lend_by}
use Rattle.au_clearing.proofs.TouchLemmas.{rank, rank_none, behind_none, kept_none, fits_hidden}
use Rattle.au_clearing.proofs.DealingLemmas.{most, sum_exact, sum_small, sum_within, if_within, chain_ranks}
use Rattle.au_clearing.proofs.DealingLemmas.{chain_second, fork_ranks, turns_rank}

-- how bad the touches may be where a variable is held so
abbrev pub room : Hold → ℕ
room unlent = 3
room read_lent = 1
room write_lent = 0
room hidden = 3

pub room_few : (h : Hold) → room h ≤ 3
room_few unlent = omega arith
room_few read_lent = omega arith
room_few write_lent = omega arith
room_few hidden = omega arith

-- a state is possible
abbrev pub is_there : Option (List ℕ) → Bool
is_there None = false
is_there (Some p) = true

abbrev pub Has : Option (List ℕ) → Type 0
Has o = is_there o ≡ true

has_push : (n : ℕ) (o : Option (List ℕ)) → Has (push n o) → Has o
has_push n None h = h
has_push n (Some p) h = refl

has_either : (a b : Option (List ℕ)) → Has (either a b) → Has a ⊎ Has b
has_either None b h = inr h
has_either (Some p) b h = inl refl

wrong : {A : Type 0} → false ≡ true → A
wrong h = absurd (cc)

-- The states behind a part come from those before it, or from those of other ways.
pub record Gathers (r out o : Reach) (d : Dealing) : Type 0 where
  pub live : Has o.live → Has out.live ⊎ (Has r.live × (d.lives ≡ true))
  pub spent : Has o.spent → Has out.spent
      ⊎ ((Has r.spent × (d.lives ≡ true)) ⊎ (Has r.live × (d.spends ≡ true)))

abbrev pub Lands : Reach → Reach → Dealing → Type 0
Lands r o d = Gathers r nowhere o d

pub landed_live : (r o : Reach) (d : Dealing) → Lands r o d → Has o.live → Has r.live × (d.lives ≡ true)
landed_live r o d l h = by (l.live h)
  where
    by : Has nowhere.live ⊎ (Has r.live × (d.lives ≡ true)) → Has r.live × (d.lives ≡ true)
    by (inl w) = wrong w
    by (inr p) = p

landed_spent : (r o : Reach) (d : Dealing) → Lands r o d → Has o.spent →
    (Has r.spent × (d.lives ≡ true)) ⊎ (Has r.live × (d.spends ≡ true))
landed_spent r o d l h = by (l.spent h)
  where
    by : Has nowhere.spent ⊎ ((Has r.spent × (d.lives ≡ true)) ⊎ (Has r.live × (d.spends ≡ true))) →
        (Has r.spent × (d.lives ≡ true)) ⊎ (Has r.live × (d.spends ≡ true))
    by (inl w) = wrong w
    by (inr p) = p

-- Steps.

untouched_live : (h : Hold) → if_live h unmentioned ≡ going false
untouched_live unlent = refl
untouched_live read_lent = refl
untouched_live write_lent = refl
untouched_live hidden = refl

quiet_at : (h : Hold) (r l : ℕ) → 1 ≤ room h → if_live h (counts 0 0 r l) ≡ going false
quiet_at unlent r l le = refl
quiet_at read_lent r l le = refl
quiet_at write_lent r l le = absurd (omega (arith, le))
quiet_at hidden r l le = refl

quiet_live : (h : Hold) (c w r l : ℕ) → 1 ≤ room h → c ≡ 0 → w ≡ 0 → if_live h (counts c w r l) ≡ going false
quiet_live h c w r l le p q =
    ap (λ c. if_live h (counts c w r l)) p ∙ ap (λ w. if_live h (counts 0 w r l)) q ∙ quiet_at h r l le

written_live : (h : Hold) → 2 ≤ room h → if_live h (counts 0 1 0 0) ≡ going false
written_live unlent le = refl
written_live read_lent le = absurd (omega (arith, le))
written_live write_lent le = absurd (omega (arith, le))
written_live hidden le = refl

consumed_live : (h : Hold) → 3 ≤ room h → if_live h (counts 1 0 0 0) ≡ going true
consumed_live unlent le = refl
consumed_live read_lent le = absurd (omega (arith, le))
consumed_live write_lent le = absurd (omega (arith, le))
consumed_live hidden le = refl

-- a step that is allowed goes on
pub step_goes : (h : Hold) (t : Touch) (k : Counts) → Fits t k → rank t ≤ room h →
    if_live h k ≡ going (is_consumed t)
step_goes h Untouched k f le = ap (if_live h) f ∙ untouched_live h
step_goes h Quiet k f le = quiet_live h k.consumed k.written k.read k.looked le f.0 f.1
step_goes h Written k f le = ap (if_live h) f ∙ written_live h le
step_goes h Consumed k f le = ap (if_live h) f ∙ consumed_live h le
step_goes h Broken k f le = let few = room_few h in absurd (omega (arith, le, few))

fits_none : (t : Touch) (k : Counts) → Fits t k → t ≡ Untouched → k ≡ unmentioned
fits_none t k f e = subst (λ t. Fits t k) e f

step_spent : (t : Touch) (k : Counts) → Fits t k → t ≡ Untouched → if_spent k ≡ going true
step_spent t k f e = ap if_spent (fits_none t k f e)

land_goes : (o : Option (List ℕ)) (f : Fate) (s : Bool) → (Has o → f ≡ going s) → land o f ≡ Ok (only s o)
land_goes None f true h = refl
land_goes None f false h = refl
land_goes (Some p) f s h = ap (land (Some p)) (h refl)

abbrev behind : Bool → Reach → Reach
behind s r = merge (only true r.spent) (only s r.live)

walked : (f : Bool → Fate) (s : Bool) (r : Reach) → (Has r.spent → f true ≡ going true) →
    (Has r.live → f false ≡ going s) → walk_step f r ≡ Ok (behind s r)
unfolding walk_by
walked f s r g h =
    ap (λ w. w >>= landed (land r.live (f false))) (land_goes r.spent (f true) true g)
    ∙ ap (λ w. landed w (only true r.spent)) (land_goes r.live (f false) s h)

behind_lands : (s : Bool) (spent live : Option (List ℕ)) (d : Dealing) → d.lives ≡ not s → d.spends ≡ s →
    (Has spent → s ≡ false) → Lands (reach live spent) (behind s (reach live spent)) d
behind_lands true None None d l e n = record { live = λ h. wrong h; spent = λ h. wrong h }
behind_lands true None (Some q) d l e n = record { live = λ h. wrong h; spent = λ h. inr (inr (refl, e)) }
behind_lands true (Some p) live d l e n = wrong (sym (n refl))
behind_lands false None None d l e n = record { live = λ h. wrong h; spent = λ h. wrong h }
behind_lands false None (Some q) d l e n = record { live = λ h. inr (refl, l); spent = λ h. wrong h }
behind_lands false (Some p) None d l e n = record { live = λ h. wrong h; spent = λ h. inr (inl (refl, l)) }
behind_lands false (Some p) (Some q) d l e n =
    record { live = λ h. inr (refl, l); spent = λ h. inr (inl (refl, l)) }

-- the end of paths where none is left that owes a consumption
pub finish_goes : (sort : Sort) (r : Reach) → (sort ≡ sorts.Linear → Has r.live → ⊥) →
    (o : Reach) × (finish sort r ≡ Ok o)
finish_goes sorts.Free r h = (behind false r, walked (at_end sorts.Free) false r (λ p. refl) (λ p. refl))
finish_goes sorts.WriteReference r h =
    (behind false r, walked (at_end sorts.WriteReference) false r (λ p. refl) (λ p. refl))
finish_goes sorts.Linear r h =
    (behind false r, walked (at_end sorts.Linear) false r (λ p. refl) (λ p. absurd (h refl p)))

module _ (sort : Sort) where
  -- the states fit a dealing of a part that has so many returns
  pub record Suits (r : Reach) (d : Dealing) (n : ℕ) : Type 0 where
    pub spent : Has r.spent → d.touch ≡ Untouched
    pub owed : sort ≡ sorts.Linear → Has r.live → (d.spared ≡ n) × (n < most)

  -- the walk over a part goes on as its dealing says, where its touches are at most so bad
  pub record Fine (w : Reach → Walk) (d : Dealing) (n worst : ℕ) : Type 0 where
    pub within : d.spared ≤ n
    pub small : n ≤ most
    pub goes : rank d.touch ≤ worst → (r : Reach) → Suits r d n → (o : Reach) × ((w r ≡ Ok o) × Lands r o d)

  -- the same beside other ways, from a number of ways on
  pub record Ways (w : ℕ → Reach → Reach → Walk) (d : Dealing) (n worst : ℕ) : Type 0 where
    pub within : d.spared ≤ n
    pub small : n ≤ most
    pub goes : rank d.touch ≤ worst → (i : ℕ) (r out : Reach) → Suits r d n →
        (o : Reach) × ((w i r out ≡ Ok o) × Gathers r out o d)

  pub weaken : (w : Reach → Walk) (d : Dealing) (n worst more : ℕ) → Fine w d n more → worst ≤ more →
      Fine w d n worst
  weaken w d n worst more f le = record {
    within = f.within;
    small = f.small;
    goes = λ h. f.goes (omega (arith, h, le));
  }

  pub fine_same : (w v : Reach → Walk) (d : Dealing) (n worst : ℕ) → Fine v d n worst →
      ((r : Reach) → w r ≡ v r) → Fine w d n worst
  fine_same w v d n worst f e = record {
    within = f.within;
    small = f.small;
    goes = λ h r s. let g = f.goes h r s in (g.0, (e r ∙ g.1.0, g.1.1));
  }

  pub fine_nothing : (worst : ℕ) → Fine Ok nothing 0 worst
  fine_nothing worst = record {
    within = omega arith;
    small = omega arith;
    goes = λ h r s. (r, (refl, record { live = λ p. inr (p, refl); spent = λ p. inr (inl (p, refl)) }));
  }

  pub fine_step : (f : Bool → Fate) (t : Touch) (worst : ℕ) → (t ≡ Untouched → f true ≡ going true) →
      (rank t ≤ worst → f false ≡ going (is_consumed t)) → Fine (walk_step f) (once t) 0 worst
  fine_step f t worst g k = record {
    within = omega arith;
    small = omega arith;
    goes = λ h r s. (
      behind (is_consumed t) r,
      (
        walked f (is_consumed t) r (λ p. g (s.spent p)) (λ p. k h),
        behind_lands (is_consumed t) r.spent r.live (once t) refl refl (λ p. ap is_consumed (s.spent p)),
      ),
    );
  }

  -- One part and then another.

  spared_both : (a b m n : ℕ) → a ≤ m → b ≤ n → (sum a b ≡ sum m n) × (sum m n < most) →
      ((a ≡ m) × (m < most)) × ((b ≡ n) × (n < most))
  spared_both a b m n p q h =
      let e = sum_exact m n h.1 in
      let f = sum_exact a b (omega (arith, h.0, h.1)) in (
        (omega (arith, p, q, h.0, e, f), omega (arith, h.1, e)),
        (omega (arith, p, q, h.0, e, f), omega (arith, h.1, e)),
      )

  none_first : (n : ℕ) (d e : Dealing) → (chain n d e).touch ≡ Untouched → d.touch ≡ Untouched
  none_first n d e h =
      let z : rank (chain n d e).touch ≡ 0 = ap rank h in
      rank_none d.touch (chain_ranks n d e 0 (omega (arith, z))).0

  none_second : (n : ℕ) (d e : Dealing) → (chain n d e).touch ≡ Untouched → e.touch ≡ Untouched
  none_second n d e h =
      let z : rank (chain n d e).touch ≡ 0 = ap rank h in
      rank_none e.touch (chain_second n d e 0 (omega (arith, z)))

  abbrev second : Dealing → Dealing → ℕ → ℕ
  second d e n = if d.lives then e.spared else n

  suits_first : (r : Reach) (d e : Dealing) (m n : ℕ) → d.spared ≤ m → e.spared ≤ n →
      Suits r (chain n d e) (sum m n) → Suits r d m
  suits_first r d e m n p q s = record {
    spent = λ h. none_first n d e (s.spent h);
    owed = λ o h. (spared_both d.spared (second d e n) m n p (if_within d.lives e.spared n q) (s.owed o h)).0;
  }

  second_is : (b : Bool) (a n : ℕ) → b ≡ true → (if b then a else n) ≡ a
  second_is true a n h = refl
  second_is false a n h = wrong h

  suits_second : (r o : Reach) (d e : Dealing) (m n : ℕ) → d.spared ≤ m → e.spared ≤ n →
      Suits r (chain n d e) (sum m n) → rank (behind_spent d.spends e.touch) ≤ 3 → Lands r o d → Suits o e n
  suits_second r o d e m n p q s le l = record {
    spent = λ h. by (landed_spent r o d l h);
    owed = λ w h.
        let g = landed_live r o d l h in
        let t = (spared_both d.spared (second d e n) m n p (if_within d.lives e.spared n q)
        (s.owed w g.0)).1 in
        (sym (second_is d.lives e.spared n g.1) ∙ t.0, t.1);
  }
    where
      by : (Has r.spent × (d.lives ≡ true)) ⊎ (Has r.live × (d.spends ≡ true)) → e.touch ≡ Untouched
      by (inl h) = none_second n d e (s.spent h.0)
      by (inr h) = behind_none d.spends e.touch h.1 le

  gathers_chain : (r o out u : Reach) (n : ℕ) (d e : Dealing) → Lands r o d → Gathers o out u e →
      Gathers r out u (chain n d e)
  gathers_chain r o out u n d e l g = record { live = λ h. live (g.live h); spent = λ h. spent (g.spent h) }
    where
      live : Has out.live ⊎ (Has o.live × (e.lives ≡ true)) →
          Has out.live ⊎ (Has r.live × ((d.lives && e.lives) ≡ true))
      live (inl h) = inl h
      live (inr h) = let k = landed_live r o d l h.0 in inr (k.0, and_from d.lives e.lives k.1 h.1)

      kept_spent : e.lives ≡ true → (Has r.spent × (d.lives ≡ true)) ⊎ (Has r.live × (d.spends ≡ true)) →
          (Has r.spent × ((d.lives && e.lives) ≡ true))
          ⊎ (Has r.live × (((d.spends && e.lives) || (d.lives && e.spends)) ≡ true))
      kept_spent f (inl k) = inl (k.0, and_from d.lives e.lives k.1 f)
      kept_spent f (inr k) =
          inr (k.0, or_left (d.spends && e.lives) (d.lives && e.spends) (and_from d.spends e.lives k.1 f))

      spent : Has out.spent ⊎ ((Has o.spent × (e.lives ≡ true)) ⊎ (Has o.live × (e.spends ≡ true))) →
          Has out.spent
          ⊎ ((Has r.spent × ((d.lives && e.lives) ≡ true))
          ⊎ (Has r.live × (((d.spends && e.lives) || (d.lives && e.spends)) ≡ true)))
      spent (inl h) = inl h
      spent (inr (inl h)) = inr (kept_spent h.1 (landed_spent r o d l h.0))
      spent (inr (inr h)) =
          let k = landed_live r o d l h.0 in
          inr (inr (
            k.0,
            or_right (d.spends && e.lives) (d.lives && e.spends) (and_from d.lives e.spends k.1 h.1),
          ))

  -- the first part goes, then the second
  chain_goes : (w v : Reach → Walk) (d e : Dealing) (m n worst more : ℕ) → Fine w d m worst →
      Fine v e n more →
      rank d.touch ≤ worst → rank (behind_spent d.spends e.touch) ≤ 3 → rank e.touch ≤ more → (r : Reach) →
      Suits r (chain n d e) (sum m n) → (o : Reach) × (((w r >>= v) ≡ Ok o) × Lands r o (chain n d e))
  chain_goes w v d e m n worst more f g a b c r s =
      let one = f.goes a r (suits_first r d e m n f.within g.within s) in
      let two = g.goes c one.0 (suits_second r one.0 d e m n f.within g.within s b one.1.1) in (
        two.0,
        (
          ap (λ q. q >>= v) one.1.0 ∙ two.1.0,
          gathers_chain r one.0 nowhere two.0 n d e one.1.1 two.1.1,
        ),
      )

  pub fine_chain : (w v : Reach → Walk) (d e : Dealing) (m n worst more : ℕ) → Fine w d m worst →
      Fine v e n more → worst ≤ 3 → worst ≤ more → Fine (λ r. w r >>= v) (chain n d e) (sum m n) worst
  fine_chain w v d e m n worst more f g few le = record {
    within = sum_within d.spared (second d e n) m n f.within (if_within d.lives e.spared n g.within) g.small;
    small = sum_small m n f.small g.small;
    goes = λ h r s.
        let k = chain_ranks n d e worst h in
        let j = chain_second n d e worst h in
        chain_goes w v d e m n worst more f g k.0 (omega (arith, k.1, few)) (omega (arith, j, le)) r s;
  }

  -- Loops and returns.

  suits_chosen : (i : ℕ) (r : Reach) (d : Dealing) (n : ℕ) → Suits r d n → Suits (choose i r) d n
  suits_chosen i r d n s = record {
    spent = λ h. s.spent (has_push i r.spent h);
    owed = λ o h. s.owed o (has_push i r.live h);
  }

  pub fine_turns : (w : Reach → Walk) (d : Dealing) (n worst : ℕ) → Fine w d n worst →
      Fine (turned w) (turns d) n worst
  fine_turns w d n worst f = record {
    within = f.within;
    small = f.small;
    goes = λ h r s.
        let one = f.goes (turns_rank d worst h) (choose 1 r) (suits_chosen 1 r d n (record {
          spent = λ p. kept_none d.touch (s.spent p);
          owed = s.owed;
        })) in (
          choose 0 r,
          (
            ap (λ q. q >>= left r) one.1.0,
            record {
              live = λ p. inr (has_push 0 r.live p, refl);
              spent = λ p. inr (inl (has_push 0 r.spent p, refl));
            },
          ),
        );
  }

  pub fine_return : (worst : ℕ) → Fine (returned sort) never 1 worst
  fine_return worst = record {
    within = omega arith;
    small = omega arith;
    goes = λ h r s.
        let e = finish_goes sort r (λ o p. let z = (s.owed o p).0 in omega (arith, z)) in
        (nowhere, (ap (λ q. q >>= stop) e.1, record { live = λ p. wrong p; spent = λ p. wrong p }));
  }

  -- Branches and arms.

  suits_left : (r : Reach) (d e : Dealing) (m n : ℕ) → d.spared ≤ m → e.spared ≤ n →
      Suits r (fork d e) (sum m n) → Suits r d m
  suits_left r d e m n p q s = record {
    spent = λ h.
        let z : rank (fork d e).touch ≡ 0 = ap rank (s.spent h) in
        rank_none d.touch (fork_ranks d e 0 (omega (arith, z))).0;
    owed = λ o h. (spared_both d.spared e.spared m n p q (s.owed o h)).0;
  }

  suits_right : (r : Reach) (d e : Dealing) (m n : ℕ) → d.spared ≤ m → e.spared ≤ n →
      Suits r (fork d e) (sum m n) → Suits r e n
  suits_right r d e m n p q s = record {
    spent = λ h.
        let z : rank (fork d e).touch ≡ 0 = ap rank (s.spent h) in
        rank_none e.touch (fork_ranks d e 0 (omega (arith, z))).1;
    owed = λ o h. (spared_both d.spared e.spared m n p q (s.owed o h)).1;
  }

  pub ways_last : (w : Reach → Walk) (d : Dealing) (n worst : ℕ) → Fine w d n worst →
      Ways (λ i r out. w (choose i r) >>= joined out) d n worst
  ways_last w d n worst f = record {
    within = f.within;
    small = f.small;
    goes = λ h i r out s.
        let one = f.goes h (choose i r) (suits_chosen i r d n s) in
        (merge out one.0, (ap (λ q. q >>= joined out) one.1.0, gathered i r out one.0 one.1.1));
  }
    where
      gathered : (i : ℕ) (r out o : Reach) → Lands (choose i r) o d → Gathers r out (merge out o) d
      gathered i r out o l = record {
        live = λ h. live (has_either out.live o.live h);
        spent = λ h. spent (has_either out.spent o.spent h);
      }
        where
          live : Has out.live ⊎ Has o.live → Has out.live ⊎ (Has r.live × (d.lives ≡ true))
          live (inl h) = inl h
          live (inr h) = let k = landed_live (choose i r) o d l h in inr (has_push i r.live k.0, k.1)

          from : (Has (push i r.spent) × (d.lives ≡ true)) ⊎ (Has (push i r.live) × (d.spends ≡ true)) →
              (Has r.spent × (d.lives ≡ true)) ⊎ (Has r.live × (d.spends ≡ true))
          from (inl k) = inl (has_push i r.spent k.0, k.1)
          from (inr k) = inr (has_push i r.live k.0, k.1)

          spent : Has out.spent ⊎ Has o.spent → Has out.spent
              ⊎ ((Has r.spent × (d.lives ≡ true)) ⊎ (Has r.live × (d.spends ≡ true)))
          spent (inl h) = inl h
          spent (inr h) = inr (from (landed_spent (choose i r) o d l h))

  -- one way more
  pub ways_fork : (w : Reach → Walk) (v : ℕ → Reach → Reach → Walk) (d e : Dealing) (m n worst : ℕ) →
      Fine w d m worst → Ways v e n worst →
      Ways (λ i r out. w (choose i r) >>= (λ o. v (i + 1) r (merge out o))) (fork d e) (sum m n) worst
  ways_fork w v d e m n worst f g = record {
    within = sum_within d.spared e.spared m n f.within g.within g.small;
    small = sum_small m n f.small g.small;
    goes = λ h i r out s.
        let k = fork_ranks d e worst h in
        let one = f.goes k.0 (choose i r)
        (suits_chosen i r d m (suits_left r d e m n f.within g.within s)) in
        let two = g.goes k.1 (i + 1) r (merge out one.0) (suits_right r d e m n f.within g.within s) in (
          two.0,
          (
            ap (λ q. q >>= (λ o. v (i + 1) r (merge out o))) one.1.0 ∙ two.1.0,
            gathered i r out one.0 two.0 one.1.1 two.1.1,
          ),
        );
  }
    where
      gathered : (i : ℕ) (r out o u : Reach) → Lands (choose i r) o d → Gathers r (merge out o) u e →
          Gathers r out u (fork d e)
      gathered i r out o u l g = record { live = λ h. live (g.live h); spent = λ h. spent (g.spent h) }
        where
          before : Has out.live ⊎ Has o.live → Has out.live ⊎ (Has r.live × ((d.lives || e.lives) ≡ true))
          before (inl h) = inl h
          before (inr h) =
              let k = landed_live (choose i r) o d l h in
              inr (has_push i r.live k.0, or_left d.lives e.lives k.1)

          live : Has (merge out o).live ⊎ (Has r.live × (e.lives ≡ true)) →
              Has out.live ⊎ (Has r.live × ((d.lives || e.lives) ≡ true))
          live (inl h) = before (has_either out.live o.live h)
          live (inr h) = inr (h.0, or_right d.lives e.lives h.1)

          from : (Has (push i r.spent) × (d.lives ≡ true)) ⊎ (Has (push i r.live) × (d.spends ≡ true)) →
              (Has r.spent × ((d.lives || e.lives) ≡ true)) ⊎ (Has r.live × ((d.spends || e.spends) ≡ true))
          from (inl k) = inl (has_push i r.spent k.0, or_left d.lives e.lives k.1)
          from (inr k) = inr (has_push i r.live k.0, or_left d.spends e.spends k.1)

          first : Has out.spent ⊎ Has o.spent → Has out.spent
              ⊎ ((Has r.spent × ((d.lives || e.lives) ≡ true)) ⊎
              (Has r.live × ((d.spends || e.spends) ≡ true)))
          first (inl h) = inl h
          first (inr h) = inr (from (landed_spent (choose i r) o d l h))

          spent : Has (merge out o).spent
              ⊎ ((Has r.spent × (e.lives ≡ true)) ⊎ (Has r.live × (e.spends ≡ true))) → Has out.spent
              ⊎ ((Has r.spent × ((d.lives || e.lives) ≡ true)) ⊎
              (Has r.live × ((d.spends || e.spends) ≡ true)))
          spent (inl h) = first (has_either out.spent o.spent h)
          spent (inr (inl h)) = inr (inl (h.0, or_right d.lives e.lives h.1))
          spent (inr (inr h)) = inr (inr (h.0, or_right d.spends e.spends h.1))

  -- a test before the ways
  pub ways_test : (w : Reach → Walk) (v : ℕ → Reach → Reach → Walk) (d e : Dealing) (n worst : ℕ) →
      Fine w d 0 worst → Ways v e n worst → worst ≤ 3 →
      Ways (λ i r out. noted i (w r) >>= (λ q. v i q out)) (chain n d e) n worst
  ways_test w v d e n worst f g few = record {
    within = sum_within d.spared (second d e n) 0 n f.within (if_within d.lives e.spared n g.within) g.small;
    small = g.small;
    goes = λ h i r out s.
        let k = chain_ranks n d e worst h in
        let j = chain_second n d e worst h in
        let one = f.goes k.0 r (suits_first r d e 0 n f.within g.within s) in
        let two = g.goes j i one.0 out
        (suits_second r one.0 d e 0 n f.within g.within s (omega (arith, k.1, few)) one.1.1) in (
          two.0,
          (
            ap (λ q. noted i q >>= (λ o. v i o out)) one.1.0 ∙ two.1.0,
            gathers_chain r one.0 out two.0 n d e one.1.1 two.1.1,
          ),
        );
  }

  -- all ways, from the first on
  pub fine_ways : (w : ℕ → Reach → Reach → Walk) (d : Dealing) (n worst : ℕ) → Ways w d n worst →
      Fine (λ r. w 0 r nowhere) d n worst
  fine_ways w d n worst f =
      record { within = f.within; small = f.small; goes = λ h r s. f.goes h 0 r nowhere s }

  -- no other way is as one way
  pub ways_never : (w : ℕ → Reach → Reach → Walk) (d : Dealing) (n worst : ℕ) → Ways w d n worst →
      Ways w (fork d never) (sum n 0) worst
  ways_never w d n worst f = record {
    within = sum_within d.spared 0 n 0 f.within (omega arith) (omega arith);
    small = sum_small n 0 f.small (omega arith);
    goes = λ h i r out s.
        let one = f.goes (fork_ranks d never worst h).0 i r out
        (suits_left r d never n 0 f.within (omega arith) s) in
        (one.0, (one.1.0, gathered r out one.0 one.1.1));
  }
    where
      gathered : (r out o : Reach) → Gathers r out o d → Gathers r out o (fork d never)
      gathered r out o g = record { live = λ h. live (g.live h); spent = λ h. spent (g.spent h) }
        where
          live : Has out.live ⊎ (Has r.live × (d.lives ≡ true)) →
              Has out.live ⊎ (Has r.live × ((d.lives || false) ≡ true))
          live (inl h) = inl h
          live (inr h) = inr (h.0, or_left d.lives false h.1)

          spent : Has out.spent ⊎ ((Has r.spent × (d.lives ≡ true)) ⊎ (Has r.live × (d.spends ≡ true))) →
              Has out.spent
              ⊎ ((Has r.spent × ((d.lives || false) ≡ true)) ⊎ (Has r.live × ((d.spends || false) ≡ true)))
          spent (inl h) = inl h
          spent (inr (inl h)) = inr (inl (h.0, or_left d.lives false h.1))
          spent (inr (inr h)) = inr (inr (h.0, or_left d.spends false h.1))

  -- Borrow statements.

  pub fine_met : (h : Hold) (t : Touch) (k : Counts) → Fits t k →
      Fine (walk_step (verdict h (lives.unless_hidden h k))) (once (touches.unless_hidden h t)) 0 (room h)
  fine_met h t k f =
      let g = fits_hidden h t k f in
      fine_step (verdict h (lives.unless_hidden h k)) (touches.unless_hidden h t) (room h)
      (λ e. step_spent (touches.unless_hidden h t) (lives.unless_hidden h k) g e)
      (λ le. step_goes h (touches.unless_hidden h t) (lives.unless_hidden h k) g le)

  kept_same : (t : Touch) → rank (kept t) ≤ 3 → kept t ≡ t
  kept_same Untouched h = refl
  kept_same Quiet h = refl
  kept_same Written h = refl
  kept_same Consumed h = absurd (omega (arith, h))
  kept_same Broken h = refl

  -- a step in a loop
  pub fine_kept : (h : Hold) (t : Touch) (k : Counts) → Fits t k →
      Fine (walk_step (verdict h (lives.unless_hidden h k))) (once (kept (touches.unless_hidden h t))) 0
      (room h)
  fine_kept h t k f =
      let g = fits_hidden h t k f in
      let u = touches.unless_hidden h t in
      let few = room_few h in
      fine_step (verdict h (lives.unless_hidden h k)) (kept u) (room h)
      (λ e. step_spent u (lives.unless_hidden h k) g (kept_none u e))
      (λ le.
      let same = kept_same u (omega (arith, le, few)) in
      step_goes h u (lives.unless_hidden h k) g (subst (λ t. rank t ≤ room h) same le)
      ∙ ap (λ t. going (is_consumed t)) (sym same))

  -- a part round which nothing of the variable is met
  fine_unmet : (h : Hold) (v : Reach → Walk) (d : Dealing) (n worst : ℕ) → Fine v d n worst → room h ≤ worst →
      Fine (λ r. walk_step (verdict h unmentioned) r >>= v) d n (room h)
  fine_unmet h v d n worst f le =
      fine_chain (walk_step (verdict h unmentioned)) v (once Untouched) d 0 n (room h) worst
      (fine_step (verdict h unmentioned) Untouched (room h) (λ e. refl) (λ le. untouched_live h)) f
      (room_few h)
      le

  -- what a borrow statement says of the touches inside
  read_inside : (h : Hold) (t : Touch) → rank (touches.lent access.Read t) ≤ room h →
      (1 ≤ room h) × (rank t ≤ 1)
  read_inside h Untouched le = (omega (arith, le), omega arith)
  read_inside h Quiet le = (omega (arith, le), omega arith)
  read_inside h Written le = let few = room_few h in absurd (omega (arith, le, few))
  read_inside h Consumed le = let few = room_few h in absurd (omega (arith, le, few))
  read_inside h Broken le = let few = room_few h in absurd (omega (arith, le, few))

  write_inside : (h : Hold) (t : Touch) → rank (touches.lent access.Write t) ≤ room h →
      (2 ≤ room h) × (rank t ≤ 0)
  write_inside h Untouched le = (omega (arith, le), omega arith)
  write_inside h Quiet le = let few = room_few h in absurd (omega (arith, le, few))
  write_inside h Written le = let few = room_few h in absurd (omega (arith, le, few))
  write_inside h Consumed le = let few = room_few h in absurd (omega (arith, le, few))
  write_inside h Broken le = let few = room_few h in absurd (omega (arith, le, few))

  lent_some : (a : Access) (t : Touch) → touches.lent a t ≡ Untouched → ⊥
  lent_some a t h =
      let z : rank (touches.lent a t) ≡ 0 = ap rank h in
      by a t z
    where
      by : (a : Access) (t : Touch) → rank (touches.lent a t) ≡ 0 → ⊥
      by access.Read Untouched z = omega (arith, z)
      by access.Read Quiet z = omega (arith, z)
      by access.Read Written z = omega (arith, z)
      by access.Read Consumed z = omega (arith, z)
      by access.Read Broken z = omega (arith, z)
      by access.Write Untouched z = omega (arith, z)
      by access.Write Quiet z = omega (arith, z)
      by access.Write Written z = omega (arith, z)
      by access.Write Consumed z = omega (arith, z)
      by access.Write Broken z = omega (arith, z)

  read_goes : (h : Hold) (v : Reach → Walk) (d : Dealing) (n worst : ℕ) → Fine v d n worst → 1 ≤ worst →
      Fine (λ r. walk_step (verdict h (opening_counts access.Read)) r >>= v) (lend access.Read d) n (room h)
  read_goes h v d n worst f some = record {
    within = f.within;
    small = f.small;
    goes = λ le r s.
        let i = read_inside h d.touch le in
        let step = fine_step (verdict h (opening_counts access.Read)) Quiet (room h)
        (λ e. absurd (let z : 1 ≡ 0 = ap rank e in omega (arith, z)))
        (λ le. step_goes h Quiet (opening_counts access.Read) (refl, refl) le) in
        let g = chain_goes (walk_step (verdict h (opening_counts access.Read))) v (once Quiet) d 0 n
        (room h) worst
        step f i.0 (omega (arith, i.1)) (omega (arith, i.1, some)) r
        (record { spent = λ p. absurd (lent_some access.Read d.touch (s.spent p)); owed = s.owed }) in
        (g.0, (g.1.0, record { live = g.1.1.live; spent = g.1.1.spent }));
  }

  write_goes : (h : Hold) (v : Reach → Walk) (d : Dealing) (n worst : ℕ) → Fine v d n worst →
      Fine (λ r. walk_step (verdict h (opening_counts access.Write)) r >>= v) (lend access.Write d) n (room h)
  write_goes h v d n worst f = record {
    within = f.within;
    small = f.small;
    goes = λ le r s.
        let i = write_inside h d.touch le in
        let step = fine_step (verdict h (opening_counts access.Write)) Written (room h)
        (λ e. absurd (let z : 2 ≡ 0 = ap rank e in omega (arith, z)))
        (λ le. step_goes h Written (opening_counts access.Write) refl le) in
        let g = chain_goes (walk_step (verdict h (opening_counts access.Write))) v (once Written) d 0 n
        (room h)
        worst step f i.0 (omega (arith, i.1)) (omega (arith, i.1)) r
        (record { spent = λ p. absurd (lent_some access.Write d.touch (s.spent p)); owed = s.owed }) in
        (g.0, (g.1.0, record { live = g.1.1.live; spent = g.1.1.spent }));
  }

  -- how the variable is held inside a borrow statement, by whether it is the one that is borrowed, and
  -- whether the reference has its name
  abbrev pub inside : Bool → Bool → Access → Hold → Hold
  inside named hides a h = if hides then hidden else (if named then tighter a h else h)

  room_read : (hides : Bool) (h : Hold) → 1 ≤ room h → 1 ≤ room (inside true hides access.Read h)
  room_read true h le = omega arith
  room_read false unlent le = omega arith
  room_read false read_lent le = omega arith
  room_read false write_lent le = absurd (omega (arith, le))
  room_read false hidden le = omega arith

  room_other : (hides : Bool) (a : Access) (h : Hold) → room h ≤ room (inside false hides a h)
  room_other true a h = let few = room_few h in omega (arith, few)
  room_other false a h = omega arith

  room_hidden : (named hides : Bool) (a : Access) → 3 ≤ room (inside named hides a hidden)
  room_hidden named true a = omega arith
  room_hidden true false access.Read = omega arith
  room_hidden true false access.Write = omega arith
  room_hidden false false a = omega arith

  abbrev opens : Bool → Access → Hold → Bool → Fate
  opens named a h = verdict h (lives.unless_hidden h (if named then opening_counts a else unmentioned))

  -- where it is held at all
  lend_held : (a : Access) (h : Hold) (hides : Bool) (v : Reach → Walk) (d : Dealing) (n : ℕ) →
      Fine v d n (room (inside true hides a h)) →
      Fine (λ r. walk_step (verdict h (opening_counts a)) r >>= v) (lend a d) n (room h)
  lend_held access.Write h hides v d n f = write_goes h v d n (room (inside true hides access.Write h)) f
  lend_held access.Read unlent hides v d n f =
      read_goes unlent v d n (room (inside true hides access.Read unlent)) f
      (room_read hides unlent (omega arith))
  lend_held access.Read read_lent hides v d n f =
      read_goes read_lent v d n (room (inside true hides access.Read read_lent)) f
      (room_read hides read_lent (omega arith))
  lend_held access.Read hidden hides v d n f =
      read_goes hidden v d n (room (inside true hides access.Read hidden)) f
      (room_read hides hidden (omega arith))
  lend_held access.Read write_lent hides v d n f = record {
    within = f.within;
    small = f.small;
    goes = λ le r s. let i = (read_inside write_lent d.touch le).0 in absurd (omega (arith, i));
  }

  pub fine_borrow : (named hides : Bool) (a : Access) (h : Hold) (v : Reach → Walk) (d : Dealing) (n : ℕ) →
      Fine v d n (room (inside named hides a h)) →
      Fine (λ r. walk_step (opens named a h) r >>= v) (lend_by named a h d) n (room h)
  fine_borrow named hides a hidden v d n f =
      fine_unmet hidden v d n (room (inside named hides a hidden)) f (room_hidden named hides a)
  fine_borrow true hides a unlent v d n f = lend_held a unlent hides v d n f
  fine_borrow true hides a read_lent v d n f = lend_held a read_lent hides v d n f
  fine_borrow true hides a write_lent v d n f = lend_held a write_lent hides v d n f
  fine_borrow false hides a unlent v d n f =
      fine_unmet unlent v d n (room (inside false hides a unlent)) f (room_other hides a unlent)
  fine_borrow false hides a read_lent v d n f =
      fine_unmet read_lent v d n (room (inside false hides a read_lent)) f (room_other hides a read_lent)
  fine_borrow false hides a write_lent v d n f =
      fine_unmet write_lent v d n (room (inside false hides a write_lent)) f (room_other hides a write_lent)
