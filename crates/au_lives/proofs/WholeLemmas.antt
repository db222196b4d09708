-- What the walk over a whole scope says of the life.
use Rattle.std.proofs.Common.{◌≡◌, ℕ, Bool, true, false, List, [], ◌++◌, None, Some, Ok, Err, refl, sym, ap}
use Rattle.std.proofs.Common.{subst, ◌∙◌, append-nil}
use Rattle.std.proofs.lemmas.List.{append_assoc}
use Rattle.au_syntax.specs.Plain.{Bytes, PlainStatements}
use Rattle.au_lives.specs.declared.lives.LifeKind.{LifeKind}
use Rattle.au_lives.specs.declared.lives.Sort.{Sort}
use Rattle.au_lives.specs.Paths.{Step, follow_block}
use Rattle.au_lives.specs.Lives.{unlent, GoodPaths, BadPath, keeps_loops, Fate, going, broken, onward, at_end}
use Rattle.au_lives.specs.Lives.{judge, fate}
use Rattle.au_lives.specs.Walks.{Reach, reach, Walk, Breach, finish, Machine, onto, step_by, in_turn}
use Rattle.au_lives.specs.Walks.{drive_block, walk_block, checked}
use Rattle.au_lives.specs.Trimming.{without_zeros}
use Rattle.au_lives.proofs.Summaries.{Has, Broken, Breaks, Sums, Summed, none_some, some_same, seq_sum, step_sum}
use Rattle.au_lives.proofs.TurnLemmas.{broken_going, absorbs_step}
use Rattle.au_lives.proofs.WalkLemmas.{sum_block}
use Rattle.au_lives.proofs.JudgingLemmas.{seen, driven_block}
use Rattle.au_lives.proofs.GoodLemmas.{fate_good, good_fate}
use Rattle.au_lives.proofs.TrimLemmas.{Same, same_block, alike_trimmed, trimmed_begins, trimmed_ends}

abbrev start : Reach
start = reach (Some []) None

start_is : (s : Bool) (p : List ℕ) → Has start s p → (s ≡ false) × (p ≡ [])
start_is false p h = (refl, sym (some_same [] p h))
start_is true p h = none_some p h

module _ (x : Bytes) (sort : Sort) where
  abbrev whole : PlainStatements → Machine
  whole b = in_turn (drive_block x sort b unlent) (step_by (at_end sort))

  ended_on : (v : Fate) (ss : List Step) (t cs : List ℕ) (b : Bool) →
      (onto (seen x sort v (record { steps = ss; taken = t; rest = cs; returned = b }))
      (step_by (at_end sort))).fate ≡ onward (at_end sort) (judge x sort v ss)
  ended_on v ss t cs true = refl
  ended_on v ss t cs false = refl

  taken_on : (v : Fate) (ss : List Step) (t cs : List ℕ) (b : Bool) →
      (onto (seen x sort v (record { steps = ss; taken = t; rest = cs; returned = b }))
      (step_by (at_end sort))).taken ≡ t
  taken_on v ss t cs true = refl
  taken_on v ss t cs false = append-nil t

  -- how the whole drives is how its path ends
  whole_fate : (b : PlainStatements) (cs : List ℕ) → (whole b (going false) cs).fate
      ≡ fate x sort (follow_block b [] cs).steps
  whole_fate b cs =
      let r = follow_block b [] cs in
      ap (λ d. (onto d (step_by (at_end sort))).fate) (driven_block x sort b [] (going false) cs)
      ∙ ended_on (going false) r.steps r.taken r.rest r.returned

  whole_taken : (b : PlainStatements) (cs : List ℕ) → (whole b (going false) cs).taken
      ≡ (follow_block b [] cs).taken
  whole_taken b cs =
      let r = follow_block b [] cs in
      ap (λ d. (onto d (step_by (at_end sort))).taken) (driven_block x sort b [] (going false) cs)
      ∙ taken_on (going false) r.steps r.taken r.rest r.returned

  summed : (b : PlainStatements) → keeps_loops x sort b ≡ true → Summed (whole b) start (checked x sort b)
  summed b k =
      seq_sum (drive_block x sort b unlent) (step_by (at_end sort)) start (walk_block x sort b unlent start)
      (finish sort) (absorbs_step (at_end sort))
      (sum_block x sort b unlent k start) (λ o. step_sum (at_end sort) o)

  pub yes_good : (b : PlainStatements) (o : Reach) → keeps_loops x sort b ≡ true → checked x sort b ≡ Ok o →
      GoodPaths x sort b
  yes_good b o k e = λ cs.
      let s : Sums (whole b) start o = subst (λ (w : Walk). Summed (whole b) start w) e (summed b k) in
      let f = s.passes false [] refl cs in
      fate_good x sort (follow_block b [] cs).steps f.state (sym (whole_fate b cs) ∙ f.fate)

  -- a path that breaks, as the walk keeps it
  record Breaking (b : PlainStatements) (e : Breach) : Type 0 where
    pub breaks : fate x sort (follow_block b [] e.path).steps ≡ broken e.kind
    pub more : List ℕ
    pub taken : (follow_block b [] e.path).taken ≡ e.path ++ more

  no_bad : (b : PlainStatements) (e : Breach) → keeps_loops x sort b ≡ true → checked x sort b ≡ Err e →
      Breaking b e
  no_bad b e k h =
      let s : Breaks (whole b) start e.kind e.path =
      subst (λ (w : Walk). Summed (whole b) start w) h (summed b k) in
      let at = start_is s.from s.before s.starts in
      let path : e.path ≡ s.here = s.splits ∙ ap (λ l. l ++ s.here) at.1 in
      let begun : Broken (whole b (going false) (s.here ++ [])) e.kind s.here =
      subst (λ (u : Bool). Broken (whole b (going u) (s.here ++ [])) e.kind s.here) at.0 (s.breaks []) in
      let same : s.here ++ [] ≡ e.path = append-nil s.here ∙ sym path in
      let all : Broken (whole b (going false) e.path) e.kind s.here =
      subst (λ (l : List ℕ). Broken (whole b (going false) l) e.kind s.here) same begun in
      record {
        breaks = sym (whole_fate b e.path) ∙ all.fate;
        more = all.more;
        taken = sym (whole_taken b e.path) ∙ all.taken ∙ ap (λ l. l ++ all.more) (sym path);
      }

  pub trimmed_bad : (b : PlainStatements) (e : Breach) → keeps_loops x sort b ≡ true → checked x sort b
      ≡ Err e → BadPath x sort b e.kind (without_zeros e.path)
  trimmed_bad b e k h =
      let g = no_bad b e k h in
      let w = trimmed_begins e.path in
      let same : Same (follow_block b [] (without_zeros e.path)) (follow_block b [] e.path) =
      same_block b [] (without_zeros e.path) e.path (alike_trimmed e.path) in
      record {
        breaks = ap (fate x sort) same.steps ∙ g.breaks;
        least = (
          w.0 ++ g.more,
          same.taken ∙ g.taken ∙ ap (λ l. l ++ g.more) w.1
              ∙ append_assoc (without_zeros e.path) w.0 g.more,
        );
        short = trimmed_ends e.path;
      }

  pub bad_not_good : (b : PlainStatements) (k : LifeKind) (path : List ℕ) → BadPath x sort b k path →
      GoodPaths x sort b → ⊥
  bad_not_good b k path h g =
      let w = good_fate x sort (follow_block b [] path).steps (g path) in
      broken_going k w.0 (sym h.breaks ∙ w.1)

  good_yes_on : (b : PlainStatements) (w : Walk) → keeps_loops x sort b ≡ true → checked x sort b ≡ w →
      GoodPaths x sort b → (o : Reach) × (w ≡ Ok o)
  good_yes_on b (Ok o) k h g = (o, refl)
  good_yes_on b (Err e) k h g = absurd (bad_not_good b e.kind (without_zeros e.path) (trimmed_bad b e k h) g)

  pub good_yes : (b : PlainStatements) → keeps_loops x sort b ≡ true → GoodPaths x sort b → (o : Reach)
      × (checked x sort b ≡ Ok o)
  good_yes b k g = good_yes_on b (checked x sort b) k refl g
