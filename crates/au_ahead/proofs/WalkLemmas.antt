-- A walk that breaks no life shows that the variable gets through what lies ahead, from each state that is possible.
use Rattle.std.proofs.Common.{◌≡◌, ℕ, ◌+◌, Bool, true, false, List, [], ◌∷◌, ◌++◌, Some, None, Ok}
use Rattle.std.proofs.Common.{refl, subst}
use Rattle.std.proofs.lemmas.Bool.{and_parts}
use Rattle.au_syntax.specs.Statements.{skip, declare, destructure, assign, assign_through, conditional}
use Rattle.au_syntax.specs.Statements.{conditional_else, case_of, while_loop, for_loop, borrow_in}
use Rattle.au_syntax.specs.Statements.{borrow_typed, discard, return_of, no_statements, statements}
use Rattle.au_syntax.specs.Statements.{no_branches, branches, no_arms, arms}
use Rattle.au_syntax.specs.Plain.{Bytes, PlainExpression, PlainStatement, PlainStatements, PlainBranches, PlainArms}
use Rattle.au_lives.specs.declared.lives.Sort.{Sort}
use Rattle.au_lives.specs.Lives.{Hold, unlent, held_from, is_free, keeps, at_end, GoodLife, each_in_block, each_loop}
use Rattle.au_lives.specs.Lives.{each_loop_of_block, each_loop_of_branches, each_loop_of_arms}
use Rattle.au_lives.specs.Paths.{whole, opening, assignment, assignment_behind, lent, declared, declared_by}
use Rattle.au_lives.specs.Paths.{bound_names, access_of}
use Rattle.au_lives.specs.Walks.{Reach, reach, Walk, ◌>>=◌, nowhere, merge, choose, joined, finish, stop, returned}
use Rattle.au_lives.specs.Walks.{left, turned, noted, walk_step, does, walk, walk_block, walk_branches, walk_arms}
use Rattle.au_lives.proofs.KeepingLemmas.{loops_of_block}
use Rattle.au_lives.proofs.Summaries.{Has, choose_has}
use Rattle.au_lives.proofs.WholeLemmas.{good_yes}
use Rattle.au_ahead.specs.Ahead.{OnGood, Ends, Ahead, AheadAll, AheadBranches, AheadArms}
use Rattle.au_ahead.proofs.KeptLemmas.{Same, on_kept, stays_all}
use Rattle.au_ahead.proofs.MoreLemmas.{on_more, more_all}
use Rattle.au_ahead.proofs.StepLemmas.{Within, within_on, merged, walk_gave, noted_gave, on_step, whole_kept}

-- what holds of each state of a reach
abbrev pub Each : Reach → (Bool → Type 0) → Type 0
Each o Q = (s : Bool) (p : List ℕ) → Has o s p → Q s

through : (a o : Reach) (Q : Bool → Type 0) → Within a o → Each o Q → Each a Q
through a o Q within go s p has = let z = within s p has in go s z.0 z.1

same_reach : (a o : Reach) (Q : Bool → Type 0) → ◌≡◌ {A = Walk} (Ok a) (Ok o) → Each o Q → Each a Q
same_reach a o Q h go s p has = let same : a ≡ o = cc in go s p (subst (λ t. Has t s p) same has)

-- what a walk shows of what it is asked behind it: a state before it gets through
abbrev Shows : (Reach → Walk) → Reach → (Bool → Type 0) → Type 0
Shows w o P = (r q : Reach) → w r ≡ Ok q → Within q o → Each r P

module _ (x : Bytes) (sort : Sort) where
  abbrev kept : Hold → PlainExpression → Bool
  kept = keeps x (is_free sort)

  -- ---- the parts of a conditional and a case lead where these do

  within_branches : (bs : PlainBranches) (h : Hold) (other : Reach → Walk) (i : ℕ) (r out o : Reach)
      → walk_branches x sort bs h other i r out ≡ Ok o → Within out o
  within_branches no_branches h other i r out o e =
      let last = walk_gave (other (choose i r)) (joined out) o e in
      (merged out last.0 o last.2).0
  within_branches (branches test b rest) h other i r out o e =
      let first = walk_gave (noted i (walk_step (does x sort (whole test) h) r)) (λ q. walk_block x sort b h (choose i q)
      >>= (λ z. walk_branches x sort rest h other (i + 1) q (merge out z))) o e in
      let second = walk_gave (walk_block x sort b h (choose i first.0))
      (λ z. walk_branches x sort rest h other (i + 1) first.0 (merge out z)) o first.2 in
      within_on out (merge out second.0) o (merged out second.0 (merge out second.0) refl).0
      (within_branches rest h other (i + 1) first.0 (merge out second.0) o second.2)

  within_arms : (all : PlainArms) (h : Hold) (this : Reach → Walk) (i : ℕ) (r out o : Reach)
      → walk_arms x sort all h this i r out ≡ Ok o → Within out o
  within_arms no_arms h this i r out o e =
      let last = walk_gave (this (choose i r)) (joined out) o e in
      (merged out last.0 o last.2).0
  within_arms (arms when' name binds b rest) h this i r out o e =
      let next = walk_block x sort b (held_from x (bound_names binds) h) in
      let first = walk_gave (this (choose i r)) (λ z. walk_arms x sort rest h next (i + 1) r (merge out z)) o e in
      within_on out (merge out first.0) o (merged out first.0 (merge out first.0) refl).0
      (within_arms rest h next (i + 1) r (merge out first.0) o first.2)

  -- ---- loops

  -- a body that consumes nothing, from the state behind the test
  turn_ahead : (b : PlainStatements) (h : Hold) (u : Bool) → each_in_block x kept b h ≡ true
      → AheadAll x sort b h (λ s. Unit {0}) u → AheadAll x sort b h (λ s. s ≡ u) u
  turn_ahead b h u k a =
      more_all x sort b h (Same (λ s. Unit {0}) u) (λ s. s ≡ u) (λ s c. c.0) u
      (stays_all x sort b h (λ s. Unit {0}) u k a)

  -- behind the test the variable is as it was before it
  at_start : (b : PlainStatements) (h : Hold) (Q : Bool → Type 0) (u s : Bool) → s ≡ u
      → AheadAll x sort b h (λ t. t ≡ s) s × Q s → (s ≡ u) × AheadAll x sort b h (λ t. t ≡ u) u × Q u
  at_start b h Q u s e a =
      let moved : AheadAll x sort b h (λ t. t ≡ u) u × Q u =
      subst (λ v. AheadAll x sort b h (λ t. t ≡ v) v × Q v) e a in
      (e, moved.0, moved.1)

  mutual
    pub ahead : (s : PlainStatement) (h : Hold) (r o : Reach) (Q : Bool → Type 0) → each_loop x kept s h ≡ true
        → walk x sort s h r ≡ Ok o → Each o Q → (u : Bool) (p : List ℕ) → Has r u p → Ahead x sort s h Q u
    ahead (skip at) h r o Q k e go u p has = same_reach r o Q e go u p has
    ahead (declare at binding name t a) h r o Q k e go u p has =
        on_step (does x sort (whole a) h) r o Q e go u p has
    ahead (destructure at binds a) h r o Q k e go u p has = on_step (does x sort (whole a) h) r o Q e go u p has
    ahead (assign at name fields a) h r o Q k e go u p has =
        let first = walk_gave (walk_step (does x sort (whole a) h) r)
        (walk_step (does x sort (assignment name.name) h)) o e in
        on_step (does x sort (whole a) h) r first.0 (λ s. OnGood (does x sort (assignment name.name) h s) Q) first.1
        (λ s q there. on_step (does x sort (assignment name.name) h) first.0 o Q first.2 go s q there) u p has
    ahead (assign_through at name fields a) h r o Q k e go u p has =
        let first = walk_gave (walk_step (does x sort (whole a) h) r)
        (walk_step (does x sort (assignment_behind name.name) h)) o e in
        on_step (does x sort (whole a) h) r first.0 (λ s. OnGood (does x sort (assignment_behind name.name) h s) Q)
        first.1
        (λ s q there. on_step (does x sort (assignment_behind name.name) h) first.0 o Q first.2 go s q there) u p has
    ahead (conditional at bs) h r o Q k e go u p has =
        ahead_branches bs h Ok Q 0 r nowhere o Q k e
        (λ q z f within. same_reach q z Q f (through z o Q within go))
        go u p has
    ahead (conditional_else at bs b) h r o Q k e go u p has =
        let both = and_parts (each_loop_of_branches x kept bs h) (each_loop_of_block x kept b h) k in
        ahead_branches bs h (walk_block x sort b h) (λ s. AheadAll x sort b h Q s) 0 r nowhere o Q both.0 e
        (λ q z f within s l there. ahead_all b h q z Q both.1 f (through z o Q within go) s l there) go u p has
    ahead (case_of at a no_arms) h r o Q k e go u p has =
        let first = walk_gave (walk_step (does x sort (whole a) h) r) (λ q. Ok (choose 0 q) >>= joined nowhere) o e in
        on_step (does x sort (whole a) h) r first.0 (λ s. Unit {0}) first.1 (λ s q there. tt) u p has
    ahead (case_of at a (arms when' name binds b rest)) h r o Q k e go u p has =
        let inner = held_from x (bound_names binds) h in
        let both = and_parts (each_loop_of_block x kept b inner) (each_loop_of_arms x kept rest h) k in
        let first = walk_gave (walk_step (does x sort (whole a) h) r)
        (λ q. walk_arms x sort rest h (walk_block x sort b inner) 0 q nowhere) o e in
        on_step (does x sort (whole a) h) r first.0
        (λ s. AheadAll x sort b inner Q s × AheadArms x sort rest h Q s) first.1
        (λ s q there. ahead_arms rest h (walk_block x sort b inner) (λ t. AheadAll x sort b inner Q t) 0 first.0 nowhere
        o Q both.1 first.2
        (λ y z f within t l now. ahead_all b inner y z Q both.0 f (through z o Q within go) t l now) go s q there)
        u p has
    ahead (while_loop at a b) h r o Q k e go u p has =
        let both = and_parts (kept h a) (each_in_block x kept b h) k in
        let first = walk_gave (walk_step (does x sort (whole a) h) r) (turned (walk_block x sort b h)) o e in
        let second = walk_gave (walk_block x sort b h (choose 1 first.0)) (left first.0) o first.2 in
        let turns = λ (s : Bool). AheadAll x sort b h (λ t. t ≡ s) s × Q s in
        on_more (does x sort (whole a) h u) (Same turns u)
        (λ s. (s ≡ u) × AheadAll x sort b h (λ t. t ≡ u) u × Q u) (λ s c. at_start b h Q u s c.0 c.1)
        (on_kept (does x sort (whole a) h u) u turns (λ s w. whole_kept x sort h a both.0 u s w)
        (on_step (does x sort (whole a) h) r first.0 turns first.1
        (λ s q there. (
          turn_ahead b h s both.1 (ahead_all b h (choose 1 first.0) second.0 (λ t. Unit {0})
              (loops_of_block x kept b h both.1) second.1 (λ t l now. tt) s (q ++ 1 ∷ []) (choose_has 1 first.0 s q there)),
          same_reach (choose 0 first.0) o Q second.2 go s (q ++ 0 ∷ []) (choose_has 0 first.0 s q there),
        )) u p has))
    ahead (for_loop at name a z b) h r o Q k e go u p has =
        let inner = held_from x (declared name.name ∷ []) h in
        let last = walk_gave (walk_step (does x sort (whole a) h) r >>= walk_step (does x sort (whole z) h))
        (turned (walk_block x sort b inner)) o e in
        let first = walk_gave (walk_step (does x sort (whole a) h) r) (walk_step (does x sort (whole z) h)) last.0 last.1 in
        let second = walk_gave (walk_block x sort b inner (choose 1 last.0)) (left last.0) o last.2 in
        let turns = λ (s : Bool). AheadAll x sort b inner (λ t. t ≡ s) s × Q s in
        on_step (does x sort (whole a) h) r first.0 (λ s. OnGood (does x sort (whole z) h s) turns) first.1
        (λ s q there. on_step (does x sort (whole z) h) first.0 last.0 turns first.2
        (λ t l now. (
          turn_ahead b inner t k (ahead_all b inner (choose 1 last.0) second.0 (λ v. Unit {0})
              (loops_of_block x kept b inner k) second.1 (λ v m then'. tt) t (l ++ 1 ∷ []) (choose_has 1 last.0 t l now)),
          same_reach (choose 0 last.0) o Q second.2 go t (l ++ 0 ∷ []) (choose_has 0 last.0 t l now),
        )) s q there) u p has
    ahead (borrow_in at access y r' region b stop) h r o Q k e go u p has =
        let inner = held_from x (declared r'.name ∷ lent access y.name ∷ []) h in
        let first = walk_gave (walk_step (does x sort (opening access y.name) h) r) (walk_block x sort b inner) o e in
        on_step (does x sort (opening access y.name) h) r first.0 (λ s. AheadAll x sort b inner Q s) first.1
        (λ s q there. ahead_all b inner first.0 o Q k first.2 go s q there) u p has
    ahead (borrow_typed at r' t mode y b stop) h r o Q k e go u p has =
        let inner = held_from x (declared r'.name ∷ lent (access_of mode) y.name ∷ []) h in
        let first = walk_gave (walk_step (does x sort (opening (access_of mode) y.name) h) r)
        (walk_block x sort b inner) o e in
        on_step (does x sort (opening (access_of mode) y.name) h) r first.0 (λ s. AheadAll x sort b inner Q s) first.1
        (λ s q there. ahead_all b inner first.0 o Q k first.2 go s q there) u p has
    ahead (discard at a) h r o Q k e go u p has = on_step (does x sort (whole a) h) r o Q e go u p has
    ahead (return_of at a) h r o Q k e go u p has =
        let first = walk_gave (walk_step (does x sort (whole a) h) r) (returned sort) o e in
        let second = walk_gave (finish sort first.0) stop o first.2 in
        on_step (does x sort (whole a) h) r first.0 (Ends sort) first.1
        (λ s q there. on_step (at_end sort) first.0 second.0 (λ t. Unit {0}) second.1 (λ t l now. tt) s q there) u p has

    pub ahead_all : (b : PlainStatements) (h : Hold) (r o : Reach) (Q : Bool → Type 0)
        → each_loop_of_block x kept b h ≡ true → walk_block x sort b h r ≡ Ok o → Each o Q
        → (u : Bool) (p : List ℕ) → Has r u p → AheadAll x sort b h Q u
    ahead_all no_statements h r o Q k e go u p has = same_reach r o Q e go u p has
    ahead_all (statements s rest) h r o Q k e go u p has =
        let inner = held_from x (declared_by s) h in
        let both = and_parts (each_loop x kept s h) (each_loop_of_block x kept rest inner) k in
        let first = walk_gave (walk x sort s h r) (walk_block x sort rest inner) o e in
        ahead s h r first.0 (λ t. AheadAll x sort rest inner Q t) both.0 first.1
        (λ t q there. ahead_all rest inner first.0 o Q both.1 first.2 go t q there) u p has

    ahead_branches : (bs : PlainBranches) (h : Hold) (other : Reach → Walk) (P : Bool → Type 0) (i : ℕ)
        (r out o : Reach) (Q : Bool → Type 0) → each_loop_of_branches x kept bs h ≡ true
        → walk_branches x sort bs h other i r out ≡ Ok o → Shows other o P → Each o Q
        → (u : Bool) (p : List ℕ) → Has r u p → AheadBranches x sort bs h P Q u
    ahead_branches no_branches h other P i r out o Q k e shows go u p has =
        let last = walk_gave (other (choose i r)) (joined out) o e in
        shows (choose i r) last.0 last.1 (merged out last.0 o last.2).1 u (p ++ i ∷ []) (choose_has i r u p has)
    ahead_branches (branches test b rest) h other P i r out o Q k e shows go u p has =
        let both = and_parts (each_loop_of_block x kept b h) (each_loop_of_branches x kept rest h) k in
        let first = walk_gave (noted i (walk_step (does x sort (whole test) h) r))
        (λ q. walk_block x sort b h (choose i q)
        >>= (λ z. walk_branches x sort rest h other (i + 1) q (merge out z))) o e in
        let second = walk_gave (walk_block x sort b h (choose i first.0))
        (λ z. walk_branches x sort rest h other (i + 1) first.0 (merge out z)) o first.2 in
        let within = within_branches rest h other (i + 1) first.0 (merge out second.0) o second.2 in
        let in_out = (merged out second.0 (merge out second.0) refl).1 in
        on_step (does x sort (whole test) h) r first.0
        (λ s. AheadAll x sort b h Q s × AheadBranches x sort rest h P Q s)
        (noted_gave i (walk_step (does x sort (whole test) h) r) first.0 first.1)
        (λ s q there. (
          ahead_all b h (choose i first.0) second.0 Q both.0 second.1
              (through second.0 o Q (within_on second.0 (merge out second.0) o in_out within) go) s (q ++ i ∷ [])
              (choose_has i first.0 s q there),
          ahead_branches rest h other P (i + 1) first.0 (merge out second.0) o Q both.1 second.2 shows go s q there,
        )) u p has

    ahead_arms : (all : PlainArms) (h : Hold) (this : Reach → Walk) (P : Bool → Type 0) (i : ℕ)
        (r out o : Reach) (Q : Bool → Type 0) → each_loop_of_arms x kept all h ≡ true
        → walk_arms x sort all h this i r out ≡ Ok o → Shows this o P → Each o Q
        → (u : Bool) (p : List ℕ) → Has r u p → P u × AheadArms x sort all h Q u
    ahead_arms no_arms h this P i r out o Q k e shows go u p has =
        let last = walk_gave (this (choose i r)) (joined out) o e in
        (shows (choose i r) last.0 last.1 (merged out last.0 o last.2).1 u (p ++ i ∷ []) (choose_has i r u p has), tt)
    ahead_arms (arms when' name binds b rest) h this P i r out o Q k e shows go u p has =
        let inner = held_from x (bound_names binds) h in
        let next = walk_block x sort b inner in
        let both = and_parts (each_loop_of_block x kept b inner) (each_loop_of_arms x kept rest h) k in
        let first = walk_gave (this (choose i r)) (λ z. walk_arms x sort rest h next (i + 1) r (merge out z)) o e in
        let within = within_arms rest h next (i + 1) r (merge out first.0) o first.2 in
        let in_out = (merged out first.0 (merge out first.0) refl).1 in (
          shows (choose i r) first.0 first.1 (within_on first.0 (merge out first.0) o in_out within) u (p ++ i ∷ [])
              (choose_has i r u p has),
          ahead_arms rest h next (λ t. AheadAll x sort b inner Q t) (i + 1) r (merge out first.0) o Q both.1 first.2
              (λ y z f w t l now. ahead_all b inner y z Q both.0 f (through z o Q w go) t l now) go u p has,
        )

  -- a good life gets through its scope
  pub good_ahead : (b : PlainStatements) → GoodLife x sort b → AheadAll x sort b unlent (Ends sort) false
  good_ahead b life =
      let yes = good_yes x sort b life.loops life.paths in
      let start = reach (Some []) None in
      let first = walk_gave (walk_block x sort b unlent start) (finish sort) yes.0 yes.1 in
      ahead_all b unlent start first.0 (Ends sort) life.loops first.1
      (λ s q there. on_step (at_end sort) first.0 yes.0 (λ t. Unit {0}) first.2 (λ t l now. tt) s q there)
      false [] refl
