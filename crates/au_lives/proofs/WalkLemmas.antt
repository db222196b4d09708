-- What the walk says of each block.
use Rattle.std.proofs.Common.{◌≡◌, ℕ, ◌+◌, Bool, true, [], ◌∷◌, Ok, refl}
use Rattle.std.proofs.lemmas.Bool.{and_parts}
use Rattle.au_syntax.specs.Statements.{skip, declare, destructure, assign, assign_through, conditional}
use Rattle.au_syntax.specs.Statements.{conditional_else, case_of, while_loop, for_loop, borrow_in}
use Rattle.au_syntax.specs.Statements.{borrow_typed, discard, return_of, no_statements, statements}
use Rattle.au_syntax.specs.Statements.{no_branches, branches, no_arms, arms}
use Rattle.au_syntax.specs.Plain.{Bytes, PlainExpression, PlainStatement, PlainStatements, PlainBranches, PlainArms}
use Rattle.au_lives.specs.declared.lives.Sort.{Sort}
use Rattle.au_lives.specs.Mentions.{counts_in}
use Rattle.au_lives.specs.Paths.{whole, opening, assignment, assignment_behind, lent, declared}
use Rattle.au_lives.specs.Paths.{count_of_branches, count_of_arms, declared_by, bound_names, access_of}
use Rattle.au_lives.specs.Lives.{is_free, Hold, unless_hidden, held_from, keeps, each_in_block, each_loop}
use Rattle.au_lives.specs.Lives.{each_loop_of_block, each_loop_of_branches, each_loop_of_arms, Fate, going}
use Rattle.au_lives.specs.Lives.{at_end}
use Rattle.au_lives.specs.Walks.{Reach, Walk, ◌>>=◌, nowhere, merge, choose, walk_step, joined, returned}
use Rattle.au_lives.specs.Walks.{turned, Machine, step_by, in_turn, ending, looping, chosen, does, drive}
use Rattle.au_lives.specs.Walks.{drive_block, drive_branches, drive_arms, walk, walk_block, walk_branches}
use Rattle.au_lives.specs.Walks.{walk_arms}
use Rattle.au_lives.proofs.Summaries.{Summed, Absorbs, seq_sum, step_sum, end_sum, going_sums}
use Rattle.au_lives.proofs.ChoosingLemmas.{ArmsSummed, arms_base, arms_step, chosen_sum}
use Rattle.au_lives.proofs.TurnLemmas.{keeps_going, absorbs_step, absorbs_chosen, absorbs_looping, loop_sum, test_sum}
use Rattle.au_lives.proofs.KeepingLemmas.{verdict_kept, absorbs_block, absorbs_arms, keeps_block}
use Rattle.au_lives.proofs.KeepingLemmas.{loops_of_block}

module _ (x : Bytes) (sort : Sort) where
  abbrev kept : Hold → PlainExpression → Bool
  kept = keeps x (is_free sort)

  abbrev on : PlainExpression → Hold → Bool → Fate
  on e h = does x sort (whole e) h

  lending_sum : (f : Bool → Fate) (b : PlainStatements) (h : Hold) (r : Reach) →
      ((q : Reach) → Summed (drive_block x sort b h) q (walk_block x sort b h q)) →
      Summed (in_turn (step_by f) (drive_block x sort b h)) r (walk_step f r >>= walk_block x sort b h)
  lending_sum f b h r g =
      seq_sum (step_by f) (drive_block x sort b h) r (walk_step f r) (walk_block x sort b h)
      (absorbs_block x sort b h) (step_sum f r) g

  two_sum : (f g : Bool → Fate) (r : Reach) →
      Summed (in_turn (step_by f) (step_by g)) r (walk_step f r >>= walk_step g)
  two_sum f g r = seq_sum (step_by f) (step_by g) r (walk_step f r) (walk_step g) (absorbs_step g)
      (step_sum f r) (step_sum g)

  mutual
    pub sum : (s : PlainStatement) (h : Hold) → each_loop x kept s h ≡ true → (r : Reach) →
        Summed (drive x sort s h) r (walk x sort s h r)
    sum (skip at) h k r = going_sums r
    sum (declare at binding name t e) h k r = step_sum (on e h) r
    sum (destructure at binds e) h k r = step_sum (on e h) r
    sum (assign at name fields e) h k r = two_sum (on e h) (does x sort (assignment name.name) h) r
    sum (assign_through at name fields e) h k r =
        two_sum (on e h) (does x sort (assignment_behind name.name) h) r
    sum (conditional at bs) h k r =
        chosen_sum (drive_branches x sort bs h (step_by going)) (count_of_branches bs) r
        (walk_branches x sort bs h Ok 0 r nowhere)
        (sum_branches bs h (step_by going) Ok k (absorbs_step going) going_sums 0 r nowhere)
    sum (conditional_else at bs b) h k r =
        let w = and_parts (each_loop_of_branches x kept bs h) (each_loop_of_block x kept b h) k in
        chosen_sum (drive_branches x sort bs h (drive_block x sort b h)) (count_of_branches bs) r
        (walk_branches x sort bs h (walk_block x sort b h) 0 r nowhere)
        (sum_branches bs h (drive_block x sort b h) (walk_block x sort b h) w.0 (absorbs_block x sort b h)
        (sum_block b h w.1) 0 r nowhere)
    sum (case_of at e no_arms) h k r =
        seq_sum (step_by (on e h)) (chosen 0 (λ n. step_by going)) r (walk_step (on e h) r)
        (λ q. Ok (choose 0 q) >>= joined nowhere)
        (absorbs_chosen 0 (λ n. step_by going) (λ n. absorbs_step going)) (step_sum (on e h) r)
        (λ q. chosen_sum (λ n. step_by going) 0 q (Ok (choose 0 q) >>= joined nowhere)
        (arms_base (step_by going) 0 q nowhere (Ok (choose 0 q)) (going_sums (choose 0 q))))
    sum (case_of at e (arms when' name binds b more)) h k r =
        let inner = held_from x (bound_names binds) h in
        let w = and_parts (each_loop_of_block x kept b inner) (each_loop_of_arms x kept more h) k in
        let this = drive_block x sort b inner in
        let ms = drive_arms x sort more h this in
        seq_sum (step_by (on e h)) (chosen (count_of_arms more) ms) r (walk_step (on e h) r)
        (λ q. walk_arms x sort more h (walk_block x sort b inner) 0 q nowhere)
        (absorbs_chosen (count_of_arms more) ms
        (absorbs_arms x sort more h this (absorbs_block x sort b inner))) (step_sum (on e h) r)
        (λ q. chosen_sum ms (count_of_arms more) q
        (walk_arms x sort more h (walk_block x sort b inner) 0 q nowhere)
        (sum_arms more h this (walk_block x sort b inner) w.1 (absorbs_block x sort b inner)
        (sum_block b inner w.0) 0 q nowhere))
    sum (while_loop at e b) h k r =
        let w = and_parts (kept h e) (each_in_block x kept b h) k in
        test_sum (on e h) (drive_block x sort b h) r (walk_step (on e h) r) (turned (walk_block x sort b h))
        (absorbs_block x sort b h) (step_sum (on e h) r)
        (λ q t. loop_sum (on e h) (drive_block x sort b h) r q
        (verdict_kept h (unless_hidden h (counts_in x (is_free sort) e)) w.0) (keeps_block x sort b h w.1)
        (absorbs_block x sort b h) t (walk_block x sort b h (choose 1 q))
        (sum_block b h (loops_of_block x kept b h w.1) (choose 1 q)))
    sum (for_loop at name a z b) h k r =
        let inner = held_from x (declared name.name ∷ []) h in
        seq_sum (in_turn (step_by (on a h)) (step_by (on z h)))
        (looping (step_by going) (drive_block x sort b inner)) r
        (walk_step (on a h) r >>= walk_step (on z h)) (turned (walk_block x sort b inner))
        (absorbs_looping going (drive_block x sort b inner) (absorbs_block x sort b inner))
        (two_sum (on a h) (on z h) r)
        (λ o. loop_sum going (drive_block x sort b inner) o o keeps_going (keeps_block x sort b inner k)
        (absorbs_block x sort b inner) (going_sums o) (walk_block x sort b inner (choose 1 o))
        (sum_block b inner (loops_of_block x kept b inner k) (choose 1 o)))
    sum (borrow_in at access y r' region b stop) h k r =
        let inner = held_from x (declared r'.name ∷ lent access y.name ∷ []) h in
        lending_sum (does x sort (opening access y.name) h) b inner r (sum_block b inner k)
    sum (borrow_typed at r' t mode y b stop) h k r =
        let inner = held_from x (declared r'.name ∷ lent (access_of mode) y.name ∷ []) h in
        lending_sum (does x sort (opening (access_of mode) y.name) h) b inner r (sum_block b inner k)
    sum (discard at e) h k r = step_sum (on e h) r
    sum (return_of at e) h k r =
        seq_sum (step_by (on e h)) (ending (at_end sort)) r (walk_step (on e h) r) (returned sort)
        (λ e cs. refl) (step_sum (on e h) r)
        (λ o. end_sum (at_end sort) o (walk_step (at_end sort) o) (step_sum (at_end sort) o))

    pub sum_block : (b : PlainStatements) (h : Hold) → each_loop_of_block x kept b h ≡ true → (r : Reach) →
        Summed (drive_block x sort b h) r (walk_block x sort b h r)
    sum_block no_statements h k r = going_sums r
    sum_block (statements s more) h k r =
        let inner = held_from x (declared_by s) h in
        let w = and_parts (each_loop x kept s h) (each_loop_of_block x kept more inner) k in
        seq_sum (drive x sort s h) (drive_block x sort more inner) r (walk x sort s h r)
        (walk_block x sort more inner) (absorbs_block x sort more inner) (sum s h w.0 r)
        (sum_block more inner w.1)

    pub sum_branches : (bs : PlainBranches) (h : Hold) (other : Machine) (w : Reach → Walk) →
        each_loop_of_branches x kept bs h ≡ true → Absorbs other → ((r : Reach) → Summed other r (w r)) →
        (i : ℕ) (r out : Reach) →
        ArmsSummed (drive_branches x sort bs h other) (count_of_branches bs) i r out
        (walk_branches x sort bs h w i r out)
    sum_branches no_branches h other w k a g i r out =
        arms_base other i r out (w (choose i r)) (g (choose i r))
    sum_branches (branches e b more) h other w k a g i r out =
        let u = and_parts (each_loop_of_block x kept b h) (each_loop_of_branches x kept more h) k in
        arms_step (on e h) (drive_block x sort b h) (drive_branches x sort more h other)
        (count_of_branches more) i r out (absorbs_block x sort b h)
        (walk_step (on e h) r) (walk_block x sort b h) (walk_branches x sort more h w (i + 1))
        (step_sum (on e h) r) (sum_block b h u.0)
        (λ q o. sum_branches more h other w u.1 a g (i + 1) q (merge out o))

    -- an arm with no test: the test goes on as it is
    pub sum_arms : (rest : PlainArms) (h : Hold) (this : Machine) (w : Reach → Walk) →
        each_loop_of_arms x kept rest h ≡ true → Absorbs this → ((r : Reach) → Summed this r (w r)) →
        (i : ℕ) (r out : Reach) →
        ArmsSummed (drive_arms x sort rest h this) (count_of_arms rest) i r out
        (walk_arms x sort rest h w i r out)
    sum_arms no_arms h this w k a g i r out = arms_base this i r out (w (choose i r)) (g (choose i r))
    sum_arms (arms when' name binds b more) h this w k a g i r out =
        let inner = held_from x (bound_names binds) h in
        let u = and_parts (each_loop_of_block x kept b inner) (each_loop_of_arms x kept more h) k in
        let next = drive_block x sort b inner in
        arms_step going this (drive_arms x sort more h next) (count_of_arms more) i r out a
        (Ok r) w (walk_arms x sort more h (walk_block x sort b inner) (i + 1)) (going_sums r) g
        (λ q o. sum_arms more h next (walk_block x sort b inner) u.1 (absorbs_block x sort b inner)
        (sum_block b inner u.0) (i + 1) q (merge out o))
