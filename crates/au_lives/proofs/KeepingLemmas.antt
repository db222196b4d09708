-- A part that consumes nothing leaves the state as it is, and what is broken stays so.
use Rattle.std.proofs.Common.{◌≡◌, ℕ, ◌==◌, Bool, true, false, not, ◌&&◌, [], ◌∷◌, refl, sym, ap, ◌∙◌, if◌then◌else◌}
use Rattle.std.specs.Str.{bytes_eq}
use Rattle.std.proofs.lemmas.Bool.{and_from, and_parts}
use Rattle.au_syntax.specs.declared.types.Access.{Access}
use Rattle.au_syntax.specs.declared.types.Access.TheVariants as access
use Rattle.au_syntax.specs.Statements.{skip, declare, destructure, assign, assign_through, conditional}
use Rattle.au_syntax.specs.Statements.{conditional_else, case_of, while_loop, for_loop, borrow_in}
use Rattle.au_syntax.specs.Statements.{borrow_typed, discard, return_of, no_statements, statements}
use Rattle.au_syntax.specs.Statements.{no_branches, branches, no_arms, arms}
use Rattle.au_syntax.specs.Plain.{Bytes, PlainExpression, PlainStatement, PlainStatements, PlainBranches, PlainArms}
use Rattle.au_lives.specs.declared.lives.LifeKind.TheVariants as kinds
use Rattle.au_lives.specs.declared.lives.Sort.{Sort}
use Rattle.au_lives.specs.declared.lives.Sort.TheVariants as sorts
use Rattle.au_lives.specs.Mentions.{Counts, unmentioned, one_write_borrow, one_look, counts_in}
use Rattle.au_lives.specs.Paths.{whole, opening, assignment, assignment_behind, lent, declared}
use Rattle.au_lives.specs.Paths.{count_of_branches, count_of_arms, declared_by, bound_names, access_of}
use Rattle.au_lives.specs.Lives.{is_free, Hold, unlent, read_lent, write_lent, hidden, unless_hidden}
use Rattle.au_lives.specs.Lives.{opening_counts, held_from, is_untouched, is_ordinary, is_allowed, keeps}
use Rattle.au_lives.specs.Lives.{each_in, each_in_block, each_in_branches, each_in_arms, going, broken}
use Rattle.au_lives.specs.Lives.{verdict, at_end, each_loop, each_loop_of_block, each_loop_of_branches}
use Rattle.au_lives.specs.Lives.{each_loop_of_arms}
use Rattle.au_lives.specs.Walks.{Machine, step_by, in_turn, ending, looping, chosen, does, drive, drive_block}
use Rattle.au_lives.specs.Walks.{drive_branches, drive_arms}
use Rattle.au_lives.proofs.Summaries.{Absorbs}
use Rattle.au_lives.proofs.TurnLemmas.{Keeps, going_same, broken_going, absorbs_onto, absorbs_step}
use Rattle.au_lives.proofs.TurnLemmas.{absorbs_looping, absorbs_armed, absorbs_chosen, keeps_onto}
use Rattle.au_lives.proofs.TurnLemmas.{keeps_going, keeps_looping, keeps_armed, keeps_chosen}

spent_if : (b t : Bool) → (if b then going true else broken kinds.Again) ≡ going t → t ≡ true
spent_if true t h = sym (going_same true t h)
spent_if false t h = broken_going kinds.Again t h

live_if : (a b c t : Bool) → c ≡ true →
    (if a then (if b then going (not c) else broken kinds.Borrowed) else broken kinds.Clash) ≡ going t → t
    ≡ false
live_if true true c t e h = sym (going_same (not c) t h) ∙ ap not e
live_if true false c t e h = broken_going kinds.Borrowed t h
live_if false b c t e h = broken_going kinds.Clash t h

-- a step that doesn't consume
pub verdict_kept : (h : Hold) (k : Counts) → (k.consumed == 0) ≡ true → Keeps (step_by (verdict h k))
verdict_kept h k e true t cs w = spent_if (is_untouched k) t w
verdict_kept h k e false t cs w = live_if (is_ordinary k) (is_allowed h k) (k.consumed == 0) t e w

named_kept : (h : Hold) (b : Bool) (k : Counts) → (k.consumed == 0) ≡ true →
    ((unless_hidden h (if b then k else unmentioned)).consumed == 0) ≡ true
named_kept unlent true k e = e
named_kept read_lent true k e = e
named_kept write_lent true k e = e
named_kept hidden true k e = refl
named_kept unlent false k e = refl
named_kept read_lent false k e = refl
named_kept write_lent false k e = refl
named_kept hidden false k e = refl

opening_kept : (a : Access) → ((opening_counts a).consumed == 0) ≡ true
opening_kept access.Read = refl
opening_kept access.Write = refl

end_kept : (sort : Sort) → Keeps (ending (at_end sort))
end_kept sorts.Free s t cs h = sym (going_same s t h)
end_kept sorts.WriteReference s t cs h = sym (going_same s t h)
end_kept sorts.Linear true t cs h = sym (going_same true t h)
end_kept sorts.Linear false t cs h = broken_going kinds.Unused t h

module _ (x : Bytes) (sort : Sort) where
  mutual
    pub absorbs : (s : PlainStatement) (h : Hold) → Absorbs (drive x sort s h)
    absorbs (skip at) h = absorbs_step going
    absorbs (declare at binding name t e) h = absorbs_step (does x sort (whole e) h)
    absorbs (destructure at binds e) h = absorbs_step (does x sort (whole e) h)
    absorbs (assign at name fields e) h =
        absorbs_onto (step_by (does x sort (whole e) h)) (step_by (does x sort (assignment name.name) h))
        (absorbs_step (does x sort (whole e) h)) (absorbs_step (does x sort (assignment name.name) h))
    absorbs (assign_through at name fields e) h =
        absorbs_onto (step_by (does x sort (whole e) h))
        (step_by (does x sort (assignment_behind name.name) h)) (absorbs_step (does x sort (whole e) h))
        (absorbs_step (does x sort (assignment_behind name.name) h))
    absorbs (conditional at bs) h =
        absorbs_chosen (count_of_branches bs) (drive_branches x sort bs h (step_by going))
        (absorbs_branches bs h (step_by going) (absorbs_step going))
    absorbs (conditional_else at bs b) h =
        absorbs_chosen (count_of_branches bs) (drive_branches x sort bs h (drive_block x sort b h))
        (absorbs_branches bs h (drive_block x sort b h) (absorbs_block b h))
    absorbs (case_of at e no_arms) h =
        absorbs_onto (step_by (does x sort (whole e) h)) (chosen 0 (λ n. step_by going))
        (absorbs_step (does x sort (whole e) h))
        (absorbs_chosen 0 (λ n. step_by going) (λ n. absorbs_step going))
    absorbs (case_of at e (arms when' name binds b more)) h =
        let this = drive_block x sort b (held_from x (bound_names binds) h) in
        absorbs_onto (step_by (does x sort (whole e) h))
        (chosen (count_of_arms more) (drive_arms x sort more h this))
        (absorbs_step (does x sort (whole e) h))
        (absorbs_chosen (count_of_arms more) (drive_arms x sort more h this)
        (absorbs_arms more h this (absorbs_block b (held_from x (bound_names binds) h))))
    absorbs (while_loop at e b) h =
        absorbs_looping (does x sort (whole e) h) (drive_block x sort b h) (absorbs_block b h)
    absorbs (for_loop at name a z b) h =
        let inner = held_from x (declared name.name ∷ []) h in
        absorbs_onto (in_turn (step_by (does x sort (whole a) h)) (step_by (does x sort (whole z) h)))
        (looping (step_by going) (drive_block x sort b inner))
        (absorbs_onto (step_by (does x sort (whole a) h)) (step_by (does x sort (whole z) h))
        (absorbs_step (does x sort (whole a) h)) (absorbs_step (does x sort (whole z) h)))
        (absorbs_looping going (drive_block x sort b inner) (absorbs_block b inner))
    absorbs (borrow_in at access y r region b stop) h =
        let inner = held_from x (declared r.name ∷ lent access y.name ∷ []) h in
        absorbs_onto (step_by (does x sort (opening access y.name) h)) (drive_block x sort b inner)
        (absorbs_step (does x sort (opening access y.name) h)) (absorbs_block b inner)
    absorbs (borrow_typed at r t mode y b stop) h =
        let inner = held_from x (declared r.name ∷ lent (access_of mode) y.name ∷ []) h in
        absorbs_onto (step_by (does x sort (opening (access_of mode) y.name) h)) (drive_block x sort b inner)
        (absorbs_step (does x sort (opening (access_of mode) y.name) h)) (absorbs_block b inner)
    absorbs (discard at e) h = absorbs_step (does x sort (whole e) h)
    absorbs (return_of at e) h =
        absorbs_onto (step_by (does x sort (whole e) h)) (ending (at_end sort))
        (absorbs_step (does x sort (whole e) h)) (λ k cs. refl)

    pub absorbs_block : (b : PlainStatements) (h : Hold) → Absorbs (drive_block x sort b h)
    absorbs_block no_statements h = absorbs_step going
    absorbs_block (statements s more) h =
        absorbs_onto (drive x sort s h) (drive_block x sort more (held_from x (declared_by s) h))
        (absorbs s h) (absorbs_block more (held_from x (declared_by s) h))

    pub absorbs_branches : (bs : PlainBranches) (h : Hold) (other : Machine) → Absorbs other → (n : ℕ) →
        Absorbs (drive_branches x sort bs h other n)
    absorbs_branches no_branches h other a n = a
    absorbs_branches (branches e b more) h other a n =
        absorbs_armed (does x sort (whole e) h) (drive_block x sort b h) (drive_branches x sort more h other)
        (absorbs_block b h) (absorbs_branches more h other a) n

    pub absorbs_arms : (rest : PlainArms) (h : Hold) (this : Machine) → Absorbs this → (n : ℕ) →
        Absorbs (drive_arms x sort rest h this n)
    absorbs_arms no_arms h this a n = a
    absorbs_arms (arms when' name binds b more) h this a n =
        let inner = held_from x (bound_names binds) h in
        absorbs_armed going this (drive_arms x sort more h (drive_block x sort b inner)) a
        (absorbs_arms more h (drive_block x sort b inner) (absorbs_block b inner)) n

  whole_kept : (e : PlainExpression) (h : Hold) → keeps x (is_free sort) h e ≡ true →
      Keeps (step_by (does x sort (whole e) h))
  whole_kept e h k = verdict_kept h (unless_hidden h (counts_in x (is_free sort) e)) k

  lending_kept : (a : Access) (y : Bytes) (h : Hold) → Keeps (step_by (does x sort (opening a y) h))
  lending_kept a y h = verdict_kept h
      (unless_hidden h (if bytes_eq y x then opening_counts a else unmentioned))
      (named_kept h (bytes_eq y x) (opening_counts a) (opening_kept a))

  assignment_kept : (y : Bytes) (h : Hold) → Keeps (step_by (does x sort (assignment y) h))
  assignment_kept y h =
      verdict_kept h (unless_hidden h (if bytes_eq y x then one_write_borrow else unmentioned))
      (named_kept h (bytes_eq y x) one_write_borrow refl)

  behind_kept : (y : Bytes) (h : Hold) → Keeps (step_by (does x sort (assignment_behind y) h))
  behind_kept y h = verdict_kept h (unless_hidden h (if bytes_eq y x then one_look else unmentioned))
      (named_kept h (bytes_eq y x) one_look refl)

  abbrev kept : Hold → PlainExpression → Bool
  kept = keeps x (is_free sort)

  mutual
    pub keeps_statement : (s : PlainStatement) (h : Hold) → each_in x kept s h ≡ true →
        Keeps (drive x sort s h)
    keeps_statement (skip at) h k = keeps_going
    keeps_statement (declare at binding name t e) h k = whole_kept e h k
    keeps_statement (destructure at binds e) h k = whole_kept e h k
    keeps_statement (assign at name fields e) h k =
        keeps_onto (step_by (does x sort (whole e) h)) (step_by (does x sort (assignment name.name) h))
        (whole_kept e h k) (assignment_kept name.name h)
        (absorbs_step (does x sort (assignment name.name) h))
    keeps_statement (assign_through at name fields e) h k =
        keeps_onto (step_by (does x sort (whole e) h)) (step_by (does x sort (assignment_behind name.name) h))
        (whole_kept e h k) (behind_kept name.name h)
        (absorbs_step (does x sort (assignment_behind name.name) h))
    keeps_statement (conditional at bs) h k =
        keeps_chosen (count_of_branches bs) (drive_branches x sort bs h (step_by going))
        (keeps_branches bs h (step_by going) k keeps_going (absorbs_step going))
    keeps_statement (conditional_else at bs b) h k =
        let w = and_parts (each_in_branches x kept bs h) (each_in_block x kept b h) k in
        keeps_chosen (count_of_branches bs) (drive_branches x sort bs h (drive_block x sort b h))
        (keeps_branches bs h (drive_block x sort b h) w.0 (keeps_block b h w.1) (absorbs_block b h))
    keeps_statement (case_of at e no_arms) h k =
        let w = and_parts (kept h e) true k in
        keeps_onto (step_by (does x sort (whole e) h)) (chosen 0 (λ n. step_by going)) (whole_kept e h w.0)
        (keeps_chosen 0 (λ n. step_by going) (λ n. keeps_going))
        (absorbs_chosen 0 (λ n. step_by going) (λ n. absorbs_step going))
    keeps_statement (case_of at e (arms when' name binds b more)) h k =
        let inner = held_from x (bound_names binds) h in
        let this = drive_block x sort b inner in
        let w = and_parts (kept h e) (each_in_block x kept b inner && each_in_arms x kept more h) k in
        let u = and_parts (each_in_block x kept b inner) (each_in_arms x kept more h) w.1 in
        keeps_onto (step_by (does x sort (whole e) h))
        (chosen (count_of_arms more) (drive_arms x sort more h this)) (whole_kept e h w.0)
        (keeps_chosen (count_of_arms more) (drive_arms x sort more h this)
        (keeps_arms more h this u.1 (keeps_block b inner u.0) (absorbs_block b inner)))
        (absorbs_chosen (count_of_arms more) (drive_arms x sort more h this)
        (absorbs_arms more h this (absorbs_block b inner)))
    keeps_statement (while_loop at e b) h k =
        let w = and_parts (kept h e) (each_in_block x kept b h) k in
        keeps_looping (does x sort (whole e) h) (drive_block x sort b h) (whole_kept e h w.0)
        (keeps_block b h w.1) (absorbs_block b h)
    keeps_statement (for_loop at name a z b) h k =
        let inner = held_from x (declared name.name ∷ []) h in
        let w = and_parts (kept h a) (kept h z && each_in_block x kept b inner) k in
        let u = and_parts (kept h z) (each_in_block x kept b inner) w.1 in
        keeps_onto (in_turn (step_by (does x sort (whole a) h)) (step_by (does x sort (whole z) h)))
        (looping (step_by going) (drive_block x sort b inner))
        (keeps_onto (step_by (does x sort (whole a) h)) (step_by (does x sort (whole z) h))
        (whole_kept a h w.0) (whole_kept z h u.0) (absorbs_step (does x sort (whole z) h)))
        (keeps_looping going (drive_block x sort b inner) keeps_going (keeps_block b inner u.1)
        (absorbs_block b inner))
        (absorbs_looping going (drive_block x sort b inner) (absorbs_block b inner))
    keeps_statement (borrow_in at access y r region b stop) h k =
        let inner = held_from x (declared r.name ∷ lent access y.name ∷ []) h in
        keeps_onto (step_by (does x sort (opening access y.name) h)) (drive_block x sort b inner)
        (lending_kept access y.name h) (keeps_block b inner k) (absorbs_block b inner)
    keeps_statement (borrow_typed at r t mode y b stop) h k =
        let inner = held_from x (declared r.name ∷ lent (access_of mode) y.name ∷ []) h in
        keeps_onto (step_by (does x sort (opening (access_of mode) y.name) h)) (drive_block x sort b inner)
        (lending_kept (access_of mode) y.name h) (keeps_block b inner k) (absorbs_block b inner)
    keeps_statement (discard at e) h k = whole_kept e h k
    keeps_statement (return_of at e) h k =
        keeps_onto (step_by (does x sort (whole e) h)) (ending (at_end sort)) (whole_kept e h k)
        (end_kept sort) (λ k cs. refl)

    pub keeps_block : (b : PlainStatements) (h : Hold) → each_in_block x kept b h ≡ true →
        Keeps (drive_block x sort b h)
    keeps_block no_statements h k = keeps_going
    keeps_block (statements s more) h k =
        let inner = held_from x (declared_by s) h in
        let w = and_parts (each_in x kept s h) (each_in_block x kept more inner) k in
        keeps_onto (drive x sort s h) (drive_block x sort more inner) (keeps_statement s h w.0)
        (keeps_block more inner w.1) (absorbs_block more inner)

    pub keeps_branches : (bs : PlainBranches) (h : Hold) (other : Machine) → each_in_branches x kept bs h
        ≡ true → Keeps other → Absorbs other → (n : ℕ) → Keeps (drive_branches x sort bs h other n)
    keeps_branches no_branches h other k a c n = a
    keeps_branches (branches e b more) h other k a c n =
        let w = and_parts (kept h e) (each_in_block x kept b h && each_in_branches x kept more h) k in
        let u = and_parts (each_in_block x kept b h) (each_in_branches x kept more h) w.1 in
        keeps_armed (does x sort (whole e) h) (drive_block x sort b h) (drive_branches x sort more h other)
        (whole_kept e h w.0) (keeps_block b h u.0) (absorbs_block b h)
        (keeps_branches more h other u.1 a c) (absorbs_branches more h other c) n

    pub keeps_arms : (rest : PlainArms) (h : Hold) (this : Machine) → each_in_arms x kept rest h ≡ true →
        Keeps this → Absorbs this → (n : ℕ) → Keeps (drive_arms x sort rest h this n)
    keeps_arms no_arms h this k a c n = a
    keeps_arms (arms when' name binds b more) h this k a c n =
        let inner = held_from x (bound_names binds) h in
        let w = and_parts (each_in_block x kept b inner) (each_in_arms x kept more h) k in
        let next = drive_block x sort b inner in
        keeps_armed going this (drive_arms x sort more h next) keeps_going a c
        (keeps_arms more h next w.1 (keeps_block b inner w.0) (absorbs_block b inner))
        (absorbs_arms more h next (absorbs_block b inner)) n

-- What holds of each expression holds of those in loops.
module _ (x : Bytes) (test : Hold → PlainExpression → Bool) where
  mutual
    pub loops_of : (s : PlainStatement) (h : Hold) → each_in x test s h ≡ true → each_loop x test s h ≡ true
    loops_of (skip at) h k = refl
    loops_of (declare at binding name t e) h k = refl
    loops_of (destructure at binds e) h k = refl
    loops_of (assign at name fields e) h k = refl
    loops_of (assign_through at name fields e) h k = refl
    loops_of (conditional at bs) h k = loops_of_branches bs h k
    loops_of (conditional_else at bs b) h k =
        let w = and_parts (each_in_branches x test bs h) (each_in_block x test b h) k in
        and_from (each_loop_of_branches x test bs h) (each_loop_of_block x test b h)
        (loops_of_branches bs h w.0) (loops_of_block b h w.1)
    loops_of (case_of at e rest) h k =
        loops_of_arms rest h (and_parts (test h e) (each_in_arms x test rest h) k).1
    loops_of (while_loop at e b) h k = k
    loops_of (for_loop at name a z b) h k =
        let inner = held_from x (declared name.name ∷ []) h in
        let w = and_parts (test h a) (test h z && each_in_block x test b inner) k in
        (and_parts (test h z) (each_in_block x test b inner) w.1).1
    loops_of (borrow_in at access y r region b stop) h k =
        loops_of_block b (held_from x (declared r.name ∷ lent access y.name ∷ []) h) k
    loops_of (borrow_typed at r t mode y b stop) h k =
        loops_of_block b (held_from x (declared r.name ∷ lent (access_of mode) y.name ∷ []) h) k
    loops_of (discard at e) h k = refl
    loops_of (return_of at e) h k = refl

    pub loops_of_block : (b : PlainStatements) (h : Hold) → each_in_block x test b h ≡ true →
        each_loop_of_block x test b h ≡ true
    loops_of_block no_statements h k = refl
    loops_of_block (statements s more) h k =
        let inner = held_from x (declared_by s) h in
        let w = and_parts (each_in x test s h) (each_in_block x test more inner) k in
        and_from (each_loop x test s h) (each_loop_of_block x test more inner) (loops_of s h w.0)
        (loops_of_block more inner w.1)

    loops_of_branches : (bs : PlainBranches) (h : Hold) → each_in_branches x test bs h ≡ true →
        each_loop_of_branches x test bs h ≡ true
    loops_of_branches no_branches h k = refl
    loops_of_branches (branches e b more) h k =
        let w = and_parts (test h e) (each_in_block x test b h && each_in_branches x test more h) k in
        let u = and_parts (each_in_block x test b h) (each_in_branches x test more h) w.1 in
        and_from (each_loop_of_block x test b h) (each_loop_of_branches x test more h)
        (loops_of_block b h u.0) (loops_of_branches more h u.1)

    loops_of_arms : (rest : PlainArms) (h : Hold) → each_in_arms x test rest h ≡ true →
        each_loop_of_arms x test rest h ≡ true
    loops_of_arms no_arms h k = refl
    loops_of_arms (arms when' name binds b more) h k =
        let inner = held_from x (bound_names binds) h in
        let w = and_parts (each_in_block x test b inner) (each_in_arms x test more h) k in
        and_from (each_loop_of_block x test b inner) (each_loop_of_arms x test more h)
        (loops_of_block b inner w.0) (loops_of_arms more h w.1)
