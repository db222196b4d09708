-- The walk over a part goes on as its dealing says.
use Rattle.std.proofs.Common.{◌≡◌, ℕ, ◌+◌, ◌≤◌, Bool, true, false, List, [], ◌∷◌, Ok, Err, refl, arith, if◌then◌else◌}
use Rattle.std.specs.Str.{bytes_eq}
use Rattle.au_syntax.specs.Types.{Bound}
use Rattle.au_syntax.specs.Statements.{skip, declare, destructure, assign, assign_through, conditional}
use Rattle.au_syntax.specs.Statements.{conditional_else, case_of, while_loop, for_loop, borrow_in}
use Rattle.au_syntax.specs.Statements.{borrow_typed, discard, return_of, no_statements, statements}
use Rattle.au_syntax.specs.Statements.{no_branches, branches, no_arms, arms}
use Rattle.au_syntax.specs.Plain.{Bytes, PlainExpression, PlainStatement, PlainStatements, PlainBranches, PlainArms}
use Rattle.au_lives.specs.declared.lives.Sort.{Sort}
use Rattle.au_lives.specs.Mentions.{counts_in, one_write_borrow, one_look}
use Rattle.au_lives.specs.Paths.{whole, assignment, assignment_behind, lent, declared, declared_by}
use Rattle.au_lives.specs.Paths.{bound_names, bound_name, access_of}
use Rattle.au_lives.specs.Lives.{Hold, hidden, held_from, is_free, Fate}
use Rattle.au_lives.specs.Walks.{Reach, Walk, ◌>>=◌, nowhere, merge, choose, walk_step, joined, returned}
use Rattle.au_lives.specs.Walks.{turned, does, walk, walk_block, walk_branches, walk_arms}
use Rattle.au_clearing.specs.Touches.{Untouched, Quiet, Written, kept, touched, touched_at}
use Rattle.au_clearing.specs.Dealings.{Dealing, nothing, never, once, chain, fork, turns, sum, mention, deal}
use Rattle.au_clearing.specs.Dealings.{deal_block, deal_branches, deal_arms, returns_in, returns_in_block}
use Rattle.au_clearing.specs.Dealings.{returns_in_branches, returns_in_arms}
use Rattle.au_clearing.proofs.TouchLemmas.{fits_if, touched_fits}
use Rattle.au_clearing.proofs.GoingLemmas.{room, room_few, Fine, Ways, weaken, fine_same, fine_nothing}
use Rattle.au_clearing.proofs.GoingLemmas.{fine_chain, fine_turns, fine_return, fine_met, fine_kept}
use Rattle.au_clearing.proofs.GoingLemmas.{ways_last, ways_fork, ways_test, fine_ways, ways_never}
use Rattle.au_clearing.proofs.GoingLemmas.{fine_borrow}

bind_assoc : (w : Walk) (f g : Reach → Walk) → (w >>= f >>= g) ≡ (w >>= (λ q. f q >>= g))
bind_assoc (Ok r) f g = refl
bind_assoc (Err e) f g = refl

-- a name that is declared leaves at least as much room
hides_room : (b : Bool) (h i : Hold) → room h ≤ room i → room h ≤ room (if b then hidden else i)
hides_room true h i le = let few = room_few h in omega (arith, few)
hides_room false h i le = le

bound_room : (x : Bytes) (binds : List (Bound Bytes)) (h : Hold) →
    room h ≤ room (held_from x (bound_names binds) h)
bound_room x [] h = omega arith
bound_room x (b ∷ binds) h =
    hides_room (bytes_eq (bound_name b).name x) h (held_from x (bound_names binds) h) (bound_room x binds h)

declared_room : (x : Bytes) (s : PlainStatement) (h : Hold) → room h ≤ room (held_from x (declared_by s) h)
declared_room x (skip at) h = omega arith
declared_room x (declare at binding name t e) h =
    hides_room (bytes_eq name.name x) h h (omega arith)
declared_room x (destructure at binds e) h = bound_room x binds h
declared_room x (assign at name fields e) h = omega arith
declared_room x (assign_through at name fields e) h = omega arith
declared_room x (conditional at bs) h = omega arith
declared_room x (conditional_else at bs b) h = omega arith
declared_room x (case_of at e rest) h = omega arith
declared_room x (while_loop at e b) h = omega arith
declared_room x (for_loop at name a z b) h = omega arith
declared_room x (borrow_in at access y r region b stop) h = omega arith
declared_room x (borrow_typed at r t mode y b stop) h = omega arith
declared_room x (discard at e) h = omega arith
declared_room x (return_of at e) h = omega arith

module _ (x : Bytes) (sort : Sort) where
  abbrev free : Bool
  free = is_free sort

  abbrev on : PlainExpression → Hold → Bool → Fate
  on e h = does x sort (whole e) h

  abbrev once_on : PlainExpression → Hold → Dealing
  once_on e h = once (touched_at x free h e)

  step : (e : PlainExpression) (h : Hold) → Fine sort (walk_step (on e h)) (once_on e h) 0 (room h)
  step e h = fine_met sort h (touched x free false e) (counts_in x free e) (touched_fits x free false e)

  -- a step and then a part where the variable is held so
  then_part : (e : PlainExpression) (h : Hold) (v : Reach → Walk) (d : Dealing) (n : ℕ) →
      Fine sort v d n (room h) → Fine sort (λ r. walk_step (on e h) r >>= v) (chain n (once_on e h) d) n
      (room h)
  then_part e h v d n f =
      fine_chain sort (walk_step (on e h)) v (once_on e h) d 0 n (room h) (room h) (step e h) f (room_few h)
      (omega arith)

  write : (name : Bytes) (h : Hold) →
      Fine sort (walk_step (does x sort (assignment name) h)) (mention x free name Written h) 0 (room h)
  write name h =
      fine_met sort h (if bytes_eq name x then Written else Untouched) _
      (fits_if (bytes_eq name x) Written one_write_borrow refl)

  look : (name : Bytes) (h : Hold) →
      Fine sort (walk_step (does x sort (assignment_behind name) h)) (mention x free name Quiet h) 0 (room h)
  look name h =
      fine_met sort h (if bytes_eq name x then Quiet else Untouched) _
      (fits_if (bytes_eq name x) Quiet one_look (refl, refl))

  abbrev block : PlainStatements → Hold → Reach → Walk
  block b h = walk_block x sort b h

  mutual
    pub going : (s : PlainStatement) (h : Hold) →
        Fine sort (walk x sort s h) (deal x free s h) (returns_in s) (room h)
    going (skip at) h = fine_nothing sort (room h)
    going (declare at binding name t e) h = step e h
    going (destructure at binds e) h = step e h
    going (assign at name fields e) h =
        then_part e h (walk_step (does x sort (assignment name.name) h))
        (mention x free name.name Written h) 0
        (write name.name h)
    going (assign_through at name fields e) h =
        then_part e h (walk_step (does x sort (assignment_behind name.name) h))
        (mention x free name.name Quiet h) 0 (look name.name h)
    going (conditional at bs) h =
        fine_ways sort (walk_branches x sort bs h Ok) (deal_branches x free bs nothing 0 h)
        (returns_in_branches bs 0) (room h)
        (going_branches bs h Ok nothing 0 (fine_nothing sort (room h)))
    going (conditional_else at bs b) h =
        fine_ways sort (walk_branches x sort bs h (block b h))
        (deal_branches x free bs (deal_block x free b h) (returns_in_block b) h)
        (returns_in_branches bs (returns_in_block b)) (room h)
        (going_branches bs h (block b h) (deal_block x free b h) (returns_in_block b) (going_block b h))
    going (case_of at e no_arms) h =
        then_part e h (λ q. Ok (choose 0 q) >>= joined nowhere) nothing 0
        (fine_ways sort (λ i r out. Ok (choose i r) >>= joined out) nothing 0 (room h)
        (ways_last sort Ok nothing 0 (room h) (fine_nothing sort (room h))))
    going (case_of at e (arms when' name binds b more)) h =
        let inner = held_from x (bound_names binds) h in
        let d = deal_block x free b inner in
        let n = sum (returns_in_block b) (returns_in_arms more) in
        then_part e h (λ q. walk_arms x sort more h (block b inner) 0 q nowhere)
        (fork d (deal_arms x free more h)) n
        (fine_ways sort (walk_arms x sort more h (block b inner)) (fork d (deal_arms x free more h)) n
        (room h)
        (going_arms more h (block b inner) d (returns_in_block b)
        (weaken sort (block b inner) d (returns_in_block b) (room h) (room inner) (going_block b inner)
        (bound_room x binds h))))
    going (while_loop at e b) h =
        let n = returns_in_block b in
        fine_chain sort (walk_step (on e h)) (turned (block b h)) (once (kept (touched_at x free h e)))
        (turns (deal_block x free b h)) 0 n (room h) (room h)
        (fine_kept sort h (touched x free false e) (counts_in x free e) (touched_fits x free false e))
        (fine_turns sort (block b h) (deal_block x free b h) n (room h) (going_block b h)) (room_few h)
        (omega arith)
    going (for_loop at name a z b) h =
        let n = returns_in_block b in
        let inner = held_from x (declared name.name ∷ []) h in
        let d = turns (deal_block x free b inner) in
        let loop = fine_turns sort (block b inner) (deal_block x free b inner) n (room h)
        (weaken sort (block b inner) (deal_block x free b inner) n (room h) (room inner) (going_block b inner)
        (hides_room (bytes_eq name.name x) h h (omega arith))) in
        fine_same sort (λ r. walk_step (on a h) r >>= walk_step (on z h) >>= turned (block b inner))
        (λ r. walk_step (on a h) r >>= (λ q. walk_step (on z h) q >>= turned (block b inner)))
        (chain n (once_on a h) (chain n (once_on z h) d)) n (room h)
        (then_part a h (λ q. walk_step (on z h) q >>= turned (block b inner)) (chain n (once_on z h) d) n
        (then_part z h (turned (block b inner)) d n loop))
        (λ r. bind_assoc (walk_step (on a h) r) (walk_step (on z h)) (turned (block b inner)))
    going (borrow_in at access y r region b stop) h =
        let inner = held_from x (declared r.name ∷ lent access y.name ∷ []) h in
        fine_borrow sort (bytes_eq y.name x) (bytes_eq r.name x) access h (block b inner)
        (deal_block x free b inner) (returns_in_block b) (going_block b inner)
    going (borrow_typed at r t mode y b stop) h =
        let inner = held_from x (declared r.name ∷ lent (access_of mode) y.name ∷ []) h in
        fine_borrow sort (bytes_eq y.name x) (bytes_eq r.name x) (access_of mode) h (block b inner)
        (deal_block x free b inner) (returns_in_block b) (going_block b inner)
    going (discard at e) h = step e h
    going (return_of at e) h = then_part e h (returned sort) never 1 (fine_return sort (room h))

    pub going_block : (b : PlainStatements) (h : Hold) →
        Fine sort (walk_block x sort b h) (deal_block x free b h) (returns_in_block b) (room h)
    going_block no_statements h = fine_nothing sort (room h)
    going_block (statements s more) h =
        let inner = held_from x (declared_by s) h in
        fine_chain sort (walk x sort s h) (block more inner) (deal x free s h) (deal_block x free more inner)
        (returns_in s) (returns_in_block more) (room h) (room inner) (going s h) (going_block more inner)
        (room_few h) (declared_room x s h)

    going_branches : (bs : PlainBranches) (h : Hold) (other : Reach → Walk) (d : Dealing) (n : ℕ) →
        Fine sort other d n (room h) →
        Ways sort (walk_branches x sort bs h other) (deal_branches x free bs d n h) (returns_in_branches bs n)
        (room h)
    going_branches no_branches h other d n f = ways_last sort other d n (room h) f
    going_branches (branches e b more) h other d n f =
        let m = sum (returns_in_block b) (returns_in_branches more n) in
        let rest = deal_branches x free more d n h in
        ways_test sort (walk_step (on e h))
        (λ i q out. block b h (choose i q) >>=
        (λ o. walk_branches x sort more h other (i + 1) q (merge out o)))
        (once_on e h) (fork (deal_block x free b h) rest) m (room h) (step e h)
        (ways_fork sort (block b h) (walk_branches x sort more h other) (deal_block x free b h) rest
        (returns_in_block b) (returns_in_branches more n) (room h) (going_block b h)
        (going_branches more h other d n f)) (room_few h)

    going_arms : (rest : PlainArms) (h : Hold) (this : Reach → Walk) (d : Dealing) (n : ℕ) →
        Fine sort this d n (room h) →
        Ways sort (walk_arms x sort rest h this) (fork d (deal_arms x free rest h))
        (sum n (returns_in_arms rest))
        (room h)
    going_arms no_arms h this d n f =
        ways_never sort (λ i r out. this (choose i r) >>= joined out) d n (room h)
        (ways_last sort this d n (room h) f)
    going_arms (arms when' name binds b more) h this d n f =
        let inner = held_from x (bound_names binds) h in
        let e = deal_block x free b inner in
        ways_fork sort this (walk_arms x sort more h (block b inner)) d (fork e (deal_arms x free more h)) n
        (sum (returns_in_block b) (returns_in_arms more)) (room h) f
        (going_arms more h (block b inner) e (returns_in_block b)
        (weaken sort (block b inner) e (returns_in_block b) (room h) (room inner) (going_block b inner)
        (bound_room x binds h)))
