-- A dealing that isn't broken keeps consumptions out of loops and of parts that may be left out.
use Rattle.std.proofs.Common.{◌≡◌, ℕ, ◌≤◌, Bool, true, ◌&&◌, [], ◌∷◌, refl, arith}
use Rattle.std.specs.Str.{bytes_eq}
use Rattle.std.proofs.lemmas.Bool.{and_from}
use Rattle.au_syntax.specs.Statements.{skip, declare, destructure, assign, assign_through, conditional}
use Rattle.au_syntax.specs.Statements.{conditional_else, case_of, while_loop, for_loop, borrow_in}
use Rattle.au_syntax.specs.Statements.{borrow_typed, discard, return_of, no_statements, statements}
use Rattle.au_syntax.specs.Statements.{no_branches, branches, no_arms, arms}
use Rattle.au_syntax.specs.Plain.{Bytes, PlainExpression, PlainStatement, PlainStatements, PlainBranches, PlainArms}
use Rattle.au_lives.specs.Paths.{lent, declared, declared_by, bound_names, access_of}
use Rattle.au_lives.specs.Lives.{Hold, held_from, keeps, each_in, each_in_block, each_in_branches}
use Rattle.au_lives.specs.Lives.{each_in_arms, each_loop, each_loop_of_block, each_loop_of_branches}
use Rattle.au_lives.specs.Lives.{each_loop_of_arms}
use Rattle.au_clearing.specs.Touches.{Written, Quiet, kept, touched_at}
use Rattle.au_clearing.specs.Dealings.{Dealing, nothing, never, once, chain, fork, turns, sum, mention, cased}
use Rattle.au_clearing.specs.Dealings.{deal, deal_block, deal_branches, deal_arms, returns_in_block}
use Rattle.au_clearing.specs.Dealings.{returns_in_branches, returns_in_arms}
use Rattle.au_clearing.proofs.TouchLemmas.{rank, kept_above, kept_rank, step_kept}
use Rattle.au_clearing.proofs.DealingLemmas.{chain_ranks, chain_second, fork_ranks, turns_rank, lend_rank}

module _ (x : Bytes) (free : Bool) where
  abbrev on : Hold → PlainExpression → Dealing
  on h e = once (touched_at x free h e)

  abbrev branch : PlainStatements → PlainBranches → Dealing → ℕ → Hold → Dealing
  branch b more other n h = fork (deal_block x free b h) (deal_branches x free more other n h)

  abbrev many : PlainStatements → PlainBranches → ℕ → ℕ
  many b more n = sum (returns_in_block b) (returns_in_branches more n)

  -- what is done where no test holds
  other_rank : (bs : PlainBranches) (other : Dealing) (n : ℕ) (h : Hold) (r : ℕ) →
      rank (deal_branches x free bs other n h).touch ≤ r → rank other.touch ≤ r
  other_rank no_branches other n h r le = le
  other_rank (branches e b more) other n h r le =
      other_rank more other n h r
      (fork_ranks (deal_block x free b h) (deal_branches x free more other n h) r
      (chain_second (many b more n) (on h e) (branch b more other n h) r le)).1

  arms_rank : (rest : PlainArms) (h : Hold) (r : ℕ) →
      rank (cased x free rest (deal_arms x free rest h)).touch ≤ r → rank (deal_arms x free rest h).touch ≤ r
  arms_rank no_arms h r le = omega arith
  arms_rank (arms when' name binds b more) h r le = le

  module _ (test : Hold → PlainExpression → Bool) (r : ℕ)
      (law : (h : Hold) (e : PlainExpression) → rank (touched_at x free h e) ≤ r → test h e ≡ true) where
    mutual
      pub each : (s : PlainStatement) (h : Hold) → rank (deal x free s h).touch ≤ r →
          each_in x test s h ≡ true
      each (skip at) h le = refl
      each (declare at binding name t e) h le = law h e le
      each (destructure at binds e) h le = law h e le
      each (assign at name fields e) h le =
          law h e (chain_ranks 0 (on h e) (mention x free name.name Written h) r le).0
      each (assign_through at name fields e) h le =
          law h e (chain_ranks 0 (on h e) (mention x free name.name Quiet h) r le).0
      each (conditional at bs) h le = each_branches bs nothing 0 h le
      each (conditional_else at bs b) h le =
          and_from (each_in_branches x test bs h) (each_in_block x test b h)
          (each_branches bs (deal_block x free b h) (returns_in_block b) h le)
          (each_block b h (other_rank bs (deal_block x free b h) (returns_in_block b) h r le))
      each (case_of at e rest) h le =
          let d = cased x free rest (deal_arms x free rest h) in
          and_from (test h e) (each_in_arms x test rest h)
          (law h e (chain_ranks (returns_in_arms rest) (on h e) d r le).0)
          (each_arms rest h (arms_rank rest h r (chain_second (returns_in_arms rest) (on h e) d r le)))
      each (while_loop at e b) h le =
          let t = touched_at x free h e in
          let k = kept_above t in
          let d = turns (deal_block x free b h) in
          let c = chain_ranks (returns_in_block b) (once (kept t)) d r le in
          and_from (test h e) (each_in_block x test b h) (law h e (omega (arith, k, c.0)))
          (each_block b h
          (turns_rank (deal_block x free b h) r (chain_second (returns_in_block b) (once (kept t)) d r le)))
      each (for_loop at name a z b) h le =
          let n = returns_in_block b in
          let inner = held_from x (declared name.name ∷ []) h in
          let d = turns (deal_block x free b inner) in
          let second = chain_second n (on h a) (chain n (on h z) d) r le in
          and_from (test h a) (test h z && each_in_block x test b inner)
          (law h a (chain_ranks n (on h a) (chain n (on h z) d) r le).0)
          (and_from (test h z) (each_in_block x test b inner) (law h z (chain_ranks n (on h z) d r second).0)
          (each_block b inner (turns_rank (deal_block x free b inner) r
          (chain_second n (on h z) d r second))))
      each (borrow_in at access y s region b stop) h le =
          let inner = held_from x (declared s.name ∷ lent access y.name ∷ []) h in
          each_block b inner (lend_rank (bytes_eq y.name x) access h (deal_block x free b inner) r le)
      each (borrow_typed at s t mode y b stop) h le =
          let inner = held_from x (declared s.name ∷ lent (access_of mode) y.name ∷ []) h in
          each_block b inner (lend_rank (bytes_eq y.name x) (access_of mode) h
          (deal_block x free b inner) r le)
      each (discard at e) h le = law h e le
      each (return_of at e) h le = law h e (chain_ranks 1 (on h e) never r le).0

      pub each_block : (b : PlainStatements) (h : Hold) → rank (deal_block x free b h).touch ≤ r →
          each_in_block x test b h ≡ true
      each_block no_statements h le = refl
      each_block (statements s more) h le =
          let inner = held_from x (declared_by s) h in
          let n = returns_in_block more in
          let d = deal x free s h in
          let e = deal_block x free more inner in
          and_from (each_in x test s h) (each_in_block x test more inner)
          (each s h (chain_ranks n d e r le).0)
          (each_block more inner (chain_second n d e r le))

      each_branches : (bs : PlainBranches) (other : Dealing) (n : ℕ) (h : Hold) →
          rank (deal_branches x free bs other n h).touch ≤ r → each_in_branches x test bs h ≡ true
      each_branches no_branches other n h le = refl
      each_branches (branches e b more) other n h le =
          let f = branch b more other n h in
          let second = fork_ranks (deal_block x free b h) (deal_branches x free more other n h) r
          (chain_second (many b more n) (on h e) f r le) in
          and_from (test h e) (each_in_block x test b h && each_in_branches x test more h)
          (law h e (chain_ranks (many b more n) (on h e) f r le).0)
          (and_from (each_in_block x test b h) (each_in_branches x test more h) (each_block b h second.0)
          (each_branches more other n h second.1))

      each_arms : (rest : PlainArms) (h : Hold) → rank (deal_arms x free rest h).touch ≤ r →
          each_in_arms x test rest h ≡ true
      each_arms no_arms h le = refl
      each_arms (arms when' name binds b more) h le =
          let inner = held_from x (bound_names binds) h in
          let second = fork_ranks (deal_block x free b inner) (deal_arms x free more h) r le in
          and_from (each_in_block x test b inner) (each_in_arms x test more h) (each_block b inner second.0)
          (each_arms more h second.1)

  mutual
    pub loops : (s : PlainStatement) (h : Hold) → rank (deal x free s h).touch ≤ 3 →
        each_loop x (keeps x free) s h ≡ true
    loops (skip at) h le = refl
    loops (declare at binding name t e) h le = refl
    loops (destructure at binds e) h le = refl
    loops (assign at name fields e) h le = refl
    loops (assign_through at name fields e) h le = refl
    loops (conditional at bs) h le = loops_branches bs nothing 0 h le
    loops (conditional_else at bs b) h le =
        and_from (each_loop_of_branches x (keeps x free) bs h) (each_loop_of_block x (keeps x free) b h)
        (loops_branches bs (deal_block x free b h) (returns_in_block b) h le)
        (loops_block b h (other_rank bs (deal_block x free b h) (returns_in_block b) h 3 le))
    loops (case_of at e rest) h le =
        let d = cased x free rest (deal_arms x free rest h) in
        loops_arms rest h (arms_rank rest h 3 (chain_second (returns_in_arms rest) (on h e) d 3 le))
    loops (while_loop at e b) h le =
        let t = touched_at x free h e in
        let d = turns (deal_block x free b h) in
        and_from (keeps x free h e) (each_in_block x (keeps x free) b h)
        (step_kept x free h e (kept_rank t (chain_ranks (returns_in_block b) (once (kept t)) d 3 le).0))
        (each_block (keeps x free) 2 (step_kept x free) b h
        (kept_rank (deal_block x free b h).touch (chain_second (returns_in_block b) (once (kept t)) d 3 le)))
    loops (for_loop at name a z b) h le =
        let n = returns_in_block b in
        let inner = held_from x (declared name.name ∷ []) h in
        let d = turns (deal_block x free b inner) in
        each_block (keeps x free) 2 (step_kept x free) b inner
        (kept_rank (deal_block x free b inner).touch
        (chain_second n (on h z) d 3 (chain_second n (on h a) (chain n (on h z) d) 3 le)))
    loops (borrow_in at access y s region b stop) h le =
        let inner = held_from x (declared s.name ∷ lent access y.name ∷ []) h in
        loops_block b inner (lend_rank (bytes_eq y.name x) access h (deal_block x free b inner) 3 le)
    loops (borrow_typed at s t mode y b stop) h le =
        let inner = held_from x (declared s.name ∷ lent (access_of mode) y.name ∷ []) h in
        loops_block b inner (lend_rank (bytes_eq y.name x) (access_of mode) h
        (deal_block x free b inner) 3 le)
    loops (discard at e) h le = refl
    loops (return_of at e) h le = refl

    pub loops_block : (b : PlainStatements) (h : Hold) → rank (deal_block x free b h).touch ≤ 3 →
        each_loop_of_block x (keeps x free) b h ≡ true
    loops_block no_statements h le = refl
    loops_block (statements s more) h le =
        let inner = held_from x (declared_by s) h in
        let n = returns_in_block more in
        let d = deal x free s h in
        let e = deal_block x free more inner in
        and_from (each_loop x (keeps x free) s h) (each_loop_of_block x (keeps x free) more inner)
        (loops s h (chain_ranks n d e 3 le).0) (loops_block more inner (chain_second n d e 3 le))

    loops_branches : (bs : PlainBranches) (other : Dealing) (n : ℕ) (h : Hold) →
        rank (deal_branches x free bs other n h).touch ≤ 3 → each_loop_of_branches x
        (keeps x free) bs h ≡ true
    loops_branches no_branches other n h le = refl
    loops_branches (branches e b more) other n h le =
        let f = branch b more other n h in
        let second = fork_ranks (deal_block x free b h) (deal_branches x free more other n h) 3
        (chain_second (many b more n) (on h e) f 3 le) in
        and_from (each_loop_of_block x (keeps x free) b h) (each_loop_of_branches x (keeps x free) more h)
        (loops_block b h second.0) (loops_branches more other n h second.1)

    loops_arms : (rest : PlainArms) (h : Hold) → rank (deal_arms x free rest h).touch ≤ 3 →
        each_loop_of_arms x (keeps x free) rest h ≡ true
    loops_arms no_arms h le = refl
    loops_arms (arms when' name binds b more) h le =
        let inner = held_from x (bound_names binds) h in
        let second = fork_ranks (deal_block x free b inner) (deal_arms x free more h) 3 le in
        and_from (each_loop_of_block x (keeps x free) b inner) (each_loop_of_arms x (keeps x free) more h)
        (loops_block b inner second.0) (loops_arms more h second.1)
