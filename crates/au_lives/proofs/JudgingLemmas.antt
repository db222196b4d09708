-- What drives a fate is what judges the steps of the path that is followed.
use Rattle.std.proofs.Common.{◌≡◌, ℕ, zero, suc, ◌==◌, Bool, true, false, List, [], ◌∷◌, ◌++◌, length, drop}
use Rattle.std.proofs.Common.{min, refl, sym, ap, ◌∙◌, arith, if◌then◌else◌}
use Rattle.std.specs.Str.{bytes_eq}
use Rattle.au_syntax.specs.Statements.{skip, declare, destructure, assign, assign_through, conditional}
use Rattle.au_syntax.specs.Statements.{conditional_else, case_of, while_loop, for_loop, borrow_in}
use Rattle.au_syntax.specs.Statements.{borrow_typed, discard, return_of, no_statements, statements}
use Rattle.au_syntax.specs.Statements.{no_branches, branches, no_arms, arms}
use Rattle.au_syntax.specs.Plain.{Bytes, PlainStatement, PlainStatements, PlainBranches, PlainArms}
use Rattle.au_lives.specs.declared.lives.Sort.{Sort}
use Rattle.au_lives.specs.Paths.{Met, whole, opening, Around, lent, declared, Step, step, says, Run, first}
use Rattle.au_lives.specs.Paths.{met, with_steps, chose, and_then, turns, count_of_branches, count_of_arms}
use Rattle.au_lives.specs.Paths.{declared_by, bound_names, access_of, follow, follow_block, follow_branches}
use Rattle.au_lives.specs.Paths.{follow_arms}
use Rattle.au_lives.specs.Lives.{Hold, unlent, tighter, hidden, held_around, held_from, counts_at, Fate}
use Rattle.au_lives.specs.Lives.{going, broken, verdict, onward, at_end, judge}
use Rattle.au_lives.specs.Walks.{Drive, drives, Machine, taking, picking, onto, step_by, in_turn, leave}
use Rattle.au_lives.specs.Walks.{turning, turns_by, looping, chosen, does, drive, drive_block, drive_branches}
use Rattle.au_lives.specs.Walks.{drive_arms}

least_none : (n : ℕ) → min n 0 ≡ 0
least_none n = omega arith

module _ (x : Bytes) (sort : Sort) where
  pub judge_append : (v : Fate) (a b : List Step) → judge x sort v (a ++ b)
      ≡ judge x sort (judge x sort v a) b
  judge_append v [] b = refl
  judge_append v (s ∷ a) b = judge_append (onward (verdict (held_around x s.around) (counts_at x sort s)) v) a b

  abbrev pub closing : Bool → Fate → Fate
  closing true v = onward (at_end sort) v
  closing false v = v

  -- what a run does to a fate
  abbrev pub seen : Fate → Run → Drive
  seen v r = drives (closing r.returned (judge x sort v r.steps)) r.taken r.rest r.returned

  abbrev pub Shows : Machine → (List ℕ → Run) → Type 0
  Shows m k = (v : Fate) (cs : List ℕ) → m v cs ≡ seen v (k cs)

  going_on : (v : Fate) → onward going v ≡ v
  going_on (going s) = refl
  going_on (broken k) = refl

  shows_nothing : Shows (step_by going) (met [])
  shows_nothing v cs = ap (λ w. drives w [] cs false) (going_on v)

  shows_after : (m' : Met) (os : List Around) (m : Machine) (k : List ℕ → Run) → Shows m k →
      Shows (in_turn (step_by (does x sort m' (held_around x os))) m) (λ cs. with_steps (step m' os ∷ []) (k cs))
  shows_after m' os m k h v cs = h (onward (does x sort m' (held_around x os)) v) cs

  seen_on : (v : Fate) (ss : List Step) (t cs : List ℕ) (b : Bool) (m : Machine) (k : List ℕ → Run) →
      Shows m k →
      onto (seen v (record { steps = ss; taken = t; rest = cs; returned = b })) m
      ≡ seen v (and_then (record { steps = ss; taken = t; rest = cs; returned = b }) k)
  seen_on v ss t cs true m k h = refl
  seen_on v ss t cs false m k h =
      ap (taking t) (h (judge x sort v ss) cs)
      ∙ ap (λ w. drives (closing (k cs).returned w) (t ++ (k cs).taken) (k cs).rest (k cs).returned)
      (sym (judge_append v ss (k cs).steps))

  seen_onto : (v : Fate) (r : Run) (m : Machine) (k : List ℕ → Run) → Shows m k → onto (seen v r) m
      ≡ seen v (and_then r k)
  seen_onto v r m k h = seen_on v r.steps r.taken r.rest r.returned m k h

  shows_chosen : (last : ℕ) (ms : ℕ → Machine) (ks : ℕ → List ℕ → Run) → ((n : ℕ) → Shows (ms n) (ks n)) →
      Shows (chosen last ms) (λ cs. chose (min (first cs) last) (ks (first cs) (drop 1 cs)))
  shows_chosen last ms ks h v cs = ap (picking (min (first cs) last)) (h (first cs) v (drop 1 cs))

  seen_after : (v : Fate) (tests : List Step) (w : Fate) (r : Run) → w ≡ judge x sort v tests → seen w r
      ≡ seen v (with_steps tests r)
  seen_after v tests w r h =
      ap (λ u. drives (closing r.returned u) r.taken r.rest r.returned) (ap (λ u. judge x sort u r.steps) h
      ∙ sym (judge_append v tests r.steps))

  either_seen : (b : Bool) (w : Fate) (d e : Drive) (r s : Run) → d ≡ seen w r → e ≡ seen w s →
      (if b then d else e) ≡ seen w (if b then r else s)
  either_seen true w d e r s g h = g
  either_seen false w d e r s g h = h

  turns_seen : (f : Bool → Fate) (tests : List Step) (m : Machine) (k : List ℕ → Run) →
      ((v : Fate) → onward f v ≡ judge x sort v tests) → Shows m k →
      (n : ℕ) (v : Fate) (cs : List ℕ) → turns_by (step_by f) m n v cs ≡ seen v (turns tests k n cs)
  turns_seen f tests m k g h zero v cs = seen_after v tests (onward f v) (chose 0 (met [] (drop 1 cs))) (g v)
  turns_seen f tests m k g h (suc n) v cs =
      let w = onward f v in
      let rest = turns_by (step_by f) m n in
      let out = chose 0 (met [] (drop 1 cs)) in
      let on = and_then (chose 1 (k (drop 1 cs))) (turns tests k n) in
      let more : onto (turning m w cs) rest ≡ seen w on =
      ap (λ d. onto (picking 1 d) rest) (h w (drop 1 cs))
      ∙ seen_onto w (chose 1 (k (drop 1 cs))) rest (turns tests k n) (turns_seen f tests m k g h n) in
      either_seen (first cs == 0) w (leave w cs) (onto (turning m w cs) rest) out on refl more
      ∙ seen_after v tests w (if first cs == 0 then out else on) (g v)

  shows_turns : (f : Bool → Fate) (tests : List Step) (m : Machine) (k : List ℕ → Run) →
      ((v : Fate) → onward f v ≡ judge x sort v tests) → Shows m k →
      Shows (looping (step_by f) m) (λ cs. turns tests k (length cs) cs)
  shows_turns f tests m k g h v cs = turns_seen f tests m k g h (length cs) v cs

  -- what holds x inside
  held_more : (as' os : List Around) (h : Hold) → held_from x (as' ++ os) h
      ≡ held_from x as' (held_from x os h)
  held_more [] os h = refl
  held_more (lent a y ∷ more) os h = ap (λ k. if bytes_eq y x then tighter a k else k) (held_more more os h)
  held_more (declared y ∷ more) os h = ap (λ k. if bytes_eq y x then hidden else k) (held_more more os h)

  -- with more that stands round
  shows_inside : (b : PlainStatements) (as' os : List Around) →
      Shows (drive_block x sort b (held_around x (as' ++ os))) (follow_block b (as' ++ os)) →
      Shows (drive_block x sort b (held_from x as' (held_around x os))) (follow_block b (as' ++ os))
  shows_inside b as' os h v cs = ap (λ k. drive_block x sort b k v cs) (sym (held_more as' os unlent))
      ∙ h v cs

  mutual
    pub driven : (s : PlainStatement) (os : List Around) → Shows (drive x sort s (held_around x os)) (follow s os)
    driven (skip at) os v cs = shows_nothing v cs
    driven (declare at binding name t e) os v cs = refl
    driven (destructure at binds e) os v cs = refl
    driven (assign at name fields e) os v cs = refl
    driven (assign_through at name fields e) os v cs = refl
    driven (conditional at bs) os v cs =
        shows_chosen (count_of_branches bs) (drive_branches x sort bs (held_around x os) (step_by going))
        (follow_branches bs os (met [])) (driven_branches bs os (step_by going) (met []) shows_nothing) v
        cs
    driven (conditional_else at bs b) os v cs =
        shows_chosen (count_of_branches bs)
        (drive_branches x sort bs (held_around x os) (drive_block x sort b (held_around x os)))
        (follow_branches bs os (follow_block b os))
        (driven_branches bs os (drive_block x sort b (held_around x os)) (follow_block b os) (driven_block b os)) v
        cs
    driven (case_of at e no_arms) os v cs =
        shows_after (whole e) os (chosen 0 (λ n. step_by going)) (λ ds. chose 0 (met [] (drop 1 ds)))
        (λ w ds. ap (λ n. picking n (step_by going w (drop 1 ds))) (least_none (first ds))
        ∙ ap (picking 0) (shows_nothing w (drop 1 ds))) v cs
    driven (case_of at e (arms when' name binds b more)) os v cs =
        let inner = bound_names binds ++ os in
        let this = drive_block x sort b (held_from x (bound_names binds) (held_around x os)) in
        shows_after (whole e) os (chosen (count_of_arms more) (drive_arms x sort more (held_around x os) this))
        (λ ds. chose (min (first ds) (count_of_arms more))
        (follow_arms more os (follow_block b inner) (first ds) (drop 1 ds)))
        (shows_chosen (count_of_arms more) (drive_arms x sort more (held_around x os) this)
        (follow_arms more os (follow_block b inner))
        (driven_arms more os this (follow_block b inner)
        (shows_inside b (bound_names binds) os (driven_block b (bound_names binds ++ os))))) v cs
    driven (while_loop at e b) os v cs =
        shows_turns (does x sort (whole e) (held_around x os)) (says e os ∷ [])
        (drive_block x sort b (held_around x os))
        (follow_block b os) (λ w. refl) (driven_block b os) v cs
    driven (for_loop at name a z b) os v cs =
        let inner = declared name.name ∷ os in
        shows_turns going [] (drive_block x sort b (held_around x inner)) (follow_block b inner) going_on
        (driven_block b inner)
        (onward (does x sort (whole z) (held_around x os)) (onward (does x sort (whole a) (held_around x os)) v)) cs
    driven (borrow_in at access y r region b stop) os v cs =
        let inner = declared r.name ∷ lent access y.name ∷ os in
        shows_after (opening access y.name) os (drive_block x sort b (held_around x inner)) (follow_block b inner)
        (driven_block b inner) v cs
    driven (borrow_typed at r t mode y b stop) os v cs =
        let inner = declared r.name ∷ lent (access_of mode) y.name ∷ os in
        shows_after (opening (access_of mode) y.name) os (drive_block x sort b (held_around x inner))
        (follow_block b inner) (driven_block b inner) v cs
    driven (discard at e) os v cs = refl
    driven (return_of at e) os v cs = refl

    pub driven_block : (b : PlainStatements) (os : List Around) →
        Shows (drive_block x sort b (held_around x os)) (follow_block b os)
    driven_block no_statements os v cs = shows_nothing v cs
    driven_block (statements s more) os v cs =
        ap (λ d. onto d (drive_block x sort more (held_from x (declared_by s) (held_around x os))))
        (driven s os v cs)
        ∙ seen_onto v (follow s os cs) (drive_block x sort more (held_from x (declared_by s) (held_around x os)))
        (follow_block more (declared_by s ++ os))
        (shows_inside more (declared_by s) os (driven_block more (declared_by s ++ os)))

    pub driven_branches : (bs : PlainBranches) (os : List Around) (other : Machine) (k : List ℕ → Run) →
        Shows other k → (n : ℕ) →
        Shows (drive_branches x sort bs (held_around x os) other n) (follow_branches bs os k n)
    driven_branches no_branches os other k h n = h
    driven_branches (branches e b more) os other k h zero =
        shows_after (whole e) os (drive_block x sort b (held_around x os)) (follow_block b os) (driven_block b os)
    driven_branches (branches e b more) os other k h (suc n) =
        shows_after (whole e) os (drive_branches x sort more (held_around x os) other n)
        (follow_branches more os k n) (driven_branches more os other k h n)

    pub driven_arms : (rest : PlainArms) (os : List Around) (this : Machine) (k : List ℕ → Run) →
        Shows this k → (n : ℕ) → Shows (drive_arms x sort rest (held_around x os) this n) (follow_arms rest os k n)
    driven_arms no_arms os this k h n = h
    driven_arms (arms when' name binds b more) os this k h zero = λ v cs. ap (λ w. this w cs) (going_on v)
        ∙ h v cs
    driven_arms (arms when' name binds b more) os this k h (suc n) = λ v cs.
        let next = drive_block x sort b (held_from x (bound_names binds) (held_around x os)) in
        ap (λ w. drive_arms x sort more (held_around x os) next n w cs) (going_on v)
        ∙ driven_arms more os next (follow_block b (bound_names binds ++ os))
        (shows_inside b (bound_names binds) os (driven_block b (bound_names binds ++ os))) n v cs
