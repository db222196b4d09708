-- Zeros at the end of the choices change nothing.
use Rattle.std.proofs.Common.{◌≡◌, ℕ, zero, suc, ◌≤◌, ◌==◌, Bool, true, false, List, [], ◌∷◌, ◌++◌, length}
use Rattle.std.proofs.Common.{drop, min, get_or, refl, sym, ap, subst, ◌∙◌, arith, if◌then◌else◌}
use Rattle.au_base.proofs.ListLemmas.{both_appended}
use Rattle.au_syntax.specs.Statements.{skip, declare, destructure, assign, assign_through, conditional}
use Rattle.au_syntax.specs.Statements.{conditional_else, case_of, while_loop, for_loop, borrow_in}
use Rattle.au_syntax.specs.Statements.{borrow_typed, discard, return_of, no_statements, statements}
use Rattle.au_syntax.specs.Statements.{no_branches, branches, no_arms, arms}
use Rattle.au_syntax.specs.Plain.{PlainStatement, PlainStatements, PlainBranches, PlainArms}
use Rattle.au_lives.specs.Paths.{opening, Around, lent, declared, Step, step, says, Run, first, met}
use Rattle.au_lives.specs.Paths.{with_steps, chose, and_then, turns, count_of_branches, count_of_arms}
use Rattle.au_lives.specs.Paths.{declared_by, bound_names, access_of, follow, follow_block, follow_branches}
use Rattle.au_lives.specs.Paths.{follow_arms}
use Rattle.au_lives.specs.Lives.{EndsWell}
use Rattle.au_lives.specs.Trimming.{before, without_zeros}

-- the same numbers are read
abbrev pub Alike : List ℕ → List ℕ → Type 0
Alike cs ds = (i : ℕ) → get_or cs i 0 ≡ get_or ds i 0

pub record Same (r s : Run) : Type 0 where
  pub steps : r.steps ≡ s.steps
  pub taken : r.taken ≡ s.taken
  pub returned : r.returned ≡ s.returned
  pub rest : Alike r.rest s.rest

first_is : (cs : List ℕ) → first cs ≡ get_or cs 0 0
first_is [] = refl
first_is (c ∷ cs) = refl

alike_first : (cs ds : List ℕ) → Alike cs ds → first cs ≡ first ds
alike_first cs ds al = first_is cs ∙ al 0 ∙ sym (first_is ds)

after_is : (cs : List ℕ) (i : ℕ) → get_or (drop 1 cs) i 0 ≡ get_or cs (suc i) 0
after_is [] i = refl
after_is (c ∷ cs) i = refl

alike_after : (cs ds : List ℕ) → Alike cs ds → Alike (drop 1 cs) (drop 1 ds)
alike_after cs ds al i = after_is cs i ∙ al (suc i) ∙ sym (after_is ds i)

shorter_drop : (cs : List ℕ) → length (drop 1 cs) ≤ length cs
shorter_drop [] = omega arith
shorter_drop (c ∷ cs) = omega arith

shorter_by : (cs : List ℕ) (n : ℕ) → length cs ≤ suc n → length (drop 1 cs) ≤ n
shorter_by [] n h = omega arith
shorter_by (c ∷ cs) n h = omega (arith, h)

empty_first : (cs : List ℕ) → length cs ≤ 0 → first cs ≡ 0
empty_first [] h = refl
empty_first (c ∷ cs) h = absurd (omega (arith, h))

-- what is left isn't longer
abbrev Shortens : (List ℕ → Run) → Type 0
Shortens k = (cs : List ℕ) → length (k cs).rest ≤ length cs

short_on : (ss : List Step) (t rest : List ℕ) (b : Bool) (k : List ℕ → Run) (n : ℕ) → length rest ≤ n →
    Shortens k →
    length (and_then (record { steps = ss; taken = t; rest = rest; returned = b }) k).rest ≤ n
short_on ss t rest true k n h g = h
short_on ss t rest false k n h g = omega (arith, h, g rest)

short_then : (r : Run) (k : List ℕ → Run) (n : ℕ) → length r.rest ≤ n → Shortens k →
    length (and_then r k).rest ≤ n
short_then r k n h g = short_on r.steps r.taken r.rest r.returned k n h g

short_either : (b : Bool) (r s : Run) (n : ℕ) → length r.rest ≤ n → length s.rest ≤ n →
    length (if b then r else s).rest ≤ n
short_either true r s n g h = g
short_either false r s n g h = h

short_turns : (tests : List Step) (k : List ℕ → Run) → Shortens k → (n : ℕ) → Shortens (turns tests k n)
short_turns tests k h zero cs = shorter_drop cs
short_turns tests k h (suc n) cs =
    let inner : length (k (drop 1 cs)).rest ≤ length cs = omega (arith, h (drop 1 cs), shorter_drop cs) in
    short_either (first cs == 0) (chose 0 (met [] (drop 1 cs)))
    (and_then (chose 1 (k (drop 1 cs))) (turns tests k n)) (length cs) (shorter_drop cs)
    (short_then (chose 1 (k (drop 1 cs))) (turns tests k n) (length cs) inner (short_turns tests k h n))

mutual
  short : (s : PlainStatement) (os : List Around) → Shortens (follow s os)
  short (skip at) os cs = omega arith
  short (declare at binding name t e) os cs = omega arith
  short (destructure at binds e) os cs = omega arith
  short (assign at name fields e) os cs = omega arith
  short (assign_through at name fields e) os cs = omega arith
  short (conditional at bs) os cs =
      omega (arith, short_branches bs os (met []) (λ ds. omega arith) (first cs) (drop 1 cs), shorter_drop cs)
  short (conditional_else at bs b) os cs =
      omega (
        arith,
        short_branches bs os (follow_block b os) (short_block b os) (first cs) (drop 1 cs),
        shorter_drop cs,
      )
  short (case_of at e no_arms) os cs = shorter_drop cs
  short (case_of at e (arms when' name binds b more)) os cs =
      omega (
        arith,
        short_arms more os (follow_block b (bound_names binds ++ os))
            (short_block b (bound_names binds ++ os)) (first cs) (drop 1 cs),
        shorter_drop cs,
      )
  short (while_loop at e b) os cs =
      short_turns (says e os ∷ []) (follow_block b os) (short_block b os) (length cs) cs
  short (for_loop at name a z b) os cs =
      short_turns [] (follow_block b (declared name.name ∷ os)) (short_block b (declared name.name ∷ os))
      (length cs) cs
  short (borrow_in at access x r region b stop) os cs =
      short_block b (declared r.name ∷ lent access x.name ∷ os) cs
  short (borrow_typed at r t mode x b stop) os cs =
      short_block b (declared r.name ∷ lent (access_of mode) x.name ∷ os) cs
  short (discard at e) os cs = omega arith
  short (return_of at e) os cs = omega arith

  short_block : (b : PlainStatements) (os : List Around) → Shortens (follow_block b os)
  short_block no_statements os cs = omega arith
  short_block (statements s more) os cs =
      short_then (follow s os cs) (follow_block more (declared_by s ++ os)) (length cs) (short s os cs)
      (short_block more (declared_by s ++ os))

  short_branches : (bs : PlainBranches) (os : List Around) (k : List ℕ → Run) → Shortens k → (n : ℕ) →
      Shortens (follow_branches bs os k n)
  short_branches no_branches os k h n = h
  short_branches (branches e b more) os k h zero = short_block b os
  short_branches (branches e b more) os k h (suc n) = short_branches more os k h n

  short_arms : (rest : PlainArms) (os : List Around) (k : List ℕ → Run) → Shortens k → (n : ℕ) →
      Shortens (follow_arms rest os k n)
  short_arms no_arms os k h n = h
  short_arms (arms when' name binds b more) os k h zero = h
  short_arms (arms when' name binds b more) os k h (suc n) =
      short_arms more os (follow_block b (bound_names binds ++ os)) (short_block b (bound_names binds ++ os))
      n

-- the same ways
abbrev Equal : (List ℕ → Run) → Type 0
Equal k = (cs ds : List ℕ) → Alike cs ds → Same (k cs) (k ds)

same_met : (ss : List Step) → Equal (met ss)
same_met ss cs ds al = record { steps = refl; taken = refl; returned = refl; rest = al }

same_after : (tests : List Step) (r s : Run) → Same r s → Same (with_steps tests r) (with_steps tests s)
same_after tests r s h =
    record { steps = ap (λ ss. tests ++ ss) h.steps; taken = h.taken; returned = h.returned; rest = h.rest }

same_chosen : (m n : ℕ) (r s : Run) → m ≡ n → Same r s → Same (chose m r) (chose n s)
same_chosen m n r s e h =
    record {
      steps = h.steps;
      taken = ap (λ k. k ∷ r.taken) e ∙ ap (λ l. n ∷ l) h.taken;
      returned =
          h.returned;
      rest = h.rest;
    }

same_on : (b c : Bool) (ss ts : List Step) (t u cs ds : List ℕ) (k l : List ℕ → Run) → ss ≡ ts → t ≡ u → b
    ≡ c → Alike cs ds → Same (k cs) (l ds) →
    Same (and_then (record { steps = ss; taken = t; rest = cs; returned = b }) k)
    (and_then (record { steps = ts; taken = u; rest = ds; returned = c }) l)
same_on true true ss ts t u cs ds k l e f g al h = record { steps = e; taken = f; returned = refl; rest = al }
same_on false false ss ts t u cs ds k l e f g al h = record {
  steps = ap (λ s. s ++ (k cs).steps) e ∙ ap (λ s. ts ++ s) h.steps;
  taken = both_appended t (k cs).taken u (l ds).taken f h.taken;
  returned = h.returned;
  rest = h.rest;
}
same_on true false ss ts t u cs ds k l e f g al h = let wrong : true ≡ false = g in absurd (cc)
same_on false true ss ts t u cs ds k l e f g al h = let wrong : false ≡ true = g in absurd (cc)

same_then : (r s : Run) (k l : List ℕ → Run) → Same r s → Same (k r.rest) (l s.rest) →
    Same (and_then r k) (and_then s l)
same_then r s k l h g =
    same_on r.returned s.returned r.steps s.steps r.taken s.taken r.rest s.rest k l h.steps h.taken h.returned
    h.rest g

same_either : (b c : Bool) (p q r s : Run) → b ≡ c → Same p r → Same q s →
    Same (if b then p else q) (if c then r else s)
same_either true true p q r s e g h = g
same_either false false p q r s e g h = h
same_either true false p q r s e g h = let wrong : true ≡ false = e in absurd (cc)
same_either false true p q r s e g h = let wrong : false ≡ true = e in absurd (cc)

leaves : (tests : List Step) (k : List ℕ → Run) (n : ℕ) (cs : List ℕ) → first cs ≡ 0 → turns tests k n cs
    ≡ with_steps tests (chose 0 (met [] (drop 1 cs)))
leaves tests k zero cs h = refl
leaves tests k (suc n) cs h =
    ap (λ (c : ℕ). with_steps tests
    (if c == 0 then chose 0 (met [] (drop 1 cs)) else and_then (chose 1 (k (drop 1 cs)))
    (turns tests k n))) h

same_leave : (cs ds : List ℕ) → Alike cs ds →
    Same (chose 0 (met [] (drop 1 cs))) (chose 0 (met [] (drop 1 ds)))
same_leave cs ds al =
    same_chosen 0 0 (met [] (drop 1 cs)) (met [] (drop 1 ds)) refl
    (same_met [] (drop 1 cs) (drop 1 ds) (alike_after cs ds al))

same_out : (tests : List Step) (k : List ℕ → Run) (n m : ℕ) (cs ds : List ℕ) → Alike cs ds → first cs ≡ 0 →
    Same (turns tests k n cs) (turns tests k m ds)
same_out tests k n m cs ds al z =
    subst (λ (r : Run). Same r (turns tests k m ds)) (sym (leaves tests k n cs z))
    (subst (λ (r : Run). Same (with_steps tests (chose 0 (met [] (drop 1 cs)))) r)
    (sym (leaves tests k m ds (sym (alike_first cs ds al) ∙ z)))
    (same_after tests (chose 0 (met [] (drop 1 cs))) (chose 0 (met [] (drop 1 ds))) (same_leave cs ds al)))

same_turns : (tests : List Step) (k : List ℕ → Run) → Shortens k → Equal k →
    (n m : ℕ) (cs ds : List ℕ) → Alike cs ds → length cs ≤ n → length ds ≤ m →
    Same (turns tests k n cs) (turns tests k m ds)
same_turns tests k sh h zero m cs ds al i j = same_out tests k zero m cs ds al (empty_first cs i)
same_turns tests k sh h (suc n) zero cs ds al i j =
    same_out tests k (suc n) zero cs ds al (alike_first cs ds al ∙ empty_first ds j)
same_turns tests k sh h (suc n) (suc m) cs ds al i j =
    let a = chose 0 (met [] (drop 1 cs)) in
    let b = chose 0 (met [] (drop 1 ds)) in
    let r = k (drop 1 cs) in
    let s = k (drop 1 ds) in
    let body : Same r s = h (drop 1 cs) (drop 1 ds) (alike_after cs ds al) in
    let e : (first cs == 0) ≡ (first ds == 0) = ap (λ (c : ℕ). c == 0) (alike_first cs ds al) in
    let p : length r.rest ≤ n = omega (arith, sh (drop 1 cs), shorter_by cs n i) in
    let q : length s.rest ≤ m = omega (arith, sh (drop 1 ds), shorter_by ds m j) in
    same_after tests (if first cs == 0 then a else and_then (chose 1 r) (turns tests k n))
    (if first ds == 0 then b else and_then (chose 1 s) (turns tests k m))
    (same_either (first cs == 0) (first ds == 0) a (and_then (chose 1 r) (turns tests k n)) b
    (and_then (chose 1 s) (turns tests k m)) e (same_leave cs ds al)
    (same_then (chose 1 r) (chose 1 s) (turns tests k n) (turns tests k m) (same_chosen 1 1 r s refl body)
    (same_turns tests k sh h n m r.rest s.rest body.rest p q)))

same_number : (last : ℕ) (ks : ℕ → List ℕ → Run) → ((n : ℕ) → Equal (ks n)) →
    Equal (λ cs. chose (min (first cs) last) (ks (first cs) (drop 1 cs)))
same_number last ks h cs ds al =
    let e = alike_first cs ds al in
    subst (λ (n : ℕ). Same (chose (min (first cs) last) (ks (first cs) (drop 1 cs)))
    (chose (min n last) (ks n (drop 1 ds)))) e
    (same_chosen (min (first cs) last) (min (first cs) last) (ks (first cs) (drop 1 cs))
    (ks (first cs) (drop 1 ds)) refl (h (first cs) (drop 1 cs) (drop 1 ds) (alike_after cs ds al)))

same_loop : (tests : List Step) (k : List ℕ → Run) → Shortens k → Equal k →
    Equal (λ cs. turns tests k (length cs) cs)
same_loop tests k sh h cs ds al =
    same_turns tests k sh h (length cs) (length ds) cs ds al (omega arith) (omega arith)

mutual
  pub same : (s : PlainStatement) (os : List Around) → Equal (follow s os)
  same (skip at) os cs ds al = same_met [] cs ds al
  same (declare at binding name t e) os cs ds al = same_met (says e os ∷ []) cs ds al
  same (destructure at binds e) os cs ds al = same_met (says e os ∷ []) cs ds al
  same (assign at name fields e) os cs ds al =
      record { steps = refl; taken = refl; returned = refl; rest = al }
  same (assign_through at name fields e) os cs ds al =
      record { steps = refl; taken = refl; returned = refl; rest = al }
  same (conditional at bs) os cs ds al =
      same_number (count_of_branches bs) (follow_branches bs os (met []))
      (same_branches bs os (met []) (same_met [])) cs ds al
  same (conditional_else at bs b) os cs ds al =
      same_number (count_of_branches bs) (follow_branches bs os (follow_block b os))
      (same_branches bs os (follow_block b os) (same_block b os)) cs ds al
  same (case_of at e no_arms) os cs ds al =
      same_after (says e os ∷ []) (chose 0 (met [] (drop 1 cs))) (chose 0 (met [] (drop 1 ds)))
      (same_leave cs ds al)
  same (case_of at e (arms when' name binds b more)) os cs ds al =
      let ks = follow_arms more os (follow_block b (bound_names binds ++ os)) in
      same_after (says e os ∷ []) (chose (min (first cs) (count_of_arms more)) (ks (first cs) (drop 1 cs)))
      (chose (min (first ds) (count_of_arms more)) (ks (first ds) (drop 1 ds)))
      (same_number (count_of_arms more) ks
      (same_arms more os (follow_block b (bound_names binds ++ os))
      (same_block b (bound_names binds ++ os))) cs ds al)
  same (while_loop at e b) os cs ds al =
      same_loop (says e os ∷ []) (follow_block b os) (short_block b os) (same_block b os) cs ds al
  same (for_loop at name a z b) os cs ds al =
      let k = follow_block b (declared name.name ∷ os) in
      same_after (says a os ∷ says z os ∷ []) (turns [] k (length cs) cs) (turns [] k (length ds) ds)
      (same_loop [] k (short_block b (declared name.name ∷ os)) (same_block b (declared name.name ∷ os)) cs ds
      al)
  same (borrow_in at access x r region b stop) os cs ds al =
      let inner = declared r.name ∷ lent access x.name ∷ os in
      same_after (step (opening access x.name) os ∷ []) (follow_block b inner cs) (follow_block b inner ds)
      (same_block b inner cs ds al)
  same (borrow_typed at r t mode x b stop) os cs ds al =
      let inner = declared r.name ∷ lent (access_of mode) x.name ∷ os in
      same_after (step (opening (access_of mode) x.name) os ∷ []) (follow_block b inner cs)
      (follow_block b inner ds) (same_block b inner cs ds al)
  same (discard at e) os cs ds al = same_met (says e os ∷ []) cs ds al
  same (return_of at e) os cs ds al = record { steps = refl; taken = refl; returned = refl; rest = al }

  pub same_block : (b : PlainStatements) (os : List Around) → Equal (follow_block b os)
  same_block no_statements os cs ds al = same_met [] cs ds al
  same_block (statements s more) os cs ds al =
      let h = same s os cs ds al in
      same_then (follow s os cs) (follow s os ds) (follow_block more (declared_by s ++ os))
      (follow_block more (declared_by s ++ os)) h
      (same_block more (declared_by s ++ os) (follow s os cs).rest (follow s os ds).rest h.rest)

  same_branches : (bs : PlainBranches) (os : List Around) (k : List ℕ → Run) → Equal k → (n : ℕ) →
      Equal (follow_branches bs os k n)
  same_branches no_branches os k h n = h
  same_branches (branches e b more) os k h zero =
      λ cs ds al. same_after (says e os ∷ []) (follow_block b os cs) (follow_block b os ds)
      (same_block b os cs ds al)
  same_branches (branches e b more) os k h (suc n) = λ cs ds al.
      same_after (says e os ∷ []) (follow_branches more os k n cs) (follow_branches more os k n ds)
      (same_branches more os k h n cs ds al)

  same_arms : (rest : PlainArms) (os : List Around) (k : List ℕ → Run) → Equal k → (n : ℕ) →
      Equal (follow_arms rest os k n)
  same_arms no_arms os k h n = h
  same_arms (arms when' name binds b more) os k h zero = h
  same_arms (arms when' name binds b more) os k h (suc n) =
      same_arms more os (follow_block b (bound_names binds ++ os)) (same_block b (bound_names binds ++ os)) n

-- Zeros at the end.
alike_before : (n : ℕ) (ns ms : List ℕ) → Alike ns ms → Alike (before n ns) (n ∷ ms)
alike_before zero [] ms al zero = refl
alike_before zero [] ms al (suc i) = al i
alike_before (suc n) [] ms al zero = refl
alike_before (suc n) [] ms al (suc i) = al i
alike_before n (k ∷ ns) ms al zero = refl
alike_before n (k ∷ ns) ms al (suc i) = al i

pub alike_trimmed : (path : List ℕ) → Alike (without_zeros path) path
alike_trimmed [] i = refl
alike_trimmed (n ∷ ns) i = alike_before n (without_zeros ns) ns (alike_trimmed ns) i

before_begins : (n : ℕ) (ns ms rest : List ℕ) → ms ≡ ns ++ rest → (more : List ℕ)
    × (n ∷ ms ≡ before n ns ++ more)
before_begins zero [] ms rest h = (0 ∷ ms, refl)
before_begins (suc n) [] ms rest h = (ms, refl)
before_begins n (k ∷ ns) ms rest h = (rest, ap (λ l. n ∷ l) h)

pub trimmed_begins : (path : List ℕ) → (rest : List ℕ) × (path ≡ without_zeros path ++ rest)
trimmed_begins [] = ([], refl)
trimmed_begins (n ∷ ns) = let w = trimmed_begins ns in before_begins n (without_zeros ns) ns w.0 w.1

before_ends : (n : ℕ) (ns : List ℕ) → EndsWell ns → EndsWell (before n ns)
before_ends zero [] h = tt
before_ends (suc n) [] h = omega arith
before_ends n (k ∷ ns) h = h

pub trimmed_ends : (path : List ℕ) → EndsWell (without_zeros path)
trimmed_ends [] = tt
trimmed_ends (n ∷ ns) = before_ends n (without_zeros ns) (trimmed_ends ns)
