-- How many instructions the pieces of code have, and where their labels lead.
use Rattle.std.proofs.Common.{◌≡◌, ℕ, zero, suc, ◌+◌, ◌≤◌, Bool, true, false, List, [], ◌∷◌, ◌++◌, length}
use Rattle.std.proofs.Common.{length-append, Option, Some, None, refl, sym, subst, arith, if◌then◌else◌}
use Rattle.au_low.specs.declared.instructions.Instr.{Instr}
use Rattle.au_low.specs.declared.instructions.Instr.TheVariants as instr
use Rattle.au_meaning.specs.Statements.{is_tag}
use Rattle.au_lowered.specs.Drafts.{Draft, plain, Written, ◌>>◌, nothing, one, does, given, unless}
use Rattle.au_lowered.specs.Drafts.{count_unless, when, either, looped}
use Rattle.au_lowered.specs.Laws.{labels_of, EachBefore, LabelsBefore, Fits}
use Rattle.au_lowered.specs.Statements as lower
use Rattle.au_lowered.specs.Statements.{ArmsWritten, arm_then, start_of, cases, turns}

-- ---- lists of labels

each_more : (j k m n : ℕ) (labels : List ℕ) → m + k ≤ n + j → EachBefore j m labels → EachBefore k n labels
each_more j k m n [] le e = tt
each_more j k m n (l ∷ ls) le e = (omega (arith, le, e.0), each_more j k m n ls le e.1)

labels_more : (j k m n : ℕ) (xs : List Draft) → m + k ≤ n + j → LabelsBefore j m xs → LabelsBefore k n xs
labels_more j k m n [] le e = tt
labels_more j k m n (x ∷ xs) le e = (each_more j k m n (labels_of x) le e.0, labels_more j k m n xs le e.1)

each_append : (k n : ℕ) (xs ys : List ℕ) → EachBefore k n xs → EachBefore k n ys → EachBefore k n (xs ++ ys)
each_append k n [] ys a b = b
each_append k n (x ∷ xs) ys a b = (a.0, each_append k n xs ys a.1 b)

labels_append : (k n : ℕ) (xs ys : List Draft) → LabelsBefore k n xs → LabelsBefore k n ys
    → LabelsBefore k n (xs ++ ys)
labels_append k n [] ys a b = b
labels_append k n (x ∷ xs) ys a b = (a.0, labels_append k n xs ys a.1 b)

-- ---- one piece behind another

-- how long two pieces are
pub length_both : (a b : Written) (p : ℕ) → length ((a >> b) p) ≡ length (a p) + length (b (p + length (a p)))
length_both a b p = length-append (a p) (b (p + length (a p)))

-- the labels of two pieces at a place
both_before : (k : ℕ) (a b : Written) (p : ℕ) → LabelsBefore 0 (p + length (a p)) (a p)
    → k ≤ length (b (p + length (a p)))
    → LabelsBefore k (p + length (a p) + length (b (p + length (a p)))) (b (p + length (a p)))
    → LabelsBefore k (p + length ((a >> b) p)) ((a >> b) p)
both_before k a b p front long back =
    let many = length_both a b p in
    labels_append k (p + length ((a >> b) p)) (a p) (b (p + length (a p)))
    (labels_more 0 k (p + length (a p)) (p + length ((a >> b) p)) (a p) (omega (arith, many, long)) front)
    (labels_more k k (p + length (a p) + length (b (p + length (a p)))) (p + length ((a >> b) p))
    (b (p + length (a p))) (omega (arith, many)) back)

pub fits_both : {k : ℕ} {a b : Written} → Fits 0 a → Fits k b → Fits k (a >> b)
fits_both {k} {a} {b} fa fb = record {
  steady = λ p q.
      let at_p = length_both a b p in
      let at_q = length_both a b q in
      let of_a = fa.steady p q in
      let of_b = fb.steady (p + length (a p)) (q + length (a q)) in
      omega (arith, at_p, at_q, of_a, of_b);
  long = λ p.
      let at_p = length_both a b p in
      let of_b = fb.long (p + length (a p)) in
      omega (arith, at_p, of_b);
  before = λ p. both_before k a b p (fa.before p) (fb.long (p + length (a p))) (fb.before (p + length (a p)));
}

-- the same where nothing stands behind
pub fits_last : {k : ℕ} {a : Written} → Fits k a → Fits k (a >> nothing)
fits_last {k} {a} fa = record {
  steady = λ p q.
      let at_p = length_both a nothing p in
      let at_q = length_both a nothing q in
      let of_a = fa.steady p q in
      omega (arith, at_p, at_q, of_a);
  long = λ p.
      let at_p = length_both a nothing p in
      let of_a = fa.long p in
      omega (arith, at_p, of_a);
  before = λ p.
      let many = length_both a nothing p in
      labels_append k (p + length ((a >> nothing) p)) (a p) []
      (labels_more k k (p + length (a p)) (p + length ((a >> nothing) p)) (a p) (omega (arith, many)) (fa.before p)) tt;
}

-- ---- single instructions

pub fits_nothing : Fits 0 nothing
fits_nothing = record { steady = λ p q. refl; long = λ p. omega arith; before = λ p. tt }

-- an instruction without labels
pub fits_one : (k : ℕ) (draft : Draft) → k ≤ 1 → labels_of draft ≡ [] → Fits k (one draft)
fits_one k draft le without = record {
  steady = λ p q. refl;
  long = λ p. le;
  before = λ p. (subst (EachBefore k (p + 1)) (sym without) tt, tt);
}

pub fits_given : {A : Type 0} (found : Option A) (write : A → Written) → ((a : A) → Fits 0 (write a))
    → Fits 0 (given found write)
fits_given None write fits = fits_nothing
fits_given (Some a) write fits = fits a

-- an instruction that stands where no block has returned before it
pub length_unless : (r : Bool) (i : Instr) (p : ℕ) → length (unless r i p) ≡ count_unless r
length_unless true i p = refl
length_unless false i p = refl

unless_before : (r : Bool) (i : Instr) (p : ℕ) → EachBefore 0 (p + 1) (labels_of (plain i))
    → LabelsBefore 0 (p + length (unless r i p)) (unless r i p)
unless_before true i p e = tt
unless_before false i p e = (e, tt)

pub fits_unless : (r : Bool) (i : Instr) → labels_of (plain i) ≡ [] → Fits 0 (unless r i)
fits_unless true i without = fits_nothing
fits_unless false i without = fits_one 0 (plain i) (omega arith) without

-- ---- jumps ahead

pub fits_when : {a : Written} → Fits 0 a → Fits 0 (when a)
fits_when {a} fa = record {
  steady = λ p q. let of_a = fa.steady (p + 1) (q + 1) in omega (arith, of_a);
  long = λ p. omega arith;
  before = λ p. (
    (omega arith, tt),
    labels_more 0 0 (p + 1 + length (a (p + 1))) (p + length (when a p)) (a (p + 1)) (omega arith) (fa.before (p + 1)),
  );
}

-- how long three lists are, one behind the other, behind an instruction
length_three : (d : Draft) (xs us ys : List Draft)
    → length (d ∷ (xs ++ (us ++ ys))) ≡ length xs + length us + length ys + 1
length_three d xs us ys = omega (arith, length-append xs (us ++ ys), length-append us ys)

-- the labels of what stands where no block has returned before it
unless_labels : (r : Bool) (i : Instr) (k n p : ℕ) → EachBefore k n (labels_of (plain i))
    → LabelsBefore k n (unless r i p)
unless_labels true i k n p e = tt
unless_labels false i k n p e = (e, tt)

module _ (r : Bool) (a b : Written) where
  -- where the second branch begins, the jump to its end, and the end
  abbrev pub next : ℕ → ℕ
  next p = p + 1 + length (a (p + 1)) + count_unless r

  jump : ℕ → Instr
  jump p = instr.Jump (next p + length (b (next p)))

  pub either_length : (p : ℕ)
      → length (either r a b p) ≡ length (a (p + 1)) + count_unless r + length (b (next p)) + 1
  unfolding jump
  either_length p =
      let many = length_three (plain (instr.JumpNot (next p))) (a (p + 1)) (unless r (jump p) (next p)) (b (next p)) in
      let last = length_unless r (jump p) (next p) in
      omega (arith, many, last)

  either_steady : {j k : ℕ} → Fits j a → Fits k b → (p q : ℕ)
      → length (either r a b p) ≡ length (either r a b q)
  either_steady fa fb p q =
      let of_a = fa.steady (p + 1) (q + 1) in
      let of_b = fb.steady (next p) (next q) in
      omega (arith, of_a, of_b, either_length p, either_length q)

  -- the labels, by those of the parts
  either_before : (k p : ℕ) → k ≤ length (b (next p))
      → LabelsBefore k (p + 1 + length (a (p + 1))) (a (p + 1))
      → LabelsBefore k (p + length (either r a b p)) (unless r (jump p) (next p))
      → LabelsBefore k (next p + length (b (next p))) (b (next p))
      → LabelsBefore k (p + length (either r a b p)) (either r a b p)
  unfolding jump
  either_before k p long first middle last =
      let many = either_length p in
      let end = p + length (either r a b p) in (
        (omega (arith, many, long), tt),
        labels_append k end (a (p + 1)) (unless r (jump p) (next p) ++ b (next p))
            (labels_more k k (p + 1 + length (a (p + 1))) end (a (p + 1)) (omega (arith, many)) first)
            (labels_append k end (unless r (jump p) (next p)) (b (next p)) middle
            (labels_more k k (next p + length (b (next p))) end (b (next p)) (omega (arith, many)) last)),
      )

-- two branches
pub fits_either : (r : Bool) {a b : Written} → Fits 0 a → Fits 0 b → Fits 0 (either r a b)
unfolding jump
fits_either r {a} {b} fa fb = record {
  steady = λ p q. either_steady r a b fa fb p q;
  long = λ p. omega arith;
  before = λ p.
      let many = either_length r a b p in
      either_before r a b 0 p (omega arith) (fa.before (p + 1))
      (unless_labels r (jump r a b p) 0 (p + length (either r a b p)) (next r a b p) (omega (arith, many), tt))
      (fb.before (next r a b p));
}

-- two branches of which the first returns on every path
pub fits_returning : {k : ℕ} {a b : Written} → Fits k a → Fits k b → Fits k (either true a b)
unfolding jump
fits_returning {k} {a} {b} fa fb = record {
  steady = λ p q. either_steady true a b fa fb p q;
  long = λ p.
      let many = either_length true a b p in
      let of_a = fa.long (p + 1) in
      omega (arith, many, of_a);
  before = λ p. either_before true a b k p (fb.long (next true a b p)) (fa.before (p + 1)) tt
      (fb.before (next true a b p));
}

-- ---- loops

-- `while`, whose jump goes back to where it begins
pub fits_loop : (r : Bool) {test body : Written} → Fits 0 test → Fits 0 body → Fits 0 (looped r test body)
fits_loop r {test} {body} ft fb = record {
  steady = λ p q.
      let of_test = ft.steady p q in
      let of_body = fb.steady (inside p) (inside q) in
      let at_p = whole p in
      let at_q = whole q in
      omega (arith, of_test, of_body, at_p, at_q);
  long = λ p. omega arith;
  before = λ p.
      let turn = body >> unless r (instr.Jump p) in
      let m = p + length (test p) in
      let back = both_before 0 body (unless r (instr.Jump p)) (m + 1) (fb.before (m + 1)) (omega arith)
      (unless_before r (instr.Jump p) (m + 1 + length (body (m + 1))) (omega arith, tt)) in
      both_before 0 test (when turn) p (ft.before p) (omega arith) (
        (omega arith, tt),
        labels_more 0 0 (m + 1 + length (turn (m + 1))) (m + length (when turn m)) (turn (m + 1)) (omega arith) back,
      );
}
  where
    inside : ℕ → ℕ
    inside p = p + length (test p) + 1

    whole : (p : ℕ) → length (looped r test body p) ≡ length (test p) + length (body (inside p)) + count_unless r + 1
    whole p =
        let turn = body >> unless r (instr.Jump p) in
        let outer = length_both test (when turn) p in
        let inner = length_both body (unless r (instr.Jump p)) (inside p) in
        let last = length_unless r (instr.Jump p) (inside p + length (body (inside p))) in
        omega (arith, outer, inner, last)

-- the turns of `for`, whose step goes back to the first instruction behind the test
pub fits_turns : (r : Bool) (slot : ℕ) {body : Written} → Fits 0 body → Fits 0 (turns r slot body)
fits_turns r slot {body} fb = record {
  steady = λ p q.
      let of_body = fb.steady (inside p) (inside q) in
      let at_p = whole p in
      let at_q = whole q in
      omega (arith, of_body, at_p, at_q);
  long = λ p. omega arith;
  before = λ p.
      let t = p + 1 in
      let step = instr.ForStep slot (slot + 1) t in
      let back = both_before 0 body (unless r step) (t + 1 + 1) (fb.before (t + 1 + 1)) (omega arith)
      (unless_before r step (t + 1 + 1 + length (body (t + 1 + 1))) (omega arith, tt)) in
      let third = both_before 0 (does (instr.Store (slot + 2))) (body >> unless r step) (t + 1) (tt, tt)
      (omega arith) back in
      let second = both_before 0 (does (instr.Look slot [])) (does (instr.Store (slot + 2)) >> body >> unless r step) t
      (tt, tt) (omega arith) third in (
        (omega arith, tt),
        labels_more 0 0 (t + length (turn p t)) (p + length (turns r slot body p)) (turn p t) (omega arith) second,
      );
}
  where
    inside : ℕ → ℕ
    inside p = p + 1 + 1 + 1

    turn : ℕ → Written
    turn p = does (instr.Look slot []) >> does (instr.Store (slot + 2)) >> body
        >> unless r (instr.ForStep slot (slot + 1) (p + 1))

    whole : (p : ℕ) → length (turns r slot body p) ≡ length (body (inside p)) + count_unless r + 3
    whole p =
        let step = instr.ForStep slot (slot + 1) (p + 1) in
        let first = length_both (does (instr.Look slot []))
        (does (instr.Store (slot + 2)) >> body >> unless r step) (p + 1) in
        let second = length_both (does (instr.Store (slot + 2))) (body >> unless r step) (p + 1 + 1) in
        let third = length_both body (unless r step) (inside p) in
        let last = length_unless r step (inside p + length (body (inside p))) in
        omega (arith, first, second, third, last)

-- ---- arms

-- where arms begin stands so many places before an end, or more
abbrev pub StartsBefore : ℕ → ℕ → List (Option ℕ × ℕ) → Type 0
StartsBefore places end [] = Unit {0}
StartsBefore places end (one ∷ rest) = (one.1 + places ≤ end) × StartsBefore places end rest

pub record ArmsFit (places : ℕ) (write : ℕ → ArmsWritten) : Type 0 where
  pub steady : (p q : ℕ) → length (write p).code ≡ length (write q).code
  pub before : (p : ℕ) → LabelsBefore places (p + length (write p).code) (write p).code
  pub starts : (p : ℕ) → StartsBefore places (p + length (write p).code) (write p).starts

starts_more : (k m n : ℕ) (xs : List (Option ℕ × ℕ)) → m ≤ n → StartsBefore k m xs → StartsBefore k n xs
starts_more k m n [] le e = tt
starts_more k m n (x ∷ xs) le e = (omega (arith, le, e.0), starts_more k m n xs le e.1)

-- how long three lists are, one behind the other
length_all : (xs us ys : List Draft) → length (xs ++ (us ++ ys)) ≡ length xs + length us + length ys
length_all xs us ys = omega (arith, length-append xs (us ++ ys), length-append us ys)

pub arms_end : {k : ℕ} → ArmsFit k (λ p. record { starts = []; code = [] })
arms_end = record { steady = λ p q. refl; before = λ p. tt; starts = λ p. tt }

module _ (r : Bool) (tag : Option ℕ) (a : Written) (others : ℕ → ArmsWritten) where
  -- where the other arms begin, and the jump to their end
  abbrev pub behind : ℕ → ℕ
  behind p = p + length (a p) + count_unless r

  leap : ℕ → Instr
  leap p = instr.Jump (behind p + length (others (behind p)).code)

  pub arm_length : (p : ℕ) → length (arm_then r tag a others p).code
      ≡ length (a p) + count_unless r + length (others (behind p)).code
  unfolding leap
  arm_length p =
      let many = length_all (a p) (unless r (leap p) (behind p)) (others (behind p)).code in
      let last = length_unless r (leap p) (behind p) in
      omega (arith, many, last)

  arm_steady : {j k : ℕ} → Fits j a → ArmsFit k others → (p q : ℕ)
      → length (arm_then r tag a others p).code ≡ length (arm_then r tag a others q).code
  arm_steady fa fo p q =
      let of_a = fa.steady p q in
      let of_others = fo.steady (behind p) (behind q) in
      omega (arith, of_a, of_others, arm_length p, arm_length q)

  arm_before : (k p : ℕ) → LabelsBefore k (p + length (a p)) (a p)
      → LabelsBefore k (p + length (arm_then r tag a others p).code) (unless r (leap p) (behind p))
      → ArmsFit k others
      → LabelsBefore k (p + length (arm_then r tag a others p).code) (arm_then r tag a others p).code
  unfolding leap
  arm_before k p own middle fo =
      let many = arm_length p in
      let end = p + length (arm_then r tag a others p).code in
      let code = (others (behind p)).code in
      labels_append k end (a p) (unless r (leap p) (behind p) ++ code)
      (labels_more k k (p + length (a p)) end (a p) (omega (arith, many)) own)
      (labels_append k end (unless r (leap p) (behind p)) code middle
      (labels_more k k (behind p + length code) end code (omega (arith, many)) (fo.before (behind p))))

  arm_starts : (k p : ℕ) → k ≤ length (a p) → ArmsFit k others
      → StartsBefore k (p + length (arm_then r tag a others p).code) (arm_then r tag a others p).starts
  unfolding leap
  arm_starts k p long fo =
      let many = arm_length p in (
        omega (arith, many, long),
        starts_more k (behind p + length (others (behind p)).code) (p + length (arm_then r tag a others p).code)
            (others (behind p)).starts (omega (arith, many)) (fo.starts (behind p)),
      )

-- an arm and others
pub arms_fit : (r : Bool) (tag : Option ℕ) {a : Written} {others : ℕ → ArmsWritten} → Fits 0 a → ArmsFit 0 others
    → ArmsFit 0 (arm_then r tag a others)
unfolding leap
arms_fit r tag {a} {others} fa fo = record {
  steady = λ p q. arm_steady r tag a others fa fo p q;
  before = λ p.
      let many = arm_length r tag a others p in
      arm_before r tag a others 0 p (fa.before p)
      (unless_labels r (leap r tag a others p) 0 (p + length (arm_then r tag a others p).code)
      (behind r tag a others p) (omega (arith, many), tt)) fo;
  starts = λ p. arm_starts r tag a others 0 p (omega arith) fo;
}

-- an arm that returns on every path, and others
pub arms_returning : (tag : Option ℕ) {k : ℕ} {a : Written} {others : ℕ → ArmsWritten} → Fits k a
    → ArmsFit k others → ArmsFit k (arm_then true tag a others)
arms_returning tag {k} {a} {others} fa fo = record {
  steady = λ p q. arm_steady true tag a others fa fo p q;
  before = λ p. arm_before true tag a others k p (fa.before p) tt fo;
  starts = λ p. arm_starts true tag a others k p (fa.long p) fo;
}

-- the label of a case
by_tag : (k n : ℕ) (t : Bool) (x y : ℕ) → x + k ≤ n → y + k ≤ n → (if t then x else y) + k ≤ n
by_tag k n true x y a b = a
by_tag k n false x y a b = b

start_before : (k n tag : ℕ) (starts : List (Option ℕ × ℕ)) → k ≤ n → StartsBefore k n starts
    → start_of tag starts + k ≤ n
start_before k n tag [] le e = omega (arith, le)
start_before k n tag (x ∷ xs) le e =
    by_tag k n (is_tag tag x.0) x.1 (start_of tag xs) e.0 (start_before k n tag xs le e.1)

labels_before : (k n tags : ℕ) (starts : List (Option ℕ × ℕ)) → k ≤ n → StartsBefore k n starts
    → EachBefore k n (lower.labels_of tags starts)
labels_before k n zero starts le e = tt
labels_before k n (suc tag) starts le e =
    each_append k n (lower.labels_of tag starts) (start_of tag starts ∷ []) (labels_before k n tag starts le e)
    (start_before k n tag starts le e, tt)

-- a case: its arms stand behind its own instruction
pub fits_cases : {k : ℕ} (slot : ℕ) {all : ℕ → ArmsWritten} → k ≤ 1 → ArmsFit k all → Fits k (cases slot all)
fits_cases {k} slot {all} le fits = record {
  steady = λ p q. let same = fits.steady (p + 1) (q + 1) in omega (arith, same);
  long = λ p. omega (arith, le);
  before = λ p.
      let w = all (p + 1) in
      let end = p + length (cases slot all p) in (
        labels_before k end (lower.count_of_cases w.starts) w.starts (omega (arith, le))
            (starts_more k (p + 1 + length w.code) end w.starts (omega arith) (fits.starts (p + 1))),
        labels_more k k (p + 1 + length w.code) end w.code (omega arith) (fits.before (p + 1)),
      );
}
