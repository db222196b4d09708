-- The laws of the readers of a conditional's branches, as long as `else if` follows, and of its `else`.
use Rattle.std.proofs.Common.{◌≡◌, ℕ, zero, suc, ◌<◌, ◌≤◌, Bool, true, false, not, ◌&&◌, List, [], ◌∷◌, ◌++◌}
use Rattle.std.proofs.Common.{length, map, drop, Option, Some, None, Ok, refl, sym, ap, ◌∙◌, subst, arith}
use Rattle.std.proofs.Common.{inl, inr, append-nil}
use Rattle.std.specs.List.{flat_map, list_all}
use Rattle.std.proofs.lemmas.Bool.{and_parts, and_from, not-true, cond-true, cond-false, and_right, and_left}
use Rattle.std.proofs.lemmas.Bool.{false_from_ne_true}
use Rattle.au_base.specs.declared.limits.Limit.{Limit}
use Rattle.au_base.specs.declared.tokens.Keyword.TheVariants.{KwIf, KwThen, KwElse}
use Rattle.au_base.specs.declared.tokens.Token.{Token}
use Rattle.au_base.specs.declared.tokens.What.{What}
use Rattle.au_base.specs.declared.tokens.What.TheVariants.{Word}
use Rattle.au_base.proofs.BoolLemmas.{cond_cases}
use Rattle.au_syntax.specs.Forms.{begins_with_if, formed_block}
use Rattle.au_syntax.specs.Plain.{PlainExpression, PlainStatements}
use Rattle.au_syntax.specs.Words.{Words, block_words}
use Rattle.au_read_expressions.specs.Bounds.{Bounds}
use Rattle.au_read_expressions.specs.Reading.{Read, ◌>>=◌, front, is_front, begins_with, read_of, before_all}
use Rattle.au_read_expressions.specs.Reading.{joined_with, joined_at, pair, optional}
use Rattle.au_read_expressions.specs.Spelling.{Begins, fixed}
use Rattle.au_read_expressions.proofs.Steps.{not_read, ok_same, bind_ok}
use Rattle.au_read_expressions.proofs.Steps.{begins_is, begins_again}
use Rattle.au_read_expressions.proofs.Begins.{begins_split, begins_join, begins_shorter, front_of}
use Rattle.au_read_expressions.proofs.Forms.{Form, Sound, Finds, Reads, finds_on, sound_of, behind_form}
use Rattle.au_read_expressions.proofs.Forms.{behind_reads, pair_form, pair_behind}
use Rattle.au_read_expressions.proofs.ListForms.{separated_form, optional_form, optional_reads}
use Rattle.au_read_statements.specs.StatementReading.{begins_statement, ends_block, else_if, branch_with}
use Rattle.au_read_statements.specs.StatementReading.{after_branch, branches_within, branches_with}
use Rattle.au_read_expressions.proofs.ExpressionForm.{expression_form}
use Rattle.au_read_statements.proofs.FirstWords.{front_is, block_if, block_no_if}
use Rattle.au_read_statements.proofs.StatementForm.{block_form, Inside}

module _ (b : Bounds) (n : ℕ) where
  -- `if`, a test, `then` and a block
  abbrev pub branch_form : Form (PlainExpression × PlainStatements)
  branch_form = behind_form (pair_form (expression_form b n)
      (behind_form (block_form b n) (Word KwThen ∷ []))) (Word KwIf ∷ [])

  -- branches with `else` between
  abbrev pub branches_form : Form (List (PlainExpression × PlainStatements))
  branches_form = separated_form branch_form (fixed (Word KwElse ∷ []))

  -- the block behind the last `else`, which doesn't begin with `if`
  abbrev pub last_words : Option PlainStatements → Words
  last_words None = []
  last_words (Some block) = fixed (Word KwElse ∷ []) ++ block_words block

  abbrev pub last_good : Option PlainStatements → Bool
  last_good None = true
  last_good (Some block) = not (begins_with_if block) && formed_block block

  abbrev pub LastFits : Option PlainStatements → Type 0
  LastFits None = Unit {0}
  LastFits (Some block) = (block_form b n).Fits block

  abbrev pub LastPasses : Option PlainStatements → Limit → Type 0
  LastPasses None l = ⊥
  LastPasses (Some block) l = (block_form b n).Passes block l

  abbrev pub last_form : Form (Option PlainStatements)
  last_form = record { words = last_words; good = last_good; Fits = LastFits; Passes = LastPasses }

  abbrev pub tests_form : Form (List (PlainExpression × PlainStatements) × Option PlainStatements)
  tests_form = pair_form branches_form last_form

-- ---- `else if`

-- these tokens are `else if`
else_is : (ts : List Token) → else_if ts ≡ true → Begins (fixed (Word KwElse ∷ [])) ts (drop 1 ts)
else_is ts e =
    let m = begins_is (Word KwElse) ts
    (and_parts (begins_with (Word KwElse) ts) (begins_with (Word KwIf) (drop 1 ts)) e).0 in
    subst (λ x. Begins (fixed (Word KwElse ∷ [])) x (drop 1 ts)) (sym m.2) ((m.1, tt), refl)

-- what stands behind an `else`
else_next : (ts rest : List Token) → Begins (fixed (Word KwElse ∷ [])) ts rest → (drop 1 ts ≡ rest)
    × (begins_with (Word KwElse) ts ≡ true)
else_next [] rest h = absurd h
else_next (t ∷ ts) rest h = (h.1, begins_again (Word KwElse) (t ∷ ts) (ap (λ x. Some x) h.0.0))

-- a token that ends a block isn't `if`
ends_no_if : (what : Option What) → ends_block what ≡ true → is_front (Word KwIf) what ≡ false
ends_no_if what e =
    false_from_ne_true (is_front (Word KwIf) what) (λ is.
    let wrong : not (begins_statement (Some (Word KwIf))) ≡ true =
    ap (λ w. not (begins_statement w)) (sym (front_is (Word KwIf) what is)) ∙ e in
    let none = wrong in cc)

module _ (b : Bounds) (n : ℕ) (inner calls : List Token → Read PlainExpression)
    (blocks : List Token → Read PlainStatements) (inside : Inside b n inner calls blocks) where
  pub branch_reads : Reads (branch_form b n) ends_block (branch_with b inner calls blocks)
  unfolding branch_with
  branch_reads = behind_reads _ _ _
      (pair_behind _ _ _ _ _ inside.expressions _ inside.nested (Word KwThen) [] refl) (Word KwIf ∷ [])

  branch_some : (x : PlainExpression × PlainStatements) → 0 < length ((branch_form b n).words x)
  branch_some x = omega arith

  -- ---- branches

  -- the others, each behind `else`
  abbrev others_words : List (PlainExpression × PlainStatements) → Words
  others_words xs = flat_map (λ one. fixed (Word KwElse ∷ []) ++ one) (map (branch_form b n).words xs)

  more_sound : (x : PlainExpression × PlainStatements) (xs : List (PlainExpression × PlainStatements))
      (ts mid next rest : List Token)
      → Sound (branch_form b n) x ts mid → Begins (fixed (Word KwElse ∷ [])) mid next →
      Sound (branches_form b n) xs next rest → Sound (branches_form b n) (x ∷ xs) ts rest
  more_sound x [] ts mid next rest s h t = absurd (let wrong = t.good in cc)
  more_sound x (y ∷ ys) ts mid next rest s h t =
      let others : Words = (branches_form b n).words (y ∷ ys) in
      record {
        spelled = begins_join ((branch_form b n).words x) (fixed (Word KwElse ∷ []) ++ others) ts mid rest
            s.spelled (begins_join (fixed (Word KwElse ∷ [])) others mid next rest h t.spelled);
        good = and_from ((branch_form b n).good x) (list_all (branch_form b n).good (y ∷ ys)) s.good
            (and_parts true (list_all (branch_form b n).good (y ∷ ys)) t.good).1;
        fits = (s.fits, t.fits);
      }

  one_sound : (x : PlainExpression × PlainStatements) (ts rest : List Token) →
      Sound (branch_form b n) x ts rest → Sound (branches_form b n) (x ∷ []) ts rest
  one_sound x ts rest s = record {
    spelled = subst (λ ws. Begins ws ts rest) (sym (append-nil ((branch_form b n).words x))) s.spelled;
    good = and_from ((branch_form b n).good x) true s.good refl;
    fits = (s.fits, tt);
  }

  -- behind the branches doesn't stand `else if`
  abbrev pub Branched : List (PlainExpression × PlainStatements) → List Token → List Token → Type 0
  Branched xs ts rest = Sound (branches_form b n) xs ts rest × (else_if rest ≡ false)

  branched_of : (xs ys : List (PlainExpression × PlainStatements)) (ts rest last : List Token) →
      Branched xs ts rest → read_of xs rest ≡ read_of ys last → Branched ys ts last
  branched_of xs ys ts rest last s e =
      let same : (xs, rest) ≡ (ys, last) = ok_same (xs, rest) (ys, last) e in
      subst (λ (p : List (PlainExpression × PlainStatements) × List Token). Branched p.0 ts p.1) same s

  branches_sound : (k : ℕ) (ts rest : List Token) (xs : List (PlainExpression × PlainStatements)) →
      branches_within b inner calls blocks k ts ≡ Ok (xs, rest) → Branched xs ts rest
  branches_sound zero ts rest xs e = absurd (not_read _ (xs, rest) e)
  branches_sound (suc k) ts rest xs e =
      let others = branches_within b inner calls blocks k in
      let c = bind_ok (branch_with b inner calls blocks ts) (after_branch b inner calls blocks others) (xs, rest) e in
      let s = branch_reads.sound ts c.0.1 c.0.0 c.1 in
      elim (cond_cases (else_if c.0.1) (others (drop 1 c.0.1) >>= before_all c.0.0)
      (read_of (c.0.0 ∷ []) c.0.1)
      (read_of xs rest) c.2) [
        | inl w ↦
            let d = bind_ok (others (drop 1 c.0.1)) (before_all c.0.0) (xs, rest) w.1 in
            let t = branches_sound k (drop 1 c.0.1) d.0.1 d.0.0 d.1 in
            branched_of (c.0.0 ∷ d.0.0) xs ts d.0.1 rest
            (more_sound c.0.0 d.0.0 ts c.0.1 (drop 1 c.0.1) d.0.1 s (else_is c.0.1 w.0) t.0, t.1) d.2
        | inr w ↦ branched_of (c.0.0 ∷ []) xs ts c.0.1 rest (one_sound c.0.0 ts c.0.1 s, w.0) w.1
      ]

  branches_found : (xs : List (PlainExpression × PlainStatements)) (k : ℕ) (ts rest : List Token) →
      length ts ≤ k → Begins ((branches_form b n).words xs) ts rest → (branches_form b n).good xs ≡ true
      → else_if rest ≡ false → ends_block (front rest) ≡ true →
      Finds (branches_form b n) xs rest (branches_within b inner calls blocks k ts)
  branches_found [] k ts rest short h good none ended = absurd (let wrong = good in cc)
  branches_found (x ∷ xs) zero ts rest short h good none ended =
      let s = begins_split ((branch_form b n).words x) (others_words xs) ts rest h in
      absurd (let wrong : ⊥ = omega (
        arith,
        short,
        begins_shorter ((branch_form b n).words x) ts s.0 s.1,
        branch_some x,
      ) in wrong)
  branches_found (x ∷ []) (suc k) ts rest short h good none ended =
      finds_on (branch_form b n) (branches_form b n) x rest (branch_with b inner calls blocks ts)
      (after_branch b inner calls blocks (branches_within b inner calls blocks k)) (x ∷ []) rest
      (branch_reads.found x ts rest (subst (λ ws. Begins ws ts rest) (append-nil ((branch_form b n).words x))
      h) (and_parts ((branch_form b n).good x) true good).0 ended)
      (λ l p. inl p)
      (inl (cond-false (else_if rest) (branches_within b inner calls blocks k (drop 1 rest) >>= before_all x)
      (read_of (x ∷ []) rest) none))
  branches_found (x ∷ y ∷ ys) (suc k) ts rest short h good none ended =
      let others = branches_within b inner calls blocks k in
      let s = begins_split ((branch_form b n).words x) (others_words (y ∷ ys)) ts rest h in
      let g = and_parts ((branch_form b n).good x) (list_all (branch_form b n).good (y ∷ ys)) good in
      let c = begins_split (fixed (Word KwElse ∷ [])) ((branches_form b n).words (y ∷ ys)) s.0 rest s.2 in
      let is : front s.0 ≡ Some (Word KwElse) = front_of (fixed (Word KwElse ∷ [])) s.0 c.0 (omega arith) c.1 in
      let next = else_next s.0 c.0 c.1 in
      let iff : front c.0 ≡ Some (Word KwIf) = front_of ((branches_form b n).words (y ∷ ys)) c.0 rest
      (omega arith) c.2 in
      let there : else_if s.0 ≡ true = and_from (begins_with (Word KwElse) s.0)
      (begins_with (Word KwIf) (drop 1 s.0)) next.1
      (ap (begins_with (Word KwIf)) next.0 ∙ begins_again (Word KwIf) c.0 iff) in
      let small : length c.0 ≤ k =
      omega (
        arith,
        short,
        begins_shorter ((branch_form b n).words x) ts s.0 s.1,
        branch_some x,
        begins_shorter (fixed (Word KwElse ∷ [])) s.0 c.0 c.1,
      ) in
      finds_on (branch_form b n) (branches_form b n) x s.0 (branch_with b inner calls blocks ts)
      (after_branch b inner calls blocks others) (x ∷ y ∷ ys) rest
      (branch_reads.found x ts s.0 s.1 g.0 (ap ends_block is))
      (λ l p. inl p)
      (subst (Finds (branches_form b n) (x ∷ y ∷ ys) rest)
      (sym (cond-true (else_if s.0) (others (drop 1 s.0) >>= before_all x) (read_of (x ∷ []) s.0) there)) (
      finds_on (branches_form b n) (branches_form b n) (y ∷ ys) rest (others (drop 1 s.0)) (before_all x)
      (x ∷ y ∷ ys) rest
      (subst (λ r. Finds (branches_form b n) (y ∷ ys) rest (others r)) (sym next.0)
      (branches_found (y ∷ ys) k c.0 rest small c.2 g.1 none ended))
      (λ l p. inr p)
      (inl refl)))

  -- ---- the block behind the last `else`

  abbrev spelled_form : Form (Option PlainStatements)
  spelled_form = optional_form (block_form b n) ends_block blocks inside.nested (Word KwElse)

  last_sound : (x : Option PlainStatements) (ts rest : List Token) → else_if ts ≡ false →
      Sound spelled_form x ts rest → Sound (last_form b n) x ts rest
  last_sound None ts rest none s = record { spelled = s.spelled; good = refl; fits = tt }
  last_sound (Some block) ts rest none s =
      let o = begins_split (fixed (Word KwElse ∷ [])) (block_words block) ts rest s.spelled in
      let next = else_next ts o.0 o.1 in
      let plain : begins_with_if block ≡ false =
      false_from_ne_true (begins_with_if block) (λ is.
      let there : begins_with (Word KwIf) (drop 1 ts) ≡ true = ap (begins_with (Word KwIf)) next.0
      ∙ block_if block o.0 rest o.2 s.good is in
      let both : else_if ts ≡ true = and_from (begins_with (Word KwElse) ts)
      (begins_with (Word KwIf) (drop 1 ts)) next.1 there in
      let wrong : false ≡ true = sym none ∙ both in
      let it = wrong in cc) in
      record {
        spelled = s.spelled;
        good = and_from (not (begins_with_if block)) (formed_block block)
            (ap not plain) s.good;
        fits = s.fits;
      }

  last_formed : (x : Option PlainStatements) → last_good b n x ≡ true → spelled_form.good x ≡ true
  last_formed None good = refl
  last_formed (Some block) good = (and_parts (not (begins_with_if block)) (formed_block block) good).1

  -- behind a conditional's branches and its last block
  abbrev pub ends_tests : Option What → Bool
  ends_tests what = not (is_front (Word KwElse) what) && ends_block what

  last_found : (x : Option PlainStatements) (ts rest : List Token) → Begins (last_words b n x) ts rest →
      last_good b n x ≡ true → ends_tests (front rest) ≡ true
      → Finds (last_form b n) x rest (optional (Word KwElse) blocks ts)
  last_found None ts rest h good ended =
      (optional_reads (block_form b n) ends_block blocks inside.nested (Word KwElse)).found None ts rest h refl
      ended
  last_found (Some block) ts rest h good ended =
      (optional_reads (block_form b n) ends_block blocks inside.nested (Word KwElse)).found (Some block) ts rest
      h (last_formed (Some block) good) ended

  -- what stands behind the branches doesn't continue them
  before_last : (x : Option PlainStatements) (ts rest : List Token) → Begins (last_words b n x) ts rest →
      last_good b n x ≡ true → ends_tests (front rest) ≡ true
      → (else_if ts ≡ false) × (ends_block (front ts) ≡ true)
  before_last None ts rest h good ended =
      let p = and_parts (not (begins_with (Word KwElse) rest)) (ends_block (front rest)) ended in (
        ap else_if h ∙ and_left (begins_with (Word KwElse) rest) (begins_with (Word KwIf) (drop 1 rest))
            (not-true (begins_with (Word KwElse) rest) p.0),
        ap (λ r. ends_block (front r)) h ∙ p.1,
      )
  before_last (Some block) ts rest h good ended =
      let p = and_parts (not (begins_with (Word KwElse) rest)) (ends_block (front rest)) ended in
      let g = and_parts (not (begins_with_if block)) (formed_block block) good in
      let o = begins_split (fixed (Word KwElse ∷ [])) (block_words block) ts rest h in
      let next = else_next ts o.0 o.1 in
      let none : begins_with (Word KwIf) (drop 1 ts) ≡ false =
      ap (begins_with (Word KwIf)) next.0 ∙ block_no_if block o.0 rest o.2 g.1
      (not-true (begins_with_if block) g.0) (ends_no_if (front rest) p.1) in (
        and_right (begins_with (Word KwElse) ts) (begins_with (Word KwIf) (drop 1 ts)) none,
        ap ends_block (front_of (fixed (Word KwElse ∷ [])) ts o.0 (omega arith) o.1),
      )

  -- ---- the branches and the last block

  abbrev tests_at : List Token → Read (List (PlainExpression × PlainStatements) × Option PlainStatements)
  tests_at = pair (branches_with b inner calls blocks) (optional (Word KwElse) blocks)

  tests_sound : (ts rest : List Token) (x : List (PlainExpression × PlainStatements) × Option PlainStatements)
      → tests_at ts ≡ Ok (x, rest) → Sound (tests_form b n) x ts rest
  unfolding branches_with
  tests_sound ts rest x e =
      let last = optional (Word KwElse) blocks in
      let a = bind_ok (branches_with b inner calls blocks ts) (joined_at last) (x, rest) e in
      let s = branches_sound (length ts) ts a.0.1 a.0.0 a.1 in
      let c = bind_ok (last a.0.1) (joined_with a.0.0) (x, rest) a.2 in
      let t = last_sound c.0.0 a.0.1 c.0.1 s.1
      ((optional_reads (block_form b n) ends_block blocks inside.nested (Word KwElse)).sound a.0.1 c.0.1
      c.0.0 c.1) in
      sound_of (tests_form b n) (a.0.0, c.0.0) x ts c.0.1 rest (
      record {
        spelled = begins_join ((branches_form b n).words a.0.0) (last_words b n c.0.0) ts a.0.1 c.0.1
            s.0.spelled t.spelled;
        good = and_from ((branches_form b n).good a.0.0) (last_good b n c.0.0) s.0.good t.good;
        fits = (s.0.fits, t.fits);
      }) c.2

  tests_found : (x : List (PlainExpression × PlainStatements) × Option PlainStatements) (ts rest : List Token)
      → Begins ((tests_form b n).words x) ts rest → (tests_form b n).good x ≡ true
      → ends_tests (front rest) ≡ true → Finds (tests_form b n) x rest (tests_at ts)
  unfolding branches_with
  tests_found x ts rest h good ended =
      let last = optional (Word KwElse) blocks in
      let s = begins_split ((branches_form b n).words x.0) (last_words b n x.1) ts rest h in
      let g = and_parts ((branches_form b n).good x.0) (last_good b n x.1) good in
      let next = before_last x.1 s.0 rest s.2 g.1 ended in
      finds_on (branches_form b n) (tests_form b n) x.0 s.0 (branches_with b inner calls blocks ts)
      (joined_at last) x rest
      (branches_found x.0 (length ts) ts s.0 (omega arith) s.1 g.0 next.0 next.1)
      (λ l p. inl p)
      (finds_on (last_form b n) (tests_form b n) x.1 rest (last s.0) (joined_with x.0) x rest
      (last_found x.1 s.0 rest s.2 g.1 ended)
      (λ l p. inr p)
      (inl refl))

  pub tests_reads : Reads (tests_form b n) ends_tests
      (pair (branches_with b inner calls blocks) (optional (Word KwElse) blocks))
  tests_reads = record { sound = tests_sound; found = tests_found }
