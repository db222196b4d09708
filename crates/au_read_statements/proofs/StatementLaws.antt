-- The two laws of the readers of statements and blocks.
use Rattle.std.proofs.Common.{◌≡◌, ℕ, zero, suc, ◌<◌, Bool, true, not, ◌&&◌, List, [], ◌∷◌, ◌++◌, length}
use Rattle.std.proofs.Common.{drop, Option, Some, None, Ok, Err, refl, sym, ap, ◌∙◌, subst, arith, inl, inr}
use Rattle.std.specs.List.{flat_map, list_all}
use Rattle.std.proofs.lemmas.Bool.{and_from, cond-true}
use Rattle.au_base.specs.declared.limits.Limit.{Limit}
use Rattle.au_base.specs.declared.places.Pos.{Pos}
use Rattle.au_base.specs.declared.tokens.Keyword.TheVariants.{KwSkip, KwLet, KwVar, KwIf, KwCase, KwWhile}
use Rattle.au_base.specs.declared.tokens.Keyword.TheVariants.{KwFor, KwBorrow, KwAs, KwReturn}
use Rattle.au_base.specs.declared.tokens.Sign.TheVariants.{Assign, Arrow, LeftParenthesis, LeftBrace, Colon}
use Rattle.au_base.specs.declared.tokens.Sign.TheVariants.{Dot, Exclamation}
use Rattle.au_base.specs.declared.tokens.Token.{Token}
use Rattle.au_base.specs.declared.tokens.What.{What}
use Rattle.au_base.specs.declared.tokens.What.TheVariants.{Word, Sign, Name}
use Rattle.au_base.proofs.BoolLemmas.{cond_cases}
use Rattle.au_syntax.specs.declared.statements.Binding.TheVariants.{Let, Var}
use Rattle.au_syntax.specs.declared.types.Access.TheVariants as access
use Rattle.au_syntax.specs.Depths.{statement_depth, block_depth}
use Rattle.au_syntax.specs.Expressions.{call, named_call}
use Rattle.au_syntax.specs.Forms.{formed_statement, formed_block}
use Rattle.au_syntax.specs.Plain.{PlainExpression, PlainStatement, PlainStatements, PlainBranches, PlainArms}
use Rattle.au_syntax.specs.Sizes.{statement_types, block_types}
use Rattle.au_syntax.specs.Statements.{skip, declare, destructure, assign, assign_through, conditional}
use Rattle.au_syntax.specs.Statements.{conditional_else, case_of, while_loop, for_loop, borrow_in}
use Rattle.au_syntax.specs.Statements.{borrow_typed, discard, return_of, no_statements, statements}
use Rattle.au_syntax.specs.Statements.{no_branches, branches}
use Rattle.au_syntax.specs.Words.{Words, expression_words, statement_words, block_words}
use Rattle.au_read_expressions.specs.declared.faults.Fault.TheVariants.{Passed}
use Rattle.au_read_expressions.specs.Bounds.{Bounds, nesting_limit}
use Rattle.au_read_expressions.specs.Reading.{Read, front, no, repeated}
use Rattle.au_read_expressions.specs.Spelling.{Begins}
use Rattle.au_read_expressions.proofs.Steps.{given, not_read}
use Rattle.au_read_expressions.proofs.Begins.{first_word, front_of}
use Rattle.au_read_expressions.proofs.Forms.{Sound, Finds, Reads, anything, shaped_reads}
use Rattle.au_read_expressions.proofs.Limits.{beside_fit, beside_passes}
use Rattle.au_read_expressions.proofs.ListForms.{AllFit, OnePasses, repeated_form, repeated_reads}
use Rattle.au_read_expressions.specs.ExpressionReading.{expression_at, call_at}
use Rattle.au_read_statements.specs.StatementReading.{begins_statement, ends_block, statements_of}
use Rattle.au_read_statements.specs.StatementReading.{conditional_with, case_with, let_by, named_by}
use Rattle.au_read_statements.specs.StatementReading.{borrow_by, statement_by, statement_with, block_with}
use Rattle.au_read_statements.specs.StatementReading.{statement_at, block_at}
use Rattle.au_read_statements.proofs.Lower.{Lower}
use Rattle.au_read_statements.proofs.StatementForm.{statement_form, block_form, Inside, on_second}
use Rattle.au_read_statements.proofs.FirstWords.{statement_some, statement_begins}
use Rattle.au_read_statements.proofs.PlainRows.{skip_row, declare_row, destructure_row, assign_row}
use Rattle.au_read_statements.proofs.PlainRows.{assign_through_row, discard_row, return_row}
use Rattle.au_read_statements.proofs.BlockRows.{arms_in, arms_back, case_row, while_row, for_row}
use Rattle.au_read_statements.proofs.BlockRows.{borrow_in_row, borrow_typed_row}
use Rattle.au_read_statements.proofs.ConditionalRow.{branches_in, branches_back, conditional_row}

-- the second and third words
second_of : (ws : Words) (ts rest : List Token) → 1 < length ws → Begins ws ts rest →
    front (drop 1 ts) ≡ first_word (drop 1 ws)
second_of [] ts rest more h = absurd (let wrong : ⊥ = omega (arith, more) in wrong)
second_of (w ∷ ws) [] rest more h = absurd h
second_of (w ∷ ws) (t ∷ ts) rest more h = front_of ws ts rest (omega (arith, more)) h.1

third_of : (ws : Words) (ts rest : List Token) → 2 < length ws → Begins ws ts rest →
    front (drop 2 ts) ≡ first_word (drop 2 ws)
third_of [] ts rest more h = absurd (let wrong : ⊥ = omega (arith, more) in wrong)
third_of (w ∷ ws) [] rest more h = absurd h
third_of (w ∷ ws) (t ∷ ts) rest more h = second_of ws ts rest (omega (arith, more)) h.1

module _ (b : Bounds) (n : ℕ) (inner calls : List Token → Read PlainExpression)
    (blocks : List Token → Read PlainStatements) (inside : Inside b n inner calls blocks)
    (whole : (e : PlainExpression) → 0 < length (expression_words e)) where
  -- ---- what is read is spelled so, by the first tokens

  let_sound : (w : Option What) (ts rest : List Token) (s : PlainStatement) → let_by b inner calls blocks w ts
      ≡ Ok (s, rest) → Sound (statement_form b (suc n)) s ts rest
  let_sound (Some (Sign LeftBrace)) ts rest s e = (destructure_row b n inner calls blocks inside).sound ts rest s e
  let_sound other ts rest s e = (declare_row b n inner calls blocks inside Let).sound ts rest s e

  named_sound : (w : Option What) (ts rest : List Token) (s : PlainStatement) →
      named_by b inner calls blocks w ts ≡ Ok (s, rest) → Sound (statement_form b (suc n)) s ts rest
  named_sound (Some (Sign LeftParenthesis)) ts rest s e =
      (discard_row b n inner calls blocks inside whole).sound ts rest s e
  named_sound (Some (Sign Arrow)) ts rest s e = (assign_through_row b n inner calls blocks inside).sound ts rest s e
  named_sound other ts rest s e = (assign_row b n inner calls blocks inside).sound ts rest s e

  borrow_sound : (w v : Option What) (ts rest : List Token) (s : PlainStatement) →
      borrow_by b inner calls blocks w v ts ≡ Ok (s, rest) → Sound (statement_form b (suc n)) s ts rest
  borrow_sound (Some (Sign Exclamation)) v ts rest s e =
      (borrow_in_row b n inner calls blocks inside access.Write).sound ts rest s e
  borrow_sound other (Some (Sign Colon)) ts rest s e = (borrow_typed_row b n inner calls blocks inside).sound
      ts rest s e
  borrow_sound other v ts rest s e = (borrow_in_row b n inner calls blocks inside access.Read).sound ts rest s e

  by_sound : (w : Option What) (ts rest : List Token) (s : PlainStatement) →
      statement_by b inner calls blocks w ts ≡ Ok (s, rest) → Sound (statement_form b (suc n)) s ts rest
  by_sound (Some (Word KwSkip)) ts rest s e = (skip_row b n inner calls blocks inside).sound ts rest s e
  by_sound (Some (Word KwLet)) ts rest s e = let_sound (front (drop 1 ts)) ts rest s e
  by_sound (Some (Word KwVar)) ts rest s e = (declare_row b n inner calls blocks inside Var).sound ts rest s e
  by_sound (Some (Word KwIf)) ts rest s e = (conditional_row b n inner calls blocks inside).sound ts rest s e
  by_sound (Some (Word KwCase)) ts rest s e = (case_row b n inner calls blocks inside).sound ts rest s e
  by_sound (Some (Word KwWhile)) ts rest s e = (while_row b n inner calls blocks inside).sound ts rest s e
  by_sound (Some (Word KwFor)) ts rest s e = (for_row b n inner calls blocks inside).sound ts rest s e
  by_sound (Some (Word KwBorrow)) ts rest s e = borrow_sound (front (drop 1 ts)) (front (drop 2 ts)) ts rest s e
  by_sound (Some (Word KwReturn)) ts rest s e = (return_row b n inner calls blocks inside).sound ts rest s e
  by_sound (Some (Name bytes)) ts rest s e = named_sound (front (drop 1 ts)) ts rest s e
  by_sound other ts rest s e = absurd (not_read _ (s, rest) e)

  -- ---- what is spelled so is read, by the first tokens

  abbrev Found : PlainStatement → List Token → Read PlainStatement → Type 0
  Found s rest read = Finds (statement_form b (suc n)) s rest read

  by_first : (s : PlainStatement) (ts rest : List Token) (w : What) → front ts ≡ Some w →
      Found s rest (statement_by b inner calls blocks (Some w) ts) →
      Found s rest (statement_by b inner calls blocks (front ts) ts)
  by_first s ts rest w is = subst (λ v. Found s rest (statement_by b inner calls blocks v ts)) (sym is)

  let_found : (s : PlainStatement) (ts rest : List Token) (w v : What) → front ts ≡ Some w →
      Some w ≡ Some (Word KwLet) → front (drop 1 ts) ≡ Some v →
      Found s rest (let_by b inner calls blocks (Some v) ts)
      → Found s rest (statement_by b inner calls blocks (front ts) ts)
  let_found s ts rest w v first is second here =
      by_first s ts rest (Word KwLet) (first ∙ is)
      (subst (λ x. Found s rest (let_by b inner calls blocks x ts)) (sym second) here)

  named_found : (s : PlainStatement) (ts rest : List Token) (bytes : List ℕ) (v : What) →
      front ts ≡ Some (Name bytes) → front (drop 1 ts) ≡ Some v →
      Found s rest (named_by b inner calls blocks (Some v) ts)
      → Found s rest (statement_by b inner calls blocks (front ts) ts)
  named_found s ts rest bytes v first second here =
      by_first s ts rest (Name bytes) first
      (subst (λ x. Found s rest (named_by b inner calls blocks x ts)) (sym second) here)

  borrow_found : (s : PlainStatement) (ts rest : List Token) (v u : What) → front ts ≡ Some (Word KwBorrow) →
      front (drop 1 ts) ≡ Some v → front (drop 2 ts) ≡ Some u
      → Found s rest (borrow_by b inner calls blocks (Some v) (Some u) ts) →
      Found s rest (statement_by b inner calls blocks (front ts) ts)
  borrow_found s ts rest v u first second third here =
      by_first s ts rest (Word KwBorrow) first
      (subst (λ x. Found s rest (borrow_by b inner calls blocks x (front (drop 2 ts)) ts)) (sym second)
      (subst (λ x. Found s rest (borrow_by b inner calls blocks (Some v) x ts)) (sym third) here))

  conditional_found : (at : Pos) (tests : PlainBranches) (ts rest : List Token) →
      Begins (statement_words (conditional at tests)) ts rest → formed_statement (conditional at tests) ≡ true
      → Found (conditional at tests) rest (conditional_with b inner calls blocks ts)
  conditional_found at tests =
      subst (λ x. (ts rest : List Token) → Begins (statement_words (conditional at x)) ts rest →
      formed_statement (conditional at x) ≡ true →
      Found (conditional at x) rest (conditional_with b inner calls blocks ts))
      (branches_back tests)
      ((conditional_row b n inner calls blocks inside).found at (branches_in tests, None))

  conditional_else_found : (at : Pos) (tests : PlainBranches) (last : PlainStatements) (ts rest : List Token)
      → Begins (statement_words (conditional_else at tests last)) ts rest
      → formed_statement (conditional_else at tests last) ≡ true → Found (conditional_else at tests last) rest
      (conditional_with b inner calls blocks ts)
  conditional_else_found at tests last =
      subst (λ x. (ts rest : List Token) → Begins (statement_words (conditional_else at x last)) ts rest →
      formed_statement (conditional_else at x last) ≡ true
      → Found (conditional_else at x last) rest (conditional_with b inner calls blocks ts))
      (branches_back tests)
      ((conditional_row b n inner calls blocks inside).found at (branches_in tests, Some last))

  case_found : (at : Pos) (e : PlainExpression) (choices : PlainArms) (ts rest : List Token) →
      Begins (statement_words (case_of at e choices)) ts rest → formed_statement (case_of at e choices) ≡ true
      → Found (case_of at e choices) rest (case_with b inner calls blocks ts)
  case_found at e choices =
      subst (λ x. (ts rest : List Token) → Begins (statement_words (case_of at e x)) ts rest →
      formed_statement (case_of at e x) ≡ true →
      Found (case_of at e x) rest (case_with b inner calls blocks ts))
      (arms_back choices)
      ((case_row b n inner calls blocks inside).found at (e, arms_in choices))

  by_found : (s : PlainStatement) (ts rest : List Token) → Begins (statement_words s) ts rest →
      formed_statement s ≡ true → Found s rest (statement_by b inner calls blocks (front ts) ts)
  by_found (skip at) ts rest h good =
      by_first (skip at) ts rest (Word KwSkip) (front_of (statement_words (skip at)) ts rest (omega arith) h)
      ((skip_row b n inner calls blocks inside).found at tt ts rest h good)
  by_found (declare at Let name t e) ts rest h good =
      let ws : Words = statement_words (declare at Let name t e) in
      let_found (declare at Let name t e) ts rest (Word KwLet) (Name name.name)
      (front_of ws ts rest (omega arith) h) refl (second_of ws ts rest (omega arith) h)
      ((declare_row b n inner calls blocks inside Let).found at (name, (t, e)) ts rest h good)
  by_found (declare at Var name t e) ts rest h good =
      by_first (declare at Var name t e) ts rest (Word KwVar)
      (front_of (statement_words (declare at Var name t e)) ts rest (omega arith) h)
      ((declare_row b n inner calls blocks inside Var).found at (name, (t, e)) ts rest h good)
  by_found (destructure at binds e) ts rest h good =
      let ws : Words = statement_words (destructure at binds e) in
      let_found (destructure at binds e) ts rest (Word KwLet) (Sign LeftBrace)
      (front_of ws ts rest (omega arith) h) refl (second_of ws ts rest (omega arith) h)
      ((destructure_row b n inner calls blocks inside).found at (binds, e) ts rest h good)
  by_found (assign at name [] e) ts rest h good =
      let ws : Words = statement_words (assign at name [] e) in
      named_found (assign at name [] e) ts rest name.name (Sign Assign) (front_of ws ts rest (omega arith) h)
      (second_of ws ts rest (omega arith) h)
      ((assign_row b n inner calls blocks inside).found at ((name, []), e) ts rest h good)
  by_found (assign at name (f ∷ fs) e) ts rest h good =
      let ws : Words = statement_words (assign at name (f ∷ fs) e) in
      named_found (assign at name (f ∷ fs) e) ts rest name.name (Sign Dot)
      (front_of ws ts rest (omega arith) h) (second_of ws ts rest (omega arith) h)
      ((assign_row b n inner calls blocks inside).found at ((name, f ∷ fs), e) ts rest h good)
  by_found (assign_through at name fields e) ts rest h good =
      let ws : Words = statement_words (assign_through at name fields e) in
      named_found (assign_through at name fields e) ts rest name.name (Sign Arrow)
      (front_of ws ts rest (omega arith) h) (second_of ws ts rest (omega arith) h)
      ((assign_through_row b n inner calls blocks inside).found at ((name, fields), e) ts rest h good)
  by_found (conditional at no_branches) ts rest h good = absurd (let wrong = good in cc)
  by_found (conditional at (branches e block more)) ts rest h good =
      by_first (conditional at (branches e block more)) ts rest (Word KwIf)
      (front_of (statement_words (conditional at (branches e block more))) ts rest (omega arith) h)
      (conditional_found at (branches e block more) ts rest h good)
  by_found (conditional_else at no_branches last) ts rest h good = absurd (let wrong = good in cc)
  by_found (conditional_else at (branches e block more) last) ts rest h good =
      by_first (conditional_else at (branches e block more) last) ts rest (Word KwIf)
      (front_of (statement_words (conditional_else at (branches e block more) last)) ts rest (omega arith)
      h)
      (conditional_else_found at (branches e block more) last ts rest h good)
  by_found (case_of at e choices) ts rest h good =
      by_first (case_of at e choices) ts rest (Word KwCase)
      (front_of (statement_words (case_of at e choices)) ts rest (omega arith) h)
      (case_found at e choices ts rest h good)
  by_found (while_loop at e block) ts rest h good =
      by_first (while_loop at e block) ts rest (Word KwWhile)
      (front_of (statement_words (while_loop at e block)) ts rest (omega arith) h)
      ((while_row b n inner calls blocks inside).found at (e, block) ts rest h good)
  by_found (for_loop at name a z block) ts rest h good =
      by_first (for_loop at name a z block) ts rest (Word KwFor)
      (front_of (statement_words (for_loop at name a z block)) ts rest (omega arith) h)
      ((for_row b n inner calls blocks inside).found at (name, (a, (z, block))) ts rest h good)
  by_found (borrow_in at access.Read x r region block stop) ts rest h good =
      let ws : Words = statement_words (borrow_in at access.Read x r region block stop) in
      borrow_found (borrow_in at access.Read x r region block stop) ts rest (Name x.name) (Word KwAs)
      (front_of ws ts rest (omega arith) h) (second_of ws ts rest (omega arith) h)
      (third_of ws ts rest (omega arith) h)
      ((borrow_in_row b n inner calls blocks inside access.Read).found at (x, (r, (region, (block, stop)))) ts
      rest h good)
  by_found (borrow_in at access.Write x r region block stop) ts rest h good =
      let ws : Words = statement_words (borrow_in at access.Write x r region block stop) in
      borrow_found (borrow_in at access.Write x r region block stop) ts rest (Sign Exclamation) (Name x.name)
      (front_of ws ts rest (omega arith) h) (second_of ws ts rest (omega arith) h)
      (third_of ws ts rest (omega arith) h)
      ((borrow_in_row b n inner calls blocks inside access.Write).found at (x, (r, (region, (block, stop))))
      ts rest h good)
  by_found (borrow_typed at r t mode x block stop) ts rest h good =
      let ws : Words = statement_words (borrow_typed at r t mode x block stop) in
      borrow_found (borrow_typed at r t mode x block stop) ts rest (Name r.name) (Sign Colon)
      (front_of ws ts rest (omega arith) h) (second_of ws ts rest (omega arith) h)
      (third_of ws ts rest (omega arith) h)
      ((borrow_typed_row b n inner calls blocks inside).found at (r, (t, (mode, (x, (block, stop))))) ts rest h good)
  by_found (discard at (call node name args note)) ts rest h good =
      let ws : Words = statement_words (discard at (call node name args note)) in
      named_found (discard at (call node name args note)) ts rest name.name (Sign LeftParenthesis)
      (front_of ws ts rest (omega arith) h) (second_of ws ts rest (omega arith) h)
      ((discard_row b n inner calls blocks inside whole).found at (call node name args note) ts rest h good)
  by_found (discard at (named_call node name args note)) ts rest h good =
      let ws : Words = statement_words (discard at (named_call node name args note)) in
      named_found (discard at (named_call node name args note)) ts rest name.name (Sign LeftParenthesis)
      (front_of ws ts rest (omega arith) h) (second_of ws ts rest (omega arith) h)
      ((discard_row b n inner calls blocks inside whole).found at (named_call node name args note) ts rest h good)
  by_found (discard at other) ts rest h good = absurd (let wrong = good in cc)
  by_found (return_of at e) ts rest h good =
      by_first (return_of at e) ts rest (Word KwReturn)
      (front_of (statement_words (return_of at e)) ts rest (omega arith) h)
      ((return_row b n inner calls blocks inside).found at e ts rest h good)

  pub statement_with_reads : Reads (statement_form b (suc n)) anything (statement_with b inner calls blocks)
  unfolding statement_with
  statement_with_reads = record {
    sound = λ ts rest s e. by_sound (front ts) ts rest s e;
    found = λ s ts rest h good ended. by_found s ts rest h good;
  }

-- ---- blocks

statements_in : PlainStatements → List PlainStatement
statements_in no_statements = []
statements_in (statements s rest) = s ∷ statements_in rest

statements_back : (xs : PlainStatements) → statements_of (statements_in xs) ≡ xs
unfolding statements_in
statements_back no_statements = refl
statements_back (statements s rest) = ap (statements s) (statements_back rest)

block_line : (xs : List PlainStatement) → block_words (statements_of xs) ≡ flat_map statement_words xs
block_line [] = refl
block_line (s ∷ xs) = ap (λ ws. statement_words s ++ ws) (block_line xs)

block_good : (xs : List PlainStatement) → formed_block (statements_of xs) ≡ list_all formed_statement xs
block_good [] = refl
block_good (s ∷ xs) = ap (λ g. formed_statement s && g) (block_good xs)

module _ (b : Bounds) (n : ℕ) where
  block_fits : (xs : List PlainStatement) → AllFit (statement_form b n) xs → (block_form b n).Fits (statements_of xs)
  block_fits [] h = (omega arith, tt)
  block_fits (s ∷ xs) h =
      beside_fit b n (statement_depth s) (block_depth (statements_of xs)) (statement_types s)
      (block_types (statements_of xs)) h.0 (block_fits xs h.1)

  block_passes : (xs : List PlainStatement) (l : Limit) → OnePasses (statement_form b n) xs l →
      (block_form b n).Passes (statements_of xs) l
  block_passes [] l p = absurd p
  block_passes (s ∷ xs) l p =
      beside_passes b n (statement_depth s) (block_depth (statements_of xs)) (statement_types s)
      (block_types (statements_of xs)) l (on_second (block_passes xs l) p)

  module _ (one : List Token → Read PlainStatement) (reads : Reads (statement_form b n) anything one) where
    abbrev ends_list : Option What → Bool
    ends_list what = not (begins_statement what) && anything what

    listed_statements : Reads (repeated_form (statement_form b n)) ends_list (repeated begins_statement one)
    listed_statements = repeated_reads (statement_form b n) anything begins_statement one reads
        statement_begins statement_some (λ what e. refl)

    shaped_block : Reads (block_form b n) ends_list (block_with one)
    shaped_block =
        shaped_reads (repeated_form (statement_form b n)) (block_form b n) ends_list
        (repeated begins_statement one) listed_statements statements_of
        (record {
          words = block_line;
          good_to = λ x g. block_good x ∙ g;
          good_from = λ x g. sym (block_good x) ∙ g;
          fits = block_fits;
          passes = block_passes;
        })
        statements_in statements_back

    pub block_with_reads : Reads (block_form b n) ends_block (block_with one)
    block_with_reads = record {
      sound = shaped_block.sound;
      found = λ y ts rest h good ended. shaped_block.found y ts rest h good
          (and_from (ends_block (front rest)) true ended refl);
    }

-- ---- with so many levels left

statement_deep : (s : PlainStatement) → 0 < statement_depth s
statement_deep (skip at) = omega arith
statement_deep (declare at binding name t e) = omega arith
statement_deep (destructure at binds e) = omega arith
statement_deep (assign at name fields e) = omega arith
statement_deep (assign_through at name fields e) = omega arith
statement_deep (conditional at tests) = omega arith
statement_deep (conditional_else at tests last) = omega arith
statement_deep (case_of at e choices) = omega arith
statement_deep (while_loop at e block) = omega arith
statement_deep (for_loop at name a z block) = omega arith
statement_deep (borrow_in at access x r region block stop) = omega arith
statement_deep (borrow_typed at r t mode x block stop) = omega arith
statement_deep (discard at e) = omega arith
statement_deep (return_of at e) = omega arith

module _ (b : Bounds) where
  none_left_sound : (ts rest : List Token) (s : PlainStatement) → statement_at b zero ts ≡ Ok (s, rest) →
      Sound (statement_form b zero) s ts rest
  unfolding statement_at
  none_left_sound ts rest s e =
      elim (cond_cases (begins_statement (front ts)) (Err (Passed (nesting_limit b) (length ts))) (no ts)
      (given (s, rest)) e) [
        | inl w ↦ absurd (not_read _ (s, rest) w.1)
        | inr w ↦ absurd (not_read _ (s, rest) w.1)
      ]

  none_left_found : (s : PlainStatement) (ts rest : List Token) → Begins (statement_words s) ts rest →
      formed_statement s ≡ true → Finds (statement_form b zero) s rest (statement_at b zero ts)
  unfolding statement_at
  none_left_found s ts rest h good =
      inr (
        nesting_limit b,
        length ts,
        cond-true (begins_statement (front ts))
            (Err (Passed (nesting_limit b) (length ts))) (no ts) (statement_begins s ts rest h good),
        inl (statement_deep s, refl),
      )

  module _ (lower : Lower b) where
    pub statement_reads : (n : ℕ) → Reads (statement_form b n) anything (statement_at b n)
    unfolding statement_at
    statement_reads zero = record {
      sound = none_left_sound;
      found = λ s ts rest h good ended. none_left_found
          s ts rest h good;
    }
    statement_reads (suc n) =
        statement_with_reads b n (expression_at b n) (call_at b n) (block_with (statement_at b n))
        (record {
          types = lower.types;
          expressions = lower.expressions n;
          called = lower.calls n;
          nested = block_with_reads b n (statement_at b n) (statement_reads n);
        })
        lower.expression_some

    pub block_reads : (n : ℕ) → Reads (block_form b n) ends_block (block_at b n)
    unfolding block_at
    block_reads n = block_with_reads b n (statement_at b n) (statement_reads n)
