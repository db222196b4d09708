-- The row of conditionals.
use Rattle.std.proofs.Common.{◌≡◌, ℕ, suc, Bool, true, not, ◌&&◌, List, [], ◌∷◌, ◌++◌, map, Option, Some}
use Rattle.std.proofs.Common.{None, refl, sym, ap, ap₂, ◌∙◌, arith, inl, inr, ◌⊎◌, append-nil, length-append}
use Rattle.std.specs.List.{list_all}
use Rattle.std.proofs.lemmas.Bool.{and_parts, and_from}
use Rattle.au_base.specs.declared.limits.Limit.{Limit}
use Rattle.au_base.specs.declared.places.Pos.{Pos}
use Rattle.au_base.specs.declared.tokens.Keyword.TheVariants.{KwIf, KwThen, KwElse, KwEnd}
use Rattle.au_base.specs.declared.tokens.Sign.TheVariants.{Semicolon}
use Rattle.au_base.specs.declared.tokens.Token.{Token}
use Rattle.au_base.specs.declared.tokens.What.TheVariants.{Word, Sign}
use Rattle.au_syntax.specs.Depths.{expression_depth, block_depth, branches_depth}
use Rattle.au_syntax.specs.Forms.{begins_with_if, some_branches, formed_expression, formed_block}
use Rattle.au_syntax.specs.Forms.{formed_branches, formed_statement}
use Rattle.au_syntax.specs.Plain.{PlainExpression, PlainStatements, PlainBranches}
use Rattle.au_syntax.specs.Sizes.{expression_types, block_types, branches_types}
use Rattle.au_syntax.specs.Statements.{no_branches, branches}
use Rattle.au_syntax.specs.Words.{Words, word, mark, begun, separated, expression_words, block_words}
use Rattle.au_syntax.specs.Words.{words_of_branches, statement_words}
use Rattle.au_read_expressions.specs.Bounds.{Bounds, TreePasses}
use Rattle.au_read_expressions.specs.Reading.{Read}
use Rattle.au_read_expressions.specs.Spelling.{fixed}
use Rattle.au_read_expressions.proofs.Forms.{closed_form, closed_reads}
use Rattle.au_read_expressions.proofs.Limits.{TreeFits, one_fits, one_passes, two_fit, two_pass}
use Rattle.au_read_expressions.proofs.ListForms.{AllFit, OnePasses}
use Rattle.au_read_statements.specs.StatementReading.{branches_of, conditional_by, conditional_of, conditional_with}
use Rattle.au_read_statements.proofs.Nesting.{nest_3, nest_4}
use Rattle.au_read_statements.proofs.PartForms.{not_second}
use Rattle.au_read_statements.proofs.StatementForm.{statement_form, Inside, Row, row_of, on_first, on_second}
use Rattle.au_read_statements.proofs.StatementForm.{three_fit, three_pass}
use Rattle.au_read_statements.proofs.BranchForms.{branch_form, branches_form, tests_form, tests_reads}

-- ---- branches, as a tree holds them and as a list

pub branches_in : PlainBranches → List (PlainExpression × PlainStatements)
branches_in no_branches = []
branches_in (branches e block rest) = (e, block) ∷ branches_in rest

pub branches_back : (xs : PlainBranches) → branches_of (branches_in xs) ≡ xs
unfolding branches_in
branches_back no_branches = refl
branches_back (branches e block rest) = ap (branches e block) (branches_back rest)

module _ (b : Bounds) (n : ℕ) where
  tests_line : (xs : List (PlainExpression × PlainStatements)) → words_of_branches (branches_of xs)
      ≡ map (branch_form b n).words xs
  tests_line [] = refl
  tests_line (x ∷ xs) = ap₂ (λ one all. one ∷ all)
      (nest_4 (word KwIf) (expression_words x.0) (word KwThen) (block_words x.1)) (tests_line xs)

  all_formed : (xs : List (PlainExpression × PlainStatements)) → formed_branches (branches_of xs)
      ≡ list_all (branch_form b n).good xs
  all_formed [] = refl
  all_formed (x ∷ xs) = ap (λ g. formed_expression x.0 && formed_block x.1 && g) (all_formed xs)

  tests_good : (xs : List (PlainExpression × PlainStatements)) →
      (some_branches (branches_of xs) && formed_branches (branches_of xs)) ≡ (branches_form b n).good xs
  tests_good [] = refl
  tests_good (x ∷ xs) = all_formed (x ∷ xs)

  tests_fit : (xs : List (PlainExpression × PlainStatements)) → AllFit (branch_form b n) xs →
      TreeFits b n (branches_depth (branches_of xs)) (branches_types (branches_of xs))
  tests_fit [] h = (omega arith, tt)
  tests_fit (x ∷ xs) h =
      three_fit b n (expression_depth x.0) (block_depth x.1) (branches_depth (branches_of xs))
      (expression_types x.0) (block_types x.1) (branches_types (branches_of xs)) h.0.0 h.0.1
      (tests_fit xs h.1)

  either : {P Q R : Type 0} → (P ⊎ Q) ⊎ R → P ⊎ (Q ⊎ R)
  either p =
      elim p [
        | inl q ↦ elim q [ inl r ↦ inl r | inr r ↦ inr (inl r) ]
        | inr q ↦ inr (inr q)
      ]

  tests_pass : (xs : List (PlainExpression × PlainStatements)) (l : Limit) →
      OnePasses (branch_form b n) xs l → TreePasses b n (branches_depth (branches_of xs))
      (branches_types (branches_of xs)) l
  tests_pass [] l p = absurd p
  tests_pass (x ∷ xs) l p =
      three_pass b n (expression_depth x.0) (block_depth x.1) (branches_depth (branches_of xs))
      (expression_types x.0) (block_types x.1) (branches_types (branches_of xs)) l
      (either (on_second (tests_pass xs l) p))

  abbrev stopped : Words
  stopped = fixed (Word KwEnd ∷ Word KwIf ∷ Sign Semicolon ∷ [])

  conditional_line : (at : Pos) (xs : List (PlainExpression × PlainStatements)) (last : Option PlainStatements)
      → statement_words (conditional_by at xs last) ≡ begun at ((tests_form b n).words (xs, last) ++ stopped)
  conditional_line at xs None =
      let all : Words = (branches_form b n).words xs in
      ap (λ ws. begun at (separated (word KwElse) ws ++ word KwEnd ++ word KwIf ++ mark Semicolon)) (tests_line xs)
      ∙ ap (begun at) (nest_4 all (word KwEnd) (word KwIf) (mark Semicolon))
      ∙ ap (λ ws. begun at (ws ++ stopped)) (sym (append-nil all))
  conditional_line at xs (Some block) =
      let all : Words = (branches_form b n).words xs in
      ap (λ ws. begun at (separated (word KwElse) ws ++ word KwElse ++ block_words block ++ word KwEnd
      ++ word KwIf ++ mark Semicolon)) (tests_line xs)
      ∙ ap (begun at) (nest_4 (all ++ word KwElse ++ block_words block) (word KwEnd) (word KwIf) (mark Semicolon))
      ∙ ap (λ ws. begun at (ws ++ stopped)) (nest_3 all (word KwElse) (block_words block))

  conditional_good : (at : Pos) (xs : List (PlainExpression × PlainStatements))
      (last : Option PlainStatements) → (tests_form b n).good (xs, last) ≡ true →
      formed_statement (conditional_by at xs last) ≡ true
  conditional_good at xs None g = tests_good xs ∙ (and_parts ((branches_form b n).good xs) true g).0
  conditional_good at xs (Some block) g =
      let p = and_parts ((branches_form b n).good xs) (not (begins_with_if block) && formed_block block) g in
      let q = and_parts (not (begins_with_if block)) (formed_block block) p.1 in
      let all : Bool = some_branches (branches_of xs) && formed_branches (branches_of xs) in
      and_from (all && not (begins_with_if block)) (formed_block block)
      (and_from all (not (begins_with_if block)) (tests_good xs ∙ p.0) q.0) q.1

  conditional_formed : (at : Pos) (xs : List (PlainExpression × PlainStatements))
      (last : Option PlainStatements) → formed_statement (conditional_by at xs last) ≡ true →
      (tests_form b n).good (xs, last) ≡ true
  conditional_formed at xs None g = and_from ((branches_form b n).good xs) true (sym (tests_good xs) ∙ g) refl
  conditional_formed at xs (Some block) g =
      let all : Bool = some_branches (branches_of xs) && formed_branches (branches_of xs) in
      let p = and_parts (all && not (begins_with_if block)) (formed_block block) g in
      let q = and_parts all (not (begins_with_if block)) p.0 in
      and_from ((branches_form b n).good xs) (not (begins_with_if block) && formed_block block)
      (sym (tests_good xs) ∙ q.0) (and_from (not (begins_with_if block)) (formed_block block) q.1 p.1)

  conditional_fits : (at : Pos) (xs : List (PlainExpression × PlainStatements))
      (last : Option PlainStatements) → (tests_form b n).Fits (xs, last) →
      (statement_form b (suc n)).Fits (conditional_by at xs last)
  conditional_fits at xs None h = one_fits b n (branches_depth (branches_of xs))
      (branches_types (branches_of xs)) (tests_fit xs h.0)
  conditional_fits at xs (Some block) h =
      two_fit b n (branches_depth (branches_of xs)) (block_depth block) (branches_types (branches_of xs))
      (block_types block) (tests_fit xs h.0) h.1

  conditional_passes : (at : Pos) (xs : List (PlainExpression × PlainStatements))
      (last : Option PlainStatements) (l : Limit) → (tests_form b n).Passes (xs, last) l →
      (statement_form b (suc n)).Passes (conditional_by at xs last) l
  conditional_passes at xs None l p = one_passes b n (branches_depth (branches_of xs))
      (branches_types (branches_of xs)) l (tests_pass xs l (not_second p))
  conditional_passes at xs (Some block) l p =
      two_pass b n (branches_depth (branches_of xs)) (block_depth block) (branches_types (branches_of xs))
      (block_types block) l (on_first (tests_pass xs l) p)

module _ (b : Bounds) (n : ℕ) (inner calls : List Token → Read PlainExpression)
    (blocks : List Token → Read PlainStatements) (inside : Inside b n inner calls blocks) where
  pub conditional_row : Row b n conditional_of (conditional_with b inner calls blocks)
  unfolding conditional_with
  conditional_row =
      row_of b n (closed_form (tests_form b n) (Word KwEnd ∷ Word KwIf ∷ Sign Semicolon ∷ [])) _
      (closed_reads _ _ _ (tests_reads b n inner calls blocks inside) (Word KwEnd)
      (Word KwIf ∷ Sign Semicolon ∷ []) refl) conditional_of
      (record {
        words = λ at x. conditional_line b n at x.0 x.1;
        some = λ x. omega (arith, length-append ((tests_form b n).words x) (stopped b n));
        good_to = λ at x g. conditional_good b n at x.0 x.1 g;
        good_from = λ at x g. conditional_formed b n at x.0 x.1 g;
        fits = λ at x h. conditional_fits b n at x.0 x.1 h;
        passes = λ at x l p. conditional_passes b n at x.0 x.1 l p;
      })
