-- The rows of statements that have no block.
use Rattle.std.proofs.Common.{◌≡◌, ℕ, ◌<◌, true, List, [], ◌∷◌, ◌++◌, refl, ap, ◌∙◌, arith, inl, inr, length}
use Rattle.std.proofs.Common.{length-append, map, not, ◌&&◌}
use Rattle.au_base.specs.declared.limits.Limit.{Limit}
use Rattle.au_base.specs.declared.tokens.Keyword.TheVariants.{KwSkip, KwLet, KwReturn}
use Rattle.au_base.specs.declared.tokens.Sign.TheVariants.{Assign, Arrow, LeftBrace, RightBrace, Semicolon}
use Rattle.au_base.specs.declared.tokens.Sign.TheVariants.{Colon, Dot, Comma}
use Rattle.au_base.specs.declared.tokens.Token.{Token}
use Rattle.au_base.specs.declared.tokens.What.TheVariants.{Word, Sign}
use Rattle.std.specs.List.{flat_map, list_all}
use Rattle.std.proofs.lemmas.Bool.{and_parts, and_from}
use Rattle.au_syntax.specs.Names.{Placed}
use Rattle.au_syntax.specs.Types.{Bound}
use Rattle.au_syntax.specs.Forms.{some, formed_expression}
use Rattle.au_syntax.specs.declared.statements.Binding.{Binding}
use Rattle.au_syntax.specs.Depths.{expression_depth}
use Rattle.au_syntax.specs.Sizes.{expression_types, bound_types}
use Rattle.au_syntax.specs.Plain.{Bytes, PlainExpression, PlainStatements}
use Rattle.au_syntax.specs.Words.{word, mark, begun, listed, dotted, name_words, type_words, bound_words}
use Rattle.au_syntax.specs.Words.{expression_words, binding_word}
use Rattle.au_read_expressions.specs.Bounds.{Bounds}
use Rattle.au_read_expressions.specs.Reading.{Read, is_front, name_at, fields_at, exactly, behind_tokens, closed}
use Rattle.au_read_expressions.specs.Spelling.{fixed}
use Rattle.au_read_expressions.proofs.Forms.{Form, Reads, anything, light, behind_form, behind_reads}
use Rattle.au_read_expressions.proofs.Forms.{closed_form, closed_reads, pair_after, pair_behind}
use Rattle.au_read_expressions.proofs.Limits.{one_fits, one_passes, types_fit_before, types_pass_before}
use Rattle.au_read_expressions.proofs.ListForms.{OnePasses, repeated_form, separated_reads}
use Rattle.au_read_expressions.proofs.Single.{name_form, name_reads, exactly_reads, dotted_reads, fields_reads}
use Rattle.au_read_expressions.specs.TypeReading.{ends_type}
use Rattle.au_read_expressions.specs.ExpressionReading.{ends_expression}
use Rattle.au_read_statements.specs.StatementReading.{bound_at, destructure_of, destructure_with, assign_of}
use Rattle.au_read_statements.specs.StatementReading.{assign_with, assign_through_of, assign_through_with}
use Rattle.au_read_statements.specs.StatementReading.{discard_of, discard_with, declare_of, declare_with}
use Rattle.au_read_statements.specs.StatementReading.{skip_of, skip_at, return_of_part, return_with}
use Rattle.au_read_expressions.proofs.ExpressionForm.{expression_form}
use Rattle.au_read_expressions.proofs.LeafLaws.{no_name_passes}
use Rattle.au_read_statements.proofs.Nesting.{nest_4, nest_5, nest_6}
use Rattle.au_read_statements.proofs.PartForms.{not_first, bound_form, bound_some, bound_reads}
use Rattle.au_read_statements.proofs.StatementForm.{Inside, Row, row_of, type_fits_before, type_passes_before}
use Rattle.au_read_statements.proofs.StatementForm.{bounds_fit, bounds_pass, all_good, on_first}

module _ (b : Bounds) (n : ℕ) (inner calls : List Token → Read PlainExpression)
    (blocks : List Token → Read PlainStatements) (inside : Inside b n inner calls blocks) where
  -- ---- `skip;`

  pub skip_row : Row b n skip_of (skip_at b inner calls blocks)
  unfolding skip_at
  skip_row =
      row_of b n (light (λ (x : Unit {0}). fixed (Word KwSkip ∷ Sign Semicolon ∷ [])))
      (exactly (Word KwSkip ∷ Sign Semicolon ∷ [])) (exactly_reads (Word KwSkip ∷ Sign Semicolon ∷ []))
      skip_of
      (record {
        words = λ at x. refl;
        some = λ x. omega arith;
        good_to = λ at x g. refl;
        good_from = λ at x g. refl;
        fits = λ at x h. (omega arith, tt);
        passes = λ at x l p. absurd p;
      })

  -- ---- an expression and a semicolon

  abbrev pub ended_form : Form PlainExpression
  ended_form = closed_form (expression_form b n) (Sign Semicolon ∷ [])

  ended : Reads ended_form anything (closed (Sign Semicolon ∷ []) inner)
  ended = closed_reads (expression_form b n) ends_expression inner inside.expressions (Sign Semicolon) [] refl

  pub return_row : Row b n return_of_part (return_with b inner calls blocks)
  unfolding return_with
  return_row =
      row_of b n (behind_form ended_form (Word KwReturn ∷ []))
      (behind_tokens (Word KwReturn ∷ []) (closed (Sign Semicolon ∷ []) inner))
      (behind_reads ended_form anything (closed (Sign Semicolon ∷ []) inner) ended (Word KwReturn ∷ [])) return_of_part
      (record {
        words = λ at x. refl;
        some = λ x. omega arith;
        good_to = λ at x g. g;
        good_from = λ at x g. g;
        fits = λ at x h. one_fits b n (expression_depth x) (expression_types x) h;
        passes = λ at x l p. one_passes b n (expression_depth x) (expression_types x) l p;
      })

  -- ---- `let NAME: TYPE := EXPRESSION;`

  pub declare_row : (binding : Binding) →
      Row b n (declare_of binding) (declare_with b inner calls blocks (binding_word binding) binding)
  unfolding declare_with
  declare_row binding =
      let typed = pair_behind _ _ _ _ _ inside.types _ ended (Sign Assign) [] refl in
      let named = pair_behind _ _ _ _ _ name_reads _ typed (Sign Colon) [] refl in
      row_of b n _ _ (behind_reads _ _ _ named (Word (binding_word binding) ∷ [])) (declare_of binding)
      (record {
        words = λ at x. ap (begun at) (nest_5 (word (binding_word binding) ++ name_words x.0 ++ mark Colon)
            (type_words x.1.0) (mark Assign) (expression_words x.1.1) (mark Semicolon));
        some = λ x. omega arith;
        good_to = λ at x g. g;
        good_from = λ at x g. g;
        fits = λ at x h. one_fits b n (expression_depth x.1.1) (x.1.0 ∷ expression_types x.1.1)
            (type_fits_before b n (expression_depth x.1.1) x.1.0 (expression_types x.1.1) h.1.0 h.1.1);
        passes = λ at x l p. one_passes b n (expression_depth x.1.1) (x.1.0 ∷ expression_types x.1.1) l
            (type_passes_before b n (expression_depth x.1.1) x.1.0 (expression_types x.1.1) l (not_first p));
      })

  -- ---- `let { .. } := EXPRESSION;`

  pub destructure_row : Row b n destructure_of (destructure_with b inner calls blocks)
  unfolding destructure_with
  destructure_row =
      let list = separated_reads (bound_form b) ends_type (bound_at b) (bound_reads b inside.types)
      (bound_some b) (Sign Comma) refl in
      let parts = pair_behind _ _ _ _ _ list _ ended (Sign RightBrace) (Sign Assign ∷ []) refl in
      row_of b n _ _ (behind_reads _ _ _ parts (Word KwLet ∷ Sign LeftBrace ∷ [])) destructure_of
      (record {
        words = λ at x. ap (begun at) (nest_6 (word KwLet ++ mark LeftBrace) (listed (map bound_words x.0))
            (mark RightBrace) (mark Assign) (expression_words x.1) (mark Semicolon));
        some = λ x. omega arith;
        good_to = λ at x g. let p = and_parts (some x.0 && list_all (λ (y : Bound Bytes). true) x.0)
            (formed_expression x.1) g in and_from (some x.0) (formed_expression x.1)
            (and_parts (some x.0) (list_all (λ (y : Bound Bytes). true) x.0) p.0).0 p.1;
        good_from = λ at x g. let p = and_parts (some x.0) (formed_expression x.1) g
            in and_from (some x.0 && list_all (λ (y : Bound Bytes). true) x.0) (formed_expression x.1)
            (and_from (some x.0) (list_all (λ (y : Bound Bytes). true) x.0) p.0 (all_good x.0)) p.1;
        fits = λ at x h. one_fits b n (expression_depth x.1) (bound_types x.0 ++ expression_types x.1)
            (types_fit_before b n (expression_depth x.1) (bound_types x.0) (expression_types x.1)
            (bounds_fit b x.0 h.0) h.1);
        passes = λ at x l p. one_passes b n (expression_depth x.1) (bound_types x.0 ++ expression_types x.1) l
            (types_pass_before b n (expression_depth x.1) (bound_types x.0) (expression_types x.1) l
            (on_first (bounds_pass b x.0 l) p));
      })

  -- ---- `NAME.FIELD := EXPRESSION;`

  -- names pass no limit
  no_field_passes : (xs : List (Placed Bytes)) (l : Limit) → OnePasses (behind_form name_form (Sign Dot ∷ [])) xs l → ⊥
  no_field_passes [] l p = p
  no_field_passes (x ∷ xs) l p = elim p [ inl q ↦ q | inr q ↦ no_field_passes xs l q ]

  fields_line : (xs : List (Placed Bytes)) → flat_map (λ one. mark Dot ++ one) (map name_words xs)
      ≡ flat_map (λ x. fixed (Sign Dot ∷ []) ++ name_words x) xs
  fields_line [] = refl
  fields_line (x ∷ xs) = ap (λ ws. mark Dot ++ name_words x ++ ws) (fields_line xs)

  pub assign_row : Row b n assign_of (assign_with b inner calls blocks)
  unfolding assign_with
  assign_row =
      let path = pair_after name_form (repeated_form (behind_form name_form (Sign Dot ∷ []))) anything
      (λ what. not (is_front (Sign Dot) what) && true) name_at name_reads fields_at fields_reads
      (λ what. refl) in
      let parts = pair_behind _ _ _ _ _ path _ ended (Sign Assign) [] refl in
      row_of b n _ _ parts assign_of
      (record {
        words = λ at x.
            ap (λ ws. begun at (name_words x.0.0 ++ ws ++ mark Assign ++ expression_words x.1
            ++ mark Semicolon)) (fields_line x.0.1)
            ∙ ap (begun at) (nest_4 (name_words x.0.0 ++ flat_map (λ y. fixed (Sign Dot ∷ []) ++ name_words y)
            x.0.1) (mark Assign) (expression_words x.1) (mark Semicolon));
        some = λ x. omega arith;
        good_to = λ at x g. (and_parts (list_all (λ (y : Placed Bytes). true) x.0.1) (formed_expression x.1) g).1;
        good_from = λ at x g. and_from (list_all (λ (y : Placed Bytes). true) x.0.1) (formed_expression x.1)
            (all_good x.0.1) g;
        fits = λ at x h. one_fits b n (expression_depth x.1) (expression_types x.1) h.1;
        passes = λ at x l p. one_passes b n (expression_depth x.1) (expression_types x.1) l
            (elim p [ inl q ↦ absurd (no_field_passes x.0.1 l (not_first q)) | inr q ↦ q ]);
      })

  -- ---- `NAME->FIELD := EXPRESSION;`

  pub assign_through_row : Row b n assign_through_of (assign_through_with b inner calls blocks)
  unfolding assign_through_with
  assign_through_row =
      let path = pair_behind _ _ _ _ _ name_reads _ dotted_reads (Sign Arrow) [] refl in
      let parts = pair_behind _ _ _ _ _ path _ ended (Sign Assign) [] refl in
      row_of b n _ _ parts assign_through_of
      (record {
        words = λ at x. ap (begun at) (nest_5 (name_words x.0.0 ++ mark Arrow) (dotted x.0.1) (mark Assign)
            (expression_words x.1) (mark Semicolon));
        some = λ x. omega arith;
        good_to = λ at x g. let p = and_parts (some x.0.1 && list_all (λ (y : Placed Bytes). true) x.0.1)
            (formed_expression x.1) g in and_from (some x.0.1) (formed_expression x.1)
            (and_parts (some x.0.1) (list_all (λ (y : Placed Bytes). true) x.0.1) p.0).0 p.1;
        good_from = λ at x g. let p = and_parts (some x.0.1) (formed_expression x.1) g
            in and_from (some x.0.1 && list_all (λ (y : Placed Bytes). true) x.0.1) (formed_expression x.1)
            (and_from (some x.0.1) (list_all (λ (y : Placed Bytes). true) x.0.1) p.0 (all_good x.0.1)) p.1;
        fits = λ at x h. one_fits b n (expression_depth x.1) (expression_types x.1) h.1;
        passes = λ at x l p. one_passes b n (expression_depth x.1) (expression_types x.1) l
            (elim p [ inl q ↦ absurd (no_name_passes x.0.1 l (not_first q)) | inr q ↦ q ]);
      })

  -- ---- `CALL;`

  pub discard_row : ((e : PlainExpression) → 0 < length (expression_words e)) →
      Row b n discard_of (discard_with b inner calls blocks)
  unfolding discard_with
  discard_row whole =
      row_of b n _ _ (closed_reads _ _ _ inside.called (Sign Semicolon) [] refl) discard_of
      (record {
        words = λ at x. refl;
        some = λ x. omega (arith, whole x, length-append (expression_words x) (mark Semicolon));
        good_to = λ at x g. g;
        good_from = λ at x g. g;
        fits = λ at x h. one_fits b n (expression_depth x) (expression_types x) h;
        passes = λ at x l p. one_passes b n (expression_depth x) (expression_types x) l p;
      })
