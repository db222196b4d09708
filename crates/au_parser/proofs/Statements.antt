-- What is told of the readers of statements and blocks.
use Rattle.std.proofs.Common.{◌≡◌, ℕ, zero, suc, ◌<◌, Bool, true, false, ◌&&◌, List, [], ◌∷◌, ◌++◌, length}
use Rattle.std.proofs.Common.{map, Option, Some, Ok, Err, refl, sym, ap, ◌∙◌, subst, arith}
use Rattle.std.specs.List.{flat_map, list_all}
use Rattle.std.proofs.lemmas.Bool.{and_parts, and_from}
use Rattle.au_base.specs.declared.places.Pos.{Pos}
use Rattle.au_base.specs.declared.tokens.Keyword.{Keyword}
use Rattle.au_base.specs.declared.tokens.Keyword.TheVariants.{KwSkip, KwLet, KwVar, KwIf, KwCase, KwOf}
use Rattle.au_base.specs.declared.tokens.Keyword.TheVariants.{KwWhen, KwDo, KwWhile, KwFor, KwFrom, KwTo}
use Rattle.au_base.specs.declared.tokens.Keyword.TheVariants.{KwBorrow, KwAs, KwIn, KwReturn, KwEnd, KwThen}
use Rattle.au_base.specs.declared.tokens.Keyword.TheVariants.{KwNil}
use Rattle.au_base.specs.declared.tokens.Sign.TheVariants.{Assign, Arrow, LeftParenthesis, RightParenthesis}
use Rattle.au_base.specs.declared.tokens.Sign.TheVariants.{LeftBrace, RightBrace, Comma, Semicolon, Colon}
use Rattle.au_base.specs.declared.tokens.Sign.TheVariants.{Exclamation}
use Rattle.au_base.specs.declared.tokens.Token.{Token}
use Rattle.au_base.specs.declared.tokens.What.{What}
use Rattle.au_base.specs.declared.tokens.What.TheVariants.{Word, Sign, Name}
use Rattle.au_syntax.specs.declared.statements.Binding.{Binding}
use Rattle.au_syntax.specs.declared.statements.Binding.TheVariants.{Let, Var}
use Rattle.au_syntax.specs.declared.types.Access.TheVariants as access
use Rattle.au_syntax.specs.Forms.{some, formed_expression, formed_block, formed_arms, formed_statement}
use Rattle.au_syntax.specs.Names.{Placed}
use Rattle.au_syntax.specs.Plain.{Bytes, PlainExpression, PlainStatement, PlainStatements}
use Rattle.au_syntax.specs.Statements.{skip}
use Rattle.au_syntax.specs.Types.{WrittenType, Bound, named, no_types}
use Rattle.au_syntax.specs.declared.expressions.BorrowMode.{BorrowMode}
use Rattle.au_syntax.specs.Words.{word, mark, name_words, binding_word}
use Rattle.std.specs.Prelude.{codes}
use Rattle.au_syntax.specs.Expressions as expression
use Rattle.au_syntax.specs.Statements as tree
use Rattle.au_parser.specs.Measures.{Measured, Measures, plains, begun, node, inside, rooted, enclosed}
use Rattle.au_parser.specs.Measures.{bound_measures, statement_measures, block_measures, arm_measures}
use Rattle.au_parser.specs.Passing.{SameMeasure, Agree, of_nesting}
use Rattle.au_read_expressions.specs.Reading.{◌>>=◌, built_at, built, Read, is_front, same_what, name_at}
use Rattle.au_read_expressions.specs.Reading.{behind_tokens, closed, pair, repeated, fields_at}
use Rattle.au_read_expressions.specs.ExpressionReading.{site, arrow_parts, expression_at, call_at}
use Rattle.au_read_expressions.specs.Bounds.{Bounds, nesting_limit}
use Rattle.au_read_expressions.specs.TypeReading.{type_at}
use Rattle.au_read_expressions.specs.TypeStops.{is_name}
use Rattle.au_read_statements.specs.StatementReading.{begins_statement, bound_at, mode_at, ArmParts, arm_of}
use Rattle.au_read_statements.specs.StatementReading.{arms_of, statements_of, skip_of, declare_of}
use Rattle.au_read_statements.specs.StatementReading.{destructure_of, assign_of, assign_through_of}
use Rattle.au_read_statements.specs.StatementReading.{case_of_parts, while_of, for_of, borrow_in_of}
use Rattle.au_read_statements.specs.StatementReading.{borrow_typed_of, discard_of, return_of_part}
use Rattle.au_read_statements.specs.StatementReading.{declare_with, destructure_with, assign_with}
use Rattle.au_read_statements.specs.StatementReading.{assign_through_with, arm_with, arms_with, case_with}
use Rattle.au_read_statements.specs.StatementReading.{while_with, for_with, borrowed_block, borrow_in_with}
use Rattle.au_read_statements.specs.StatementReading.{borrow_typed_with, discard_with, return_with, skip_at}
use Rattle.au_read_statements.specs.StatementReading.{let_by, named_by, borrow_by, statement_by}
use Rattle.au_read_statements.specs.StatementReading.{statement_with, block_with, statement_at, block_at}
use Rattle.au_read_statements.specs.StatementReading.{end_place}
use Rattle.au_parser.proofs.Told.{Passing, Kind, Example, Alike, Agrees, Honest, token_of}
use Rattle.au_parser.proofs.Ways.{honest_past, no_honest, behind_kind, closed_kind, pair_kind}
use Rattle.au_parser.proofs.Ways.{behind_honest, closed_honest, pair_honest, shaped_honest, Builds}
use Rattle.au_parser.proofs.Ways.{built_honest}
use Rattle.au_parser.proofs.FirstTokens.{first_honest, First, Starts, deep_honest, second_honest, Opens}
use Rattle.au_parser.proofs.FirstTokens.{closed_opens, pair_opens, behind_opens, built_opens}
use Rattle.au_parser.proofs.Turns.{turned, turned_honest}
use Rattle.au_parser.proofs.Lists.{separated_honest, repeated_kind, repeated_honest, bracketed_honest}
use Rattle.au_parser.proofs.Single.{name_kind, name_honest, name_opens, exactly_kind, exactly_honest}
use Rattle.au_parser.proofs.Single.{dotted_kind, dotted_honest, fields_kind, fields_honest, a_name}
use Rattle.au_parser.proofs.Levels.{passing, inside_turns, node_turns}
use Rattle.au_parser.proofs.TypeReaders.{type_kind, type_honest}
use Rattle.au_parser.proofs.ExpressionKinds.{expression_kind, call_kind, inner_kind, path_kind}
use Rattle.au_parser.proofs.ExpressionKinds.{path_honest, arrow_kind, arrow_honest, path_line}
use Rattle.au_parser.proofs.ExpressionKinds.{arrow_line, level_one}
use Rattle.au_parser.proofs.ExpressionLevels.{levels, call_honest, call_opens}
use Rattle.au_parser.proofs.Rows.{pair_behind, Row, two_alike, third_honest}
use Rattle.au_parser.proofs.StatementParts.{bound_kind, bound_honest, end_kind, end_honest, mode_kind}
use Rattle.au_parser.proofs.StatementParts.{mode_honest}
use Rattle.au_parser.proofs.Conditionals.{statement_kind, block_kind, inner_block, conditional_row}

-- ---- the first words of a statement

pub statement_head : (s : PlainStatement) → formed_statement s ≡ true → First level_one (statement_measures s)
statement_head (tree.skip at) g = (refl, (refl, (refl, (refl, refl))))
statement_head (tree.declare at binding name t e) g = (refl, (refl, (refl, (refl, refl))))
statement_head (tree.destructure at binds e) g = (refl, (refl, (refl, (refl, refl))))
statement_head (tree.assign at name fields e) g = (refl, (refl, (refl, (refl, refl))))
statement_head (tree.assign_through at name fields e) g = (refl, (refl, (refl, (refl, refl))))
statement_head (tree.conditional at tree.no_branches) g = absurd (let wrong = g in cc)
statement_head (tree.conditional at (tree.branches e block rest)) g = (refl, (refl, (refl, (refl, refl))))
statement_head (tree.conditional_else at tree.no_branches last) g = absurd (let wrong = g in cc)
statement_head (tree.conditional_else at (tree.branches e block rest) last) g = (refl, (refl, (refl, (refl, refl))))
statement_head (tree.case_of at e rest) g = (refl, (refl, (refl, (refl, refl))))
statement_head (tree.while_loop at e block) g = (refl, (refl, (refl, (refl, refl))))
statement_head (tree.for_loop at name a z block) g = (refl, (refl, (refl, (refl, refl))))
statement_head (tree.borrow_in at access.Read x r region block stop) g = (refl, (refl, (refl, (refl, refl))))
statement_head (tree.borrow_in at access.Write x r region block stop) g = (refl, (refl, (refl, (refl, refl))))
statement_head (tree.borrow_typed at r t mode x block stop) g = (refl, (refl, (refl, (refl, refl))))
statement_head (tree.discard at (expression.call site name args note)) g = (refl, (refl, (refl, (refl, refl))))
statement_head (tree.discard at (expression.named_call site name args note)) g = (refl, (refl, (refl, (refl, refl))))
statement_head (tree.discard at other) g = absurd (let wrong = g in cc)
statement_head (tree.return_of at e) g = (refl, (refl, (refl, (refl, refl))))

some_first : (m : Measured) (a : Measures) → First m a → 0 < length a
some_first m [] h = absurd h
some_first m (w ∷ a) h = omega arith

statement_some : (s : PlainStatement) → formed_statement s ≡ true → 0 < length (statement_measures s)
statement_some s g = some_first level_one (statement_measures s) (statement_head s g)

-- a word that tells of no level
abbrev level_none : Measured
level_none = record { word = level_one.word; level = 0; depth = 0; nodes = 0; bytes = 0; before = 0 }

-- a statement begins, and the second word tells of nothing
abbrev Two : Measures → Type 0
Two [] = ⊥
Two (w ∷ []) = ⊥
Two (w ∷ v ∷ ws) = SameMeasure level_one w × SameMeasure level_none v

same_both : (m w v : Measured) → SameMeasure m w → SameMeasure m v → SameMeasure w v
same_both m w v h k =
    (sym h.0 ∙ k.0, (sym h.1.0 ∙ k.1.0, (sym h.1.1.0 ∙ k.1.1.0, (sym h.1.1.1.0 ∙ k.1.1.1.0, sym h.1.1.1.1 ∙ k.1.1.1.1))))

two_agree : (t u : Token) (a c : Measures) → Two a → Two c → Agree (t ∷ u ∷ []) a c
two_agree t u [] c h k = absurd h
two_agree t u (w ∷ []) c h k = absurd h
two_agree t u (w ∷ v ∷ a) [] h k = absurd k
two_agree t u (w ∷ v ∷ a) (x ∷ []) h k = absurd k
two_agree t u (w ∷ v ∷ a) (x ∷ y ∷ c) h k = (same_both level_one w x h.0 k.0, (same_both level_none v y h.1 k.1, tt))

-- ---- arms

abbrev arm_kind : Kind ArmParts
arm_kind = record {
  words = λ a. begun a.at (plains (word KwWhen) ++ (plains (name_words a.name)
      ++ (enclosed LeftParenthesis RightParenthesis (map bound_measures a.binds) ++ (plains (word KwDo)
      ++ inside (block_measures a.block)))));
  good = λ a. formed_block a.block;
}

arms_line : (xs : List ArmParts) → arm_measures (arms_of xs) ≡ flat_map arm_kind.words xs
arms_line [] = refl
arms_line (a ∷ xs) = ap (λ ws. arm_kind.words a ++ ws) (arms_line xs)

arms_good : (xs : List ArmParts) → formed_arms (arms_of xs) ≡ list_all arm_kind.good xs
arms_good [] = refl
arms_good (a ∷ xs) = ap (λ g. formed_block a.block && g) (arms_good xs)

pub statement_example : Example statement_kind
statement_example = record {
  tree = skip (record { file = 0; line = 0; column = 0 });
  tokens = token_of (Word KwSkip) ∷ token_of (Sign Semicolon) ∷ [];
  is = record { words = ((refl, (refl, tt)), ((refl, tt), tt)); good = refl };
}

-- what is told of the readers of what stands inside a statement
pub record Inside (P : Passing) (inner calls : List Token → Read PlainExpression)
    (blocks : List Token → Read PlainStatements) : Type 0 where
  pub expressions : Honest P expression_kind inner
  pub called : Honest P call_kind calls
  pub opened : Opens is_name calls
  pub nested : Honest P block_kind blocks

abbrev takes : Keyword → What → Bool
takes k what = same_what what (Word k)

module _ (b : Bounds) (n : ℕ) (inner calls : List Token → Read PlainExpression)
    (blocks : List Token → Read PlainStatements) (within : Inside (passing b n) inner calls blocks) where
  abbrev P : Passing
  P = passing b (suc n)

  abbrev Statement : (What → Bool) → (List Token → Read PlainStatement) → Type 0
  Statement opens read = Row P statement_kind opens read

  abbrev types : Honest P type_kind (type_at b)
  types = type_honest b (suc n)

  expressions : Honest P inner_kind inner
  expressions = turned_honest (passing b n) P inside (inside_turns b n) expression_kind inner within.expressions

  abbrev inner_call : Kind PlainExpression
  inner_call = turned inside call_kind

  called : Honest P inner_call calls
  called = turned_honest (passing b n) P inside (inside_turns b n) call_kind calls within.called

  nested : Honest P inner_block blocks
  nested = turned_honest (passing b n) P inside (inside_turns b n) block_kind blocks within.nested

  -- ---- a node, of which the first word tells

  node_row : {A : Type 0} (kind : Kind A) (read : List Token → Read A) → Honest P kind read →
      (build : Pos → A → PlainStatement) → Builds (turned rooted kind) statement_kind build →
      Honest P statement_kind (built build read)
  node_row kind read honest build builds =
      built_honest P (turned rooted kind) statement_kind read
      (turned_honest P P rooted (node_turns b n) kind read honest) build builds

  key_row : {A : Type 0} (kind : Kind A) (w : What) (ws : List What) (read : List Token → Read A) →
      Honest P kind read → (build : Pos → A → PlainStatement) →
      Builds (turned rooted (behind_kind kind (w ∷ ws))) statement_kind build →
      Statement (λ what. same_what what w) (built build (behind_tokens (w ∷ ws) read))
  key_row kind w ws read honest build builds = record {
    honest = node_row (behind_kind kind (w ∷ ws)) (behind_tokens (w ∷ ws) read)
        (behind_honest P kind (w ∷ ws) read honest) build builds;
    opened = built_opens (λ what. same_what what w) (behind_tokens (w ∷ ws) read)
        (behind_opens w ws read (honest_past P kind read honest)) build;
  }

  part_row : {A : Type 0} (kind : Kind A) (opens : What → Bool) (read : List Token → Read A) →
      Honest P kind read → Opens opens read → (build : Pos → A → PlainStatement) →
      Builds (turned rooted kind) statement_kind build → Statement opens (built build read)
  part_row kind opens read honest o build builds = record {
    honest = node_row kind read honest build builds;
    opened = built_opens opens read o build;
  }

  -- ---- statements with no block

  skip_row : Honest P statement_kind (skip_at b inner calls blocks)
  unfolding skip_at
  skip_row = node_row (exactly_kind (Word KwSkip ∷ Sign Semicolon ∷ [])) _
      (exactly_honest P (Word KwSkip ∷ Sign Semicolon ∷ [])) skip_of
      (record { words = λ at x. refl; good = λ at x g. refl })

  abbrev ended_kind : Kind PlainExpression
  ended_kind = closed_kind inner_kind (Sign Semicolon ∷ [])

  ended : Honest P ended_kind (closed (Sign Semicolon ∷ []) inner)
  ended = closed_honest P inner_kind (Sign Semicolon ∷ []) inner expressions

  return_row : Honest P statement_kind (return_with b inner calls blocks)
  unfolding return_with
  return_row = node_row (behind_kind ended_kind (Word KwReturn ∷ [])) _
      (behind_honest P ended_kind (Word KwReturn ∷ []) _ ended) return_of_part
      (record { words = λ at x. refl; good = λ at x g. g })

  declare_row : (binding : Binding) →
      Statement (takes (binding_word binding)) (declare_with b inner calls blocks (binding_word binding) binding)
  unfolding declare_with
  declare_row binding =
      let typed = pair_behind P _ _ _ types _ ended (Sign Assign ∷ []) in
      let line = pair_behind P _ _ _ (name_honest P) _ typed (Sign Colon ∷ []) in
      key_row _ (Word (binding_word binding)) [] _ line (declare_of binding)
      (record { words = λ at x. refl; good = λ at x g. g })

  destructure_row : Statement (takes KwLet) (destructure_with b inner calls blocks)
  unfolding destructure_with
  destructure_row =
      let list = separated_honest P bound_kind (bound_at b) (bound_honest b (suc n)) (Sign Comma) in
      let parts = pair_behind P _ _ _ list _ ended (Sign RightBrace ∷ Sign Assign ∷ []) in
      key_row _ (Word KwLet) (Sign LeftBrace ∷ []) _ parts destructure_of
      (record {
        words = λ at x. refl;
        good = λ at x g. let p = and_parts (some x.0 && list_all (λ (y : Bound Bytes). true) x.0)
            (formed_expression x.1) g in and_from (some x.0) (formed_expression x.1)
            (and_parts (some x.0) (list_all (λ (y : Bound Bytes). true) x.0) p.0).0 p.1;
      })

  assign_row : Statement is_name (assign_with b inner calls blocks)
  unfolding assign_with
  assign_row =
      part_row (pair_kind path_kind (behind_kind ended_kind (Sign Assign ∷ []))) is_name
      (pair (pair name_at fields_at) (behind_tokens (Sign Assign ∷ []) (closed (Sign Semicolon ∷ []) inner)))
      (pair_behind P path_kind ended_kind (pair name_at fields_at) (path_honest P) (closed (Sign Semicolon ∷ []) inner)
      ended (Sign Assign ∷ []))
      (pair_opens is_name (pair name_at fields_at)
      (pair_opens is_name name_at name_opens fields_at (honest_past P fields_kind fields_at (fields_honest P)))
      (behind_tokens (Sign Assign ∷ []) (closed (Sign Semicolon ∷ []) inner))
      (honest_past P (behind_kind ended_kind (Sign Assign ∷ []))
      (behind_tokens (Sign Assign ∷ []) (closed (Sign Semicolon ∷ []) inner))
      (behind_honest P ended_kind (Sign Assign ∷ []) (closed (Sign Semicolon ∷ []) inner) ended)))
      assign_of
      (record {
        words = λ at x. ap (λ ws. node at (ws ++ (behind_kind ended_kind (Sign Assign ∷ [])).words x.1))
            (path_line x.0.0 x.0.1);
        good = λ at x g. (and_parts (list_all (λ (y : Placed Bytes). true) x.0.1) (formed_expression x.1) g).1;
      })

  assign_through_row : Statement is_name (assign_through_with b inner calls blocks)
  unfolding assign_through_with
  assign_through_row =
      part_row (pair_kind arrow_kind (behind_kind ended_kind (Sign Assign ∷ []))) is_name
      (pair arrow_parts (behind_tokens (Sign Assign ∷ []) (closed (Sign Semicolon ∷ []) inner)))
      (pair_behind P arrow_kind ended_kind arrow_parts (arrow_honest P) (closed (Sign Semicolon ∷ []) inner) ended
      (Sign Assign ∷ []))
      (pair_opens is_name arrow_parts
      (pair_opens is_name name_at name_opens _ (honest_past P _ _
      (behind_honest P dotted_kind (Sign Arrow ∷ []) _ (dotted_honest P))))
      (behind_tokens (Sign Assign ∷ []) (closed (Sign Semicolon ∷ []) inner))
      (honest_past P (behind_kind ended_kind (Sign Assign ∷ []))
      (behind_tokens (Sign Assign ∷ []) (closed (Sign Semicolon ∷ []) inner))
      (behind_honest P ended_kind (Sign Assign ∷ []) (closed (Sign Semicolon ∷ []) inner) ended)))
      assign_through_of
      (record {
        words = λ at x. ap (λ ws. node at (ws ++ (behind_kind ended_kind (Sign Assign ∷ [])).words x.1))
            (arrow_line x.0.0 x.0.1);
        good = λ at x g. let p = and_parts (some x.0.1 && list_all (λ (y : Placed Bytes). true) x.0.1)
            (formed_expression x.1) g in and_from (some x.0.1) (formed_expression x.1)
            (and_parts (some x.0.1) (list_all (λ (y : Placed Bytes). true) x.0.1) p.0).0 p.1;
      })

  discard_row : Statement is_name (discard_with b inner calls blocks)
  unfolding discard_with
  discard_row =
      part_row (closed_kind inner_call (Sign Semicolon ∷ [])) is_name (closed (Sign Semicolon ∷ []) calls)
      (closed_honest P inner_call (Sign Semicolon ∷ []) calls called)
      (closed_opens is_name calls within.opened (Sign Semicolon ∷ [])) discard_of
      (record { words = λ at x. refl; good = λ at x g. g })

  -- ---- statements with blocks

  arm_honest : Honest P arm_kind (arm_with b inner calls blocks)
  unfolding arm_with
  arm_honest =
      let list = bracketed_honest P bound_kind (bound_at b) (bound_honest b (suc n)) LeftParenthesis RightParenthesis in
      let parts = pair_behind P _ _ _ list _ nested (Word KwDo ∷ []) in
      built_honest P _ arm_kind _ (behind_honest P _ (Word KwWhen ∷ []) _
      (pair_honest P _ _ _ (name_honest P) _ parts)) arm_of
      (record {
        words = λ at x. refl;
        good = λ at x g. (and_parts (list_all (λ (y : Bound Bytes). true) x.1.0) (formed_block x.1.1) g).1;
      })

  arm_some : (a : ArmParts) → 0 < length (arm_kind.words a)
  arm_some a = omega arith

  arms_honest : Honest P (repeated_kind arm_kind) (arms_with b inner calls blocks)
  unfolding arms_with
  arms_honest = repeated_honest P arm_kind (arm_with b inner calls blocks) arm_honest (is_front (Word KwWhen))
      (λ a g. arm_some a)

  case_row : Honest P statement_kind (case_with b inner calls blocks)
  unfolding case_with
  case_row =
      let stopped = closed_honest P _ (Word KwEnd ∷ Word KwCase ∷ Sign Semicolon ∷ []) _ arms_honest in
      let parts = pair_behind P _ _ _ expressions _ stopped (Word KwOf ∷ []) in
      node_row _ _ (behind_honest P _ (Word KwCase ∷ []) _ parts) case_of_parts
      (record {
        words = λ at x. ap (λ ws. node at (plains (word KwCase) ++ (inner_kind.words x.0 ++ (plains (word KwOf)
            ++ (ws ++ plains (word KwEnd ++ word KwCase ++ mark Semicolon)))))) (arms_line x.1);
        good = λ at x g. ap (λ y. formed_expression x.0 && y) (arms_good x.1) ∙ g;
      })

  while_row : Honest P statement_kind (while_with b inner calls blocks)
  unfolding while_with
  while_row =
      let stopped = closed_honest P _ (Word KwEnd ∷ Word KwWhile ∷ Sign Semicolon ∷ []) _ nested in
      let parts = pair_behind P _ _ _ expressions _ stopped (Word KwDo ∷ []) in
      node_row _ _ (behind_honest P _ (Word KwWhile ∷ []) _ parts) while_of
      (record { words = λ at x. refl; good = λ at x g. g })

  for_row : Honest P statement_kind (for_with b inner calls blocks)
  unfolding for_with
  for_row =
      let stopped = closed_honest P _ (Word KwEnd ∷ Word KwFor ∷ Sign Semicolon ∷ []) _ nested in
      let last = pair_behind P _ _ _ expressions _ stopped (Word KwDo ∷ []) in
      let both = pair_behind P _ _ _ expressions _ last (Word KwTo ∷ []) in
      let parts = pair_behind P _ _ _ (name_honest P) _ both (Word KwFrom ∷ []) in
      node_row _ _ (behind_honest P _ (Word KwFor ∷ []) _ parts) for_of
      (record {
        words = λ at x. refl;
        good = λ at x g.
            let p = and_parts (formed_expression x.1.0) (formed_expression x.1.1.0 && formed_block x.1.1.1) g in
            let q = and_parts (formed_expression x.1.1.0) (formed_block x.1.1.1) p.1 in
            and_from (formed_expression x.1.0 && formed_expression x.1.1.0) (formed_block x.1.1.1)
            (and_from (formed_expression x.1.0) (formed_expression x.1.1.0) p.0 q.0) q.1;
      })

  -- ---- borrows

  abbrev borrowed_kind : Kind (PlainStatements × Pos)
  borrowed_kind = behind_kind (pair_kind inner_block
      (closed_kind end_kind (Word KwBorrow ∷ Sign Semicolon ∷ []))) (Word KwDo ∷ [])

  borrowed_honest : Honest P borrowed_kind (borrowed_block b inner calls blocks)
  unfolding borrowed_block
  borrowed_honest =
      behind_honest P _ (Word KwDo ∷ []) _
      (pair_honest P inner_block (closed_kind end_kind (Word KwBorrow ∷ Sign Semicolon ∷ [])) blocks nested
      (closed (Word KwBorrow ∷ Sign Semicolon ∷ []) end_place)
      (closed_honest P end_kind (Word KwBorrow ∷ Sign Semicolon ∷ []) end_place (end_honest P)))

  abbrev in_kind : Kind (Placed Bytes × (Placed Bytes × (Placed Bytes × (PlainStatements × Pos))))
  in_kind = pair_kind name_kind (behind_kind (pair_kind name_kind (behind_kind (pair_kind name_kind borrowed_kind)
      (Word KwIn ∷ []))) (Word KwAs ∷ []))

  abbrev in_at : List Token → Read (Placed Bytes × (Placed Bytes × (Placed Bytes × (PlainStatements × Pos))))
  in_at = pair name_at (behind_tokens (Word KwAs ∷ []) (pair name_at (behind_tokens (Word KwIn ∷ [])
      (pair name_at (borrowed_block b inner calls blocks)))))

  abbrev second_kind : Kind (Placed Bytes × (Placed Bytes × (PlainStatements × Pos)))
  second_kind = pair_kind name_kind (behind_kind (pair_kind name_kind borrowed_kind) (Word KwIn ∷ []))

  abbrev second_at : List Token → Read (Placed Bytes × (Placed Bytes × (PlainStatements × Pos)))
  second_at = pair name_at (behind_tokens (Word KwIn ∷ []) (pair name_at (borrowed_block b inner calls blocks)))

  second_in : Honest P second_kind second_at
  second_in = pair_behind P name_kind (pair_kind name_kind borrowed_kind) name_at (name_honest P)
      (pair name_at (borrowed_block b inner calls blocks))
      (pair_honest P name_kind borrowed_kind name_at (name_honest P) (borrowed_block b inner calls blocks) borrowed_honest)
      (Word KwIn ∷ [])

  in_honest : Honest P in_kind in_at
  in_honest = pair_behind P name_kind second_kind name_at (name_honest P) second_at second_in (Word KwAs ∷ [])

  in_opens : Opens is_name in_at
  in_opens = pair_opens is_name name_at name_opens (behind_tokens (Word KwAs ∷ []) second_at)
      (honest_past P (behind_kind second_kind (Word KwAs ∷ [])) (behind_tokens (Word KwAs ∷ []) second_at)
      (behind_honest P second_kind (Word KwAs ∷ []) second_at second_in))

  borrow_read_row : Statement (takes KwBorrow) (borrow_in_with b inner calls blocks access.Read)
  unfolding borrow_in_with
  borrow_read_row = key_row in_kind (Word KwBorrow) [] in_at in_honest (borrow_in_of access.Read)
      (record {
        words = λ at x. refl;
        good = λ at x g. (and_parts (formed_block x.1.1.1.0) true g).0;
      })

  borrow_write_row : Statement (takes KwBorrow) (borrow_in_with b inner calls blocks access.Write)
  unfolding borrow_in_with
  borrow_write_row = key_row in_kind (Word KwBorrow) (Sign Exclamation ∷ []) in_at in_honest
      (borrow_in_of access.Write)
      (record {
        words = λ at x. refl;
        good = λ at x g. (and_parts (formed_block x.1.1.1.0) true g).0;
      })

  abbrev lent_kind : Kind (Placed Bytes × (PlainStatements × Pos))
  lent_kind = pair_kind name_kind borrowed_kind

  abbrev lent_at : List Token → Read (Placed Bytes × (PlainStatements × Pos))
  lent_at = pair name_at (borrowed_block b inner calls blocks)

  abbrev typed_kind : Kind (WrittenType × (BorrowMode × (Placed Bytes × (PlainStatements × Pos))))
  typed_kind = pair_kind type_kind (behind_kind (pair_kind mode_kind lent_kind) (Sign Assign ∷ []))

  abbrev typed_at : List Token → Read (WrittenType × (BorrowMode × (Placed Bytes × (PlainStatements × Pos))))
  typed_at = pair (type_at b) (behind_tokens (Sign Assign ∷ []) (pair mode_at lent_at))

  typed_honest : Honest P typed_kind typed_at
  typed_honest =
      pair_behind P type_kind (pair_kind mode_kind lent_kind) (type_at b) types (pair mode_at lent_at)
      (pair_honest P mode_kind lent_kind mode_at (mode_honest P) lent_at
      (pair_honest P name_kind borrowed_kind name_at (name_honest P) (borrowed_block b inner calls blocks)
      borrowed_honest)) (Sign Assign ∷ [])

  abbrev of_type_at : List Token → Read (Placed Bytes ×
      (WrittenType × (BorrowMode × (Placed Bytes × (PlainStatements × Pos)))))
  of_type_at = pair name_at (behind_tokens (Sign Colon ∷ []) typed_at)

  of_type_opens : Opens is_name of_type_at
  of_type_opens = pair_opens is_name name_at name_opens (behind_tokens (Sign Colon ∷ []) typed_at)
      (honest_past P (behind_kind typed_kind (Sign Colon ∷ [])) (behind_tokens (Sign Colon ∷ []) typed_at)
      (behind_honest P typed_kind (Sign Colon ∷ []) typed_at typed_honest))

  borrow_typed_row : Statement (takes KwBorrow) (borrow_typed_with b inner calls blocks)
  unfolding borrow_typed_with
  borrow_typed_row =
      key_row (pair_kind name_kind (behind_kind typed_kind (Sign Colon ∷ [])))
      (Word KwBorrow) [] of_type_at
      (pair_behind P name_kind typed_kind name_at (name_honest P) typed_at typed_honest (Sign Colon ∷ [])) borrow_typed_of
      (record {
        words = λ at x. refl;
        good = λ at x g. (and_parts (formed_block x.1.1.1.1.0) true g).0;
      })

  -- ---- statements that are told by more than one token

  let_each : (w : Option What) → Statement (takes KwLet) (let_by b inner calls blocks w)
  let_each (Some (Sign LeftBrace)) = destructure_row
  let_each w = declare_row Let

  named_each : (w : Option What) → Statement is_name (named_by b inner calls blocks w)
  named_each (Some (Sign LeftParenthesis)) = discard_row
  named_each (Some (Sign Arrow)) = assign_through_row
  named_each w = assign_row

  borrow_each : (v w : Option What) → Statement (takes KwBorrow) (borrow_by b inner calls blocks v w)
  borrow_each (Some (Sign Exclamation)) w = borrow_write_row
  borrow_each v (Some (Sign Colon)) = borrow_typed_row
  borrow_each v w = borrow_read_row

  -- where `!` doesn't stand, the third token tells
  borrow_any : Option What → List Token → Read PlainStatement
  borrow_any (Some (Sign Colon)) ts = borrow_typed_with b inner calls blocks ts
  borrow_any w ts = borrow_in_with b inner calls blocks access.Read ts

  any_two : (x y : Option What) (t u : Token) (c d : List Token) →
      Alike c d (borrow_any x (t ∷ u ∷ c)) (borrow_any y (t ∷ u ∷ d))
  unfolding borrow_any borrow_in_with borrow_typed_with
  any_two (Some (Sign Colon)) (Some (Sign Colon)) t u c d = two_alike (Word KwBorrow) is_name of_type_at of_type_opens
      of_type_at of_type_opens borrow_typed_of borrow_typed_of t u c d
  any_two (Some (Sign Colon)) y t u c d = two_alike (Word KwBorrow) is_name of_type_at of_type_opens
      in_at in_opens borrow_typed_of (borrow_in_of access.Read) t u c d
  any_two x (Some (Sign Colon)) t u c d = two_alike (Word KwBorrow) is_name in_at in_opens
      of_type_at of_type_opens (borrow_in_of access.Read) borrow_typed_of t u c d
  any_two x y t u c d = two_alike (Word KwBorrow) is_name in_at in_opens
      in_at in_opens (borrow_in_of access.Read) (borrow_in_of access.Read) t u c d

  -- their first two words tell the same
  built_two : {A : Type 0} (build : A → PlainStatement) → ((y : A) → Two (statement_measures (build y))) → (r : Read A)
      (z : PlainStatement × List Token) → (r >>= built_at build) ≡ Ok z → Two (statement_measures z.0)
  built_two build on (Ok y) z e =
      let same : build y.0 ≡ z.0 = cc in subst (λ s. Two (statement_measures s)) same (on y.0)
  built_two build on (Err f) z e = absurd (let wrong = e in cc)

  any_words : (x : Option What) (t : Token) (ts : List Token) (z : PlainStatement × List Token) →
      borrow_any x (t ∷ ts) ≡ Ok z → Two (statement_measures z.0)
  unfolding borrow_any borrow_in_with borrow_typed_with
  any_words (Some (Sign Colon)) t ts z e = built_two (borrow_typed_of t.at)
      (λ y. ((refl, (refl, (refl, (refl, refl)))), (refl, (refl, (refl, (refl, refl))))))
      (behind_tokens (Word KwBorrow ∷ []) of_type_at (t ∷ ts)) z e
  any_words x t ts z e = built_two (borrow_in_of access.Read t.at)
      (λ y. ((refl, (refl, (refl, (refl, refl)))), (refl, (refl, (refl, (refl, refl))))))
      (behind_tokens (Word KwBorrow ∷ []) in_at (t ∷ ts)) z e

  two_agrees : (t u : Token) (c : List Token) (r s : Read PlainStatement)
      → ((z : PlainStatement × List Token) → r ≡ Ok z → Two (statement_measures z.0))
      → ((z : PlainStatement × List Token) → s ≡ Ok z → Two (statement_measures z.0))
      → Agrees statement_kind (t ∷ u ∷ []) c r s
  two_agrees t u c (Err f) s h k = tt
  two_agrees t u c (Ok x) (Err f) h k = tt
  two_agrees t u c (Ok x) (Ok y) h k =
      λ short. two_agree t u (statement_measures x.0) (statement_measures y.0) (h x refl) (k y refl)

  any_agrees : (x y : Option What) (t u : Token) (c d : List Token) →
      Agrees statement_kind (t ∷ u ∷ []) c (borrow_any x (t ∷ u ∷ c)) (borrow_any y (t ∷ u ∷ d))
  any_agrees x y t u c d = two_agrees t u c (borrow_any x (t ∷ u ∷ c)) (borrow_any y (t ∷ u ∷ d))
      (any_words x t (u ∷ c)) (any_words y t (u ∷ d))

  -- which token isn't `!`
  abbrev is_bang : What → Bool
  is_bang (Sign Exclamation) = true
  is_bang w = false

  any_is : (w : What) (x : Option What) (ts : List Token) → is_bang w ≡ false →
      borrow_any x ts ≡ borrow_by b inner calls blocks (Some w) x ts
  unfolding borrow_any
  any_is (Sign Exclamation) x ts e = absurd cc
  any_is w (Some (Sign Colon)) ts e = refl
  any_is w x ts e = refl

  bang_two : (w : What) (x y : Option What) (t u : Token) (c d : List Token) (v : Bool) → is_bang w ≡ v →
      Alike c d (borrow_by b inner calls blocks (Some w) x (t ∷ u ∷ c))
      (borrow_by b inner calls blocks (Some w) y (t ∷ u ∷ d))
  bang_two (Sign Exclamation) x y t u c d true e = borrow_write_row.honest.alike (t ∷ u ∷ []) c d
  bang_two w x y t u c d true e = absurd cc
  bang_two w x y t u c d false e =
      subst (λ r. Alike c d r (borrow_by b inner calls blocks (Some w) y (t ∷ u ∷ d))) (any_is w x (t ∷ u ∷ c) e)
      (subst (λ r. Alike c d (borrow_any x (t ∷ u ∷ c)) r) (any_is w y (t ∷ u ∷ d) e) (any_two x y t u c d))

  bang_agrees : (w : What) (x y : Option What) (t u : Token) (c d : List Token) (v : Bool) → is_bang w ≡ v →
      Agrees statement_kind (t ∷ u ∷ []) c (borrow_by b inner calls blocks (Some w) x (t ∷ u ∷ c))
      (borrow_by b inner calls blocks (Some w) y (t ∷ u ∷ d))
  bang_agrees (Sign Exclamation) x y t u c d true e = borrow_write_row.honest.agree (t ∷ u ∷ []) c d
  bang_agrees w x y t u c d true e = absurd cc
  bang_agrees w x y t u c d false e =
      subst (λ r. Agrees statement_kind (t ∷ u ∷ []) c r (borrow_by b inner calls blocks (Some w) y (t ∷ u ∷ d)))
      (any_is w x (t ∷ u ∷ c) e)
      (subst (λ r. Agrees statement_kind (t ∷ u ∷ []) c (borrow_any x (t ∷ u ∷ c)) r) (any_is w y (t ∷ u ∷ d) e)
      (any_agrees x y t u c d))

  statement_each : (w : Option What) → Honest P statement_kind (statement_by b inner calls blocks w)
  statement_each (Some (Word KwSkip)) = skip_row
  statement_each (Some (Word KwLet)) = second_honest P statement_kind (let_by b inner calls blocks)
      (λ w. (let_each w).honest) (takes KwLet) (λ w. (let_each w).opened) level_one statement_head
  statement_each (Some (Word KwVar)) = (declare_row Var).honest
  statement_each (Some (Word KwIf)) = conditional_row b n inner calls blocks expressions nested
  statement_each (Some (Word KwCase)) = case_row
  statement_each (Some (Word KwWhile)) = while_row
  statement_each (Some (Word KwFor)) = for_row
  statement_each (Some (Word KwBorrow)) = third_honest P statement_kind (borrow_by b inner calls blocks)
      (λ v w. (borrow_each v w).honest) (takes KwBorrow) (λ v w. (borrow_each v w).opened)
      (λ w x y t u c d. bang_two w x y t u c d (is_bang w) refl) level_one statement_head
      (λ w x y t u c d. bang_agrees w x y t u c d (is_bang w) refl)
  statement_each (Some (Word KwReturn)) = return_row
  statement_each (Some (Name bytes)) = second_honest P statement_kind (named_by b inner calls blocks)
      (λ w. (named_each w).honest) is_name (λ w. (named_each w).opened) level_one statement_head
  statement_each w = no_honest P statement_kind statement_example

  pub statement_with_honest : Honest P statement_kind (statement_with b inner calls blocks)
  unfolding statement_with
  statement_with_honest = first_honest P statement_kind (statement_by b inner calls blocks) statement_each

-- ---- where no level is left

abbrev nowhere : Pos
nowhere = record { file = 0; line = 0; column = 0 }

abbrev nil_token : Token
nil_token = token_of (Word KwNil)

abbrev nil_tree : PlainExpression
nil_tree = expression.nil (site nowhere)

abbrev some_name : Token
some_name = token_of (Name (codes "a"))

abbrev semicolon : Token
semicolon = token_of (Sign Semicolon)

module _ (b : Bounds) where
  statement_starts : (w : What) (t : Token) → t.what ≡ w → begins_statement (Some w) ≡ true →
      Starts (passing b 0) statement_kind of_nesting t
  statement_starts (Name bytes) t is e = record {
    rest = token_of (Sign Assign) ∷ nil_token ∷ semicolon ∷ [];
    tree = tree.assign t.at (record { name = bytes; at = t.at }) [] nil_tree;
    is = record {
      words = ((is, (refl, (refl, tt))), ((refl, tt), ((refl, (refl, tt)), ((refl, tt), tt))));
      good = refl;
    };
    passes = refl;
  }
  statement_starts (Word KwSkip) t is e = record {
    rest = semicolon ∷ [];
    tree = tree.skip t.at;
    is = record { words = ((is, (refl, tt)), ((refl, tt), tt)); good = refl };
    passes = refl;
  }
  statement_starts (Word KwLet) t is e = record {
    rest = some_name ∷ token_of (Sign Colon) ∷ some_name ∷ token_of (Sign Assign) ∷ nil_token ∷ semicolon ∷ [];
    tree = tree.declare t.at Let a_name (named a_name no_types) nil_tree;
    is = record {
      words = (
        (is, (refl, tt)),
        (
          (refl, (refl, tt)),
          (
            (refl, tt),
            (
              (refl, (refl, tt)),
              (
                (refl, tt),
                ((refl, (refl, tt)), ((refl, tt), tt)),
              ),
            ),
          ),
        ),
      );
      good = refl;
    };
    passes = refl;
  }
  statement_starts (Word KwVar) t is e = record {
    rest = some_name ∷ token_of (Sign Colon) ∷ some_name ∷ token_of (Sign Assign) ∷ nil_token ∷ semicolon ∷ [];
    tree = tree.declare t.at Var a_name (named a_name no_types) nil_tree;
    is = record {
      words = (
        (is, (refl, tt)),
        (
          (refl, (refl, tt)),
          (
            (refl, tt),
            (
              (refl, (refl, tt)),
              (
                (refl, tt),
                ((refl, (refl, tt)), ((refl, tt), tt)),
              ),
            ),
          ),
        ),
      );
      good = refl;
    };
    passes = refl;
  }
  statement_starts (Word KwIf) t is e = record {
    rest = nil_token ∷ token_of (Word KwThen) ∷ token_of (Word KwEnd) ∷ token_of (Word KwIf) ∷ semicolon ∷ [];
    tree = tree.conditional t.at (tree.branches nil_tree tree.no_statements tree.no_branches);
    is = record {
      words = ((is, (refl, tt)), ((refl, (refl, tt)), ((refl, tt), ((refl, tt), ((refl, tt), ((refl, tt), tt))))));
      good = refl;
    };
    passes = refl;
  }
  statement_starts (Word KwCase) t is e = record {
    rest = nil_token ∷ token_of (Word KwOf) ∷ token_of (Word KwEnd) ∷ token_of (Word KwCase) ∷ semicolon ∷ [];
    tree = tree.case_of t.at nil_tree tree.no_arms;
    is = record {
      words = ((is, (refl, tt)), ((refl, (refl, tt)), ((refl, tt), ((refl, tt), ((refl, tt), ((refl, tt), tt))))));
      good = refl;
    };
    passes = refl;
  }
  statement_starts (Word KwWhile) t is e = record {
    rest = nil_token ∷ token_of (Word KwDo) ∷ token_of (Word KwEnd) ∷ token_of (Word KwWhile) ∷ semicolon ∷ [];
    tree = tree.while_loop t.at nil_tree tree.no_statements;
    is = record {
      words = ((is, (refl, tt)), ((refl, (refl, tt)), ((refl, tt), ((refl, tt), ((refl, tt), ((refl, tt), tt))))));
      good = refl;
    };
    passes = refl;
  }
  statement_starts (Word KwFor) t is e = record {
    rest = some_name ∷ token_of (Word KwFrom) ∷ nil_token ∷ token_of (Word KwTo) ∷ nil_token ∷ token_of (Word KwDo)
        ∷ token_of (Word KwEnd) ∷ token_of (Word KwFor) ∷ semicolon ∷ [];
    tree = tree.for_loop t.at a_name nil_tree nil_tree tree.no_statements;
    is = record {
      words = (
        (is, (refl, tt)),
        (
          (refl, (refl, tt)),
          (
            (refl, tt),
            (
              (refl, (refl, tt)),
              (
                (refl, tt),
                ((refl, (refl, tt)), ((refl, tt), ((refl, tt), ((refl, tt), ((refl, tt), tt))))),
              ),
            ),
          ),
        ),
      );
      good = refl;
    };
    passes = refl;
  }
  statement_starts (Word KwBorrow) t is e = record {
    rest = some_name ∷ token_of (Word KwAs) ∷ some_name ∷ token_of (Word KwIn) ∷ some_name ∷ token_of (Word KwDo)
        ∷ token_of (Word KwEnd) ∷ token_of (Word KwBorrow) ∷ semicolon ∷ [];
    tree = tree.borrow_in t.at access.Read a_name a_name a_name tree.no_statements nowhere;
    is = record {
      words = (
        (is, (refl, tt)),
        (
          (refl, (refl, tt)),
          (
            (refl, tt),
            (
              (refl, (refl, tt)),
              (
                (refl, tt),
                ((refl, (refl, tt)), ((refl, tt), ((refl, (refl, tt)), ((refl, tt), ((refl, tt), tt))))),
              ),
            ),
          ),
        ),
      );
      good = refl;
    };
    passes = refl;
  }
  statement_starts (Word KwReturn) t is e = record {
    rest = nil_token ∷ semicolon ∷ [];
    tree = tree.return_of t.at nil_tree;
    is = record { words = ((is, (refl, tt)), ((refl, (refl, tt)), ((refl, tt), tt))); good = refl };
    passes = refl;
  }
  statement_starts other t is e = absurd cc

-- ---- blocks

block_line : (xs : List PlainStatement) → block_measures (statements_of xs) ≡ flat_map statement_measures xs
block_line [] = refl
block_line (x ∷ xs) = ap (λ ws. statement_measures x ++ ws) (block_line xs)

block_good : (xs : List PlainStatement) → formed_block (statements_of xs) ≡ list_all formed_statement xs
block_good [] = refl
block_good (x ∷ xs) = ap (λ g. formed_statement x && g) (block_good xs)

pub block_with_honest : (P : Passing) (one : List Token → Read PlainStatement) → Honest P statement_kind one →
    Honest P block_kind (block_with one)
block_with_honest P one honest =
    shaped_honest P (repeated_kind statement_kind) block_kind (repeated begins_statement one)
    (repeated_honest P statement_kind one honest begins_statement statement_some) statements_of
    (record { words = λ xs g. block_line xs; good = λ xs g. block_good xs ∙ g })

module _ (b : Bounds) where
  pub statement_honest : (n : ℕ) → Honest (passing b n) statement_kind (statement_at b n)
  unfolding statement_at
  statement_honest zero =
      deep_honest (passing b 0) statement_kind statement_example begins_statement (nesting_limit b) of_nesting refl (λ ts. refl)
      (λ t e. statement_starts b t.what t refl e)
  statement_honest (suc n) =
      statement_with_honest b n (expression_at b n) (call_at b n) (block_with (statement_at b n))
      (record {
        expressions = (levels b n).expressions;
        called = call_honest b n;
        opened = call_opens b n;
        nested = block_with_honest (passing b n) (statement_at b n) (statement_honest n);
      })

  pub block_honest : (n : ℕ) → Honest (passing b n) block_kind (block_at b n)
  unfolding block_at
  block_honest n = block_with_honest (passing b n) (statement_at b n) (statement_honest n)
