-- The words that measure are the words of the tree.
use Rattle.std.proofs.Common.{◌≡◌, ℕ, ◌+◌, List, [], ◌∷◌, ◌++◌, map, length, refl, sym, ap, ap₂, ◌∙◌}
use Rattle.std.proofs.Common.{append_assoc}
use Rattle.std.specs.List.{flat_map}
use Rattle.au_base.specs.declared.places.Pos.{Pos}
use Rattle.au_base.specs.declared.tokens.Keyword.TheVariants.{KwIs, KwEnd, KwImport, KwConstant, KwType}
use Rattle.au_base.specs.declared.tokens.Keyword.TheVariants.{KwRecord, KwUnion, KwCase, KwWhen, KwOf, KwDo}
use Rattle.au_base.specs.declared.tokens.Keyword.TheVariants.{KwFunction, KwTypeclass, KwInstance, KwMethod}
use Rattle.au_base.specs.declared.tokens.Keyword.TheVariants.{KwLet, KwIf, KwThen, KwElse, KwWhile, KwFor}
use Rattle.au_base.specs.declared.tokens.Keyword.TheVariants.{KwFrom, KwTo, KwBorrow, KwIn, KwAs, KwReturn}
use Rattle.au_base.specs.declared.tokens.Keyword.TheVariants.{KwNot}
use Rattle.au_base.specs.declared.tokens.Sign.TheVariants.{Assign, FatArrow, LeftParenthesis}
use Rattle.au_base.specs.declared.tokens.Sign.TheVariants.{RightParenthesis, LeftBracket, RightBracket}
use Rattle.au_base.specs.declared.tokens.Sign.TheVariants.{LeftBrace, RightBrace, Comma, Semicolon, Colon}
use Rattle.au_base.specs.declared.tokens.Sign.TheVariants.{Dot, ReadBorrow, Exclamation}
use Rattle.au_syntax.specs.declared.declarations.Universe.{Universe}
use Rattle.au_syntax.specs.declared.types.Access.TheVariants as access
use Rattle.au_syntax.specs.Names.{Placed}
use Rattle.au_syntax.specs.Types.{WrittenType, Labelled, Bound}
use Rattle.au_syntax.specs.Expressions.{number, negative, text, truth, nil, path, arrow, call, named_call}
use Rattle.au_syntax.specs.Expressions.{parenthesized, dereference, borrow, borrow_part, binary, negation}
use Rattle.au_syntax.specs.Expressions.{typed, choice, no_expressions, expressions, no_arguments, arguments}
use Rattle.au_syntax.specs.Statements.{skip, declare, destructure, assign, assign_through, conditional}
use Rattle.au_syntax.specs.Statements.{conditional_else, case_of, while_loop, for_loop, borrow_in}
use Rattle.au_syntax.specs.Statements.{borrow_typed, discard, return_of, no_statements, statements}
use Rattle.au_syntax.specs.Statements.{no_branches, branches, no_arms, arms}
use Rattle.au_syntax.specs.Modules.{InUniverse, Header, Variant, constant, opaque_type, record_type}
use Rattle.au_syntax.specs.Modules.{union_type, function, class, instance, constant_body, function_body}
use Rattle.au_syntax.specs.Modules.{instance_body, Importing}
use Rattle.au_syntax.specs.Plain.{Bytes, PlainExpression, PlainExpressions, PlainArguments, PlainStatement}
use Rattle.au_syntax.specs.Plain.{PlainStatements, PlainBranches, PlainArms, PlainMethod, PlainDeclaration}
use Rattle.au_syntax.specs.Plain.{PlainModule}
use Rattle.au_syntax.specs.Words as w
use Rattle.au_syntax.specs.Words.{Words, word, mark, name_words, type_words, expression_words, block_words}
use Rattle.au_syntax.specs.Words.{path_words, arrow_words, mode_sign, operator_words, binding_word, end_at}
use Rattle.au_syntax.specs.Words.{bound_words, labelled_words, renaming_words, separated, listed_in}
use Rattle.au_syntax.specs.Words.{statement_words, arm_words, words_of_branches, words_of_expressions}
use Rattle.au_syntax.specs.Words.{words_of_arguments, in_universe_words, universe_word, type_head_words}
use Rattle.au_syntax.specs.Words.{header_words, fields_words, case_fields_words, variant_words}
use Rattle.au_syntax.specs.Words.{class_method_words, method_words, instance_words, generic_words}
use Rattle.au_syntax.specs.Words.{declaration_words, import_words, part_words, pragma_words, dotted}
use Rattle.au_read_statements.proofs.Nesting.{nest_3, nest_4, nest_5, nest_6, nest_7, nest_8, nest_9}
use Rattle.au_parser.specs.Measures as m
use Rattle.au_parser.specs.Measures.{Measures, plains, words_of, begun, enclosed, through_arguments}
use Rattle.au_parser.specs.Measures.{given_in_order, known_late, inside, node, written}
use Rattle.au_parser.specs.Measures.{labelled_measures, bound_measures, call_words, expression_measures}
use Rattle.au_parser.specs.Measures.{given_measures, labels_measures, call_measures, statement_measures}
use Rattle.au_parser.specs.Measures.{block_measures, branch_measures, arm_measures, head_measures}
use Rattle.au_parser.specs.Measures.{header_measures, fields_measures, case_fields_measures}
use Rattle.au_parser.specs.Measures.{variant_measures, class_method_measures, body_measures}
use Rattle.au_parser.specs.Measures.{method_measures, instance_measures, declaration_measures}
use Rattle.au_parser.specs.Measures.{module_name_measures, import_measures, measures}
use Rattle.au_parser.proofs.SameTypes.{join, of_plains, of_level, of_inside, of_begun, of_node, of_late}
use Rattle.au_parser.proofs.SameTypes.{of_joined, of_enclosed, of_flat, of_map, of_written}

-- one behind another
both : (a c : Measures) (x y : Words) → words_of a ≡ x → words_of c ≡ y → words_of (a ++ c) ≡ x ++ y
both a c x y p q = join a c ∙ ap₂ (λ u v. u ++ v) p q

-- words that tell of no limit but that of a node
leaf : (at : Pos) (ws : Words) → words_of (node at (plains ws)) ≡ w.begun at ws
leaf at ws = of_node at (plains ws) ∙ ap (w.begun at) (of_plains ws)

pub of_labelled : (field : Labelled Bytes) → words_of (labelled_measures field) ≡ labelled_words field
of_labelled field =
    ap (λ ws. name_words field.name ++ (mark Colon ++ ws)) (of_written field.of)

pub of_bound : (bind : Bound Bytes) → words_of (bound_measures bind) ≡ bound_words bind
of_bound bind =
    join (plains (renaming_words bind.name)) (plains (mark Colon) ++ written bind.of)
    ∙ ap₂ (λ a b. a ++ (mark Colon ++ b)) (of_plains (renaming_words bind.name)) (of_written bind.of)
    ∙ sym (append_assoc (renaming_words bind.name) (mark Colon) (type_words bind.of))

-- ---- expressions

through_line : (list : List Measures) → words_of (through_arguments list)
    ≡ w.listed (map words_of list) ++ mark RightParenthesis
through_line list =
    both (m.listed list) (plains (mark RightParenthesis)) (w.listed (map words_of list)) (mark RightParenthesis)
    (of_joined (plains (mark Comma)) list) refl

in_order_line : (list : List Measures) → words_of (given_in_order list)
    ≡ w.listed (map words_of list) ++ mark RightParenthesis
in_order_line list =
    of_inside (known_late (through_arguments list)) ∙ of_late (through_arguments list) ∙ through_line list

call_line : (name : Placed Bytes) (given : Measures) (list : List Words) → words_of given
    ≡ w.listed list ++ mark RightParenthesis → words_of (call_words name given)
    ≡ name_words name ++ mark LeftParenthesis ++ w.listed list ++ mark RightParenthesis
call_line name given list e = ap (λ ws. name_words name ++ mark LeftParenthesis ++ ws) e

mutual
  pub of_expression : (e : PlainExpression) → words_of (expression_measures e) ≡ expression_words e
  of_expression (number site literal) = refl
  of_expression (negative site literal) = refl
  of_expression (text site bytes) = refl
  of_expression (truth site value) = leaf site.at (w.truth_words value)
  of_expression (nil site) = refl
  of_expression (path site name fields) = leaf site.at (path_words name fields)
  of_expression (arrow site name fields) = leaf site.at (arrow_words name fields)
  of_expression (call site name args note) =
      of_node site.at (call_words name (given_in_order (given_measures args)))
      ∙ ap (w.begun site.at) (call_line name (given_in_order (given_measures args)) (words_of_expressions args)
      (in_order_line (given_measures args) ∙ ap (λ list. w.listed list ++ mark RightParenthesis) (of_given args)))
  of_expression (named_call site name args note) =
      of_node site.at (call_words name (through_arguments (labels_measures args)))
      ∙ ap (w.begun site.at) (call_line name (through_arguments (labels_measures args)) (words_of_arguments args)
      (through_line (labels_measures args) ∙ ap (λ list. w.listed list ++ mark RightParenthesis) (of_labels args)))
  of_expression (parenthesized site e) =
      ap (λ ws. w.begun site.at (mark LeftParenthesis ++ ws))
      (both (inside (expression_measures e)) (plains (mark RightParenthesis)) (expression_words e)
      (mark RightParenthesis) (of_inside (expression_measures e) ∙ of_expression e) refl)
  of_expression (dereference site e) = ap (λ ws. w.begun site.at (mark Exclamation ++ ws)) (of_inside (expression_measures e) ∙ of_expression e)
  of_expression (borrow site mode name) = refl
  of_expression (borrow_part site name fields) =
      ap (λ ws. w.begun site.at (mark ReadBorrow ++ mark LeftParenthesis ++ ws))
      (both (plains (arrow_words name fields)) (plains (mark RightParenthesis)) (arrow_words name fields)
      (mark RightParenthesis) (of_plains (arrow_words name fields)) refl)
  of_expression (binary site operator a z) =
      of_begun site.at _ ∙ ap (w.begun site.at)
      (both _ (inside (expression_measures z)) (expression_words a ++ operator_words operator) (expression_words z)
      (both (expression_measures a) _ (expression_words a) (operator_words operator) (of_expression a)
      (of_level _ (operator_words operator))) (of_inside (expression_measures z) ∙ of_expression z))
  of_expression (negation site e) = ap (λ ws. w.begun site.at (word KwNot ++ ws)) (of_inside (expression_measures e) ∙ of_expression e)
  of_expression (typed site e t) =
      of_begun site.at _ ∙ ap (w.begun site.at)
      (both _ (written t) (expression_words e ++ mark Colon) (type_words t)
      (both (expression_measures e) _ (expression_words e) (mark Colon) (of_expression e) refl) (of_written t))
  of_expression (choice site c a z) =
      ap (λ ws. w.begun site.at (word KwIf ++ ws))
      (both (inside (expression_measures c)) _ (expression_words c) _ (of_inside (expression_measures c) ∙ of_expression c)
      (ap (λ ws. word KwThen ++ ws) (both (inside (expression_measures a)) _ (expression_words a) _ (of_inside (expression_measures a) ∙ of_expression a)
      (ap (λ ws. word KwElse ++ ws) (of_inside (expression_measures z) ∙ of_expression z))))
      ∙ sym (nest_5 (expression_words c) (word KwThen) (expression_words a) (word KwElse) (expression_words z)))

  of_given : (es : PlainExpressions) → map words_of (given_measures es) ≡ words_of_expressions es
  of_given no_expressions = refl
  of_given (expressions e rest) = ap₂ (λ a b. a ∷ b) (of_expression e) (of_given rest)

  of_labels : (args : PlainArguments) → map words_of (labels_measures args) ≡ words_of_arguments args
  of_labels no_arguments = refl
  of_labels (arguments label e rest) =
      ap₂ (λ a b. (name_words label ++ mark FatArrow ++ a) ∷ b) (of_inside (expression_measures e) ∙ of_expression e) (of_labels rest)

inner : (e : PlainExpression) → words_of (inside (expression_measures e)) ≡ expression_words e
inner e = of_inside (expression_measures e) ∙ of_expression e

of_call : (e : PlainExpression) → words_of (call_measures e) ≡ expression_words e
of_call (call site name args note) =
    of_begun site.at (call_words name (given_in_order (given_measures args)))
    ∙ ap (w.begun site.at) (call_line name (given_in_order (given_measures args)) (words_of_expressions args)
    (in_order_line (given_measures args) ∙ ap (λ list. w.listed list ++ mark RightParenthesis) (of_given args)))
of_call (named_call site name args note) =
    of_begun site.at (call_words name (through_arguments (labels_measures args)))
    ∙ ap (w.begun site.at) (call_line name (through_arguments (labels_measures args)) (words_of_arguments args)
    (through_line (labels_measures args) ∙ ap (λ list. w.listed list ++ mark RightParenthesis) (of_labels args)))
of_call other = of_expression other

-- an expression and a semicolon
ended : (e : PlainExpression) → words_of (inside (expression_measures e) ++ plains (mark Semicolon))
    ≡ expression_words e ++ mark Semicolon
ended e = both (inside (expression_measures e)) (plains (mark Semicolon)) (expression_words e) (mark Semicolon)
    (inner e) refl

-- `:=`, an expression and a semicolon
assigned : (e : PlainExpression) → words_of (plains (mark Assign) ++ (inside (expression_measures e)
    ++ plains (mark Semicolon))) ≡ mark Assign ++ (expression_words e ++ mark Semicolon)
assigned e = ap (λ ws. mark Assign ++ ws) (ended e)

-- ---- statements

of_binds : (binds : List (Bound Bytes)) → words_of (m.listed (map bound_measures binds))
    ≡ w.listed (map bound_words binds)
of_binds binds =
    of_joined (plains (mark Comma)) (map bound_measures binds)
    ∙ ap (separated (mark Comma)) (of_map bound_measures bound_words of_bound binds)

of_enclosed_binds : (binds : List (Bound Bytes)) → words_of (enclosed LeftParenthesis RightParenthesis
    (map bound_measures binds)) ≡ listed_in LeftParenthesis RightParenthesis (map bound_words binds)
of_enclosed_binds binds =
    of_enclosed LeftParenthesis RightParenthesis (map bound_measures binds)
    ∙ ap (listed_in LeftParenthesis RightParenthesis) (of_map bound_measures bound_words of_bound binds)

-- a block of a borrow, and what closes it
lent : (block : PlainStatements) (stop : Pos) → words_of (inside (block_measures block)) ≡ block_words block →
    words_of (inside (block_measures block) ++ (plains (end_at stop) ++ plains (word KwBorrow ++ mark Semicolon)))
    ≡ block_words block ++ end_at stop ++ word KwBorrow ++ mark Semicolon
lent block stop same =
    both (inside (block_measures block)) _ (block_words block) _ same refl
    ∙ sym (nest_4 (block_words block) (end_at stop) (word KwBorrow) (mark Semicolon))

mutual
  pub of_statement : (s : PlainStatement) → words_of (statement_measures s) ≡ statement_words s
  of_statement (skip at) = refl
  of_statement (declare at binding name t e) =
      ap (λ ws. w.begun at (word (binding_word binding) ++ name_words name ++ mark Colon ++ ws))
      (both (written t) _ (type_words t) _ (of_written t) (assigned e)
      ∙ sym (nest_4 (type_words t) (mark Assign) (expression_words e) (mark Semicolon)))
  of_statement (destructure at binds e) =
      ap (λ ws. w.begun at (word KwLet ++ mark LeftBrace ++ ws))
      (both (m.listed (map bound_measures binds)) _ (w.listed (map bound_words binds)) _ (of_binds binds)
      (ap (λ ws. mark RightBrace ++ (mark Assign ++ ws)) (ended e))
      ∙ sym (nest_5 (w.listed (map bound_words binds)) (mark RightBrace) (mark Assign) (expression_words e)
      (mark Semicolon)))
  of_statement (assign at name fields e) =
      let all : Measures = plains (mark Assign) ++ (inside (expression_measures e) ++ plains (mark Semicolon)) in
      of_node at (plains (path_words name fields) ++ all)
      ∙ ap (w.begun at) (both (plains (path_words name fields)) all (path_words name fields) _
      (of_plains (path_words name fields)) (assigned e)
      ∙ sym (nest_4 (path_words name fields) (mark Assign) (expression_words e) (mark Semicolon)))
  of_statement (assign_through at name fields e) =
      let all : Measures = plains (mark Assign) ++ (inside (expression_measures e) ++ plains (mark Semicolon)) in
      of_node at (plains (arrow_words name fields) ++ all)
      ∙ ap (w.begun at) (both (plains (arrow_words name fields)) all (arrow_words name fields) _
      (of_plains (arrow_words name fields)) (assigned e)
      ∙ sym (nest_4 (arrow_words name fields) (mark Assign) (expression_words e) (mark Semicolon)))
  of_statement (conditional at tests) =
      of_node at _ ∙ ap (w.begun at) (both _ _ (separated (word KwElse) (words_of_branches tests)) _ (of_joined (plains (word KwElse)) (branch_measures tests)
      ∙ ap (separated (word KwElse)) (of_branches tests)) refl
      ∙ sym (nest_4 (separated (word KwElse) (words_of_branches tests)) (word KwEnd) (word KwIf) (mark Semicolon)))
  of_statement (conditional_else at tests block) =
      let list : Words = separated (word KwElse) (words_of_branches tests) in
      of_node at _ ∙ ap (w.begun at) (both _ _ (list ++ word KwElse ++ block_words block) _
      (both _ _ list _ (of_joined (plains (word KwElse)) (branch_measures tests)
      ∙ ap (separated (word KwElse)) (of_branches tests)) (ap (λ ws. word KwElse ++ ws) (of_inside (block_measures block) ∙ of_block block))
      ∙ sym (nest_3 list (word KwElse) (block_words block))) refl
      ∙ sym (nest_4 (list ++ word KwElse ++ block_words block) (word KwEnd) (word KwIf) (mark Semicolon)))
  of_statement (case_of at e rest) =
      ap (λ ws. w.begun at (word KwCase ++ ws))
      (both (inside (expression_measures e)) _ (expression_words e) _ (inner e)
      (ap (λ ws. word KwOf ++ ws) (both (arm_measures rest) _ (arm_words rest) _ (of_arms rest) refl))
      ∙ sym (nest_6 (expression_words e) (word KwOf) (arm_words rest) (word KwEnd) (word KwCase) (mark Semicolon)))
  of_statement (while_loop at e block) =
      ap (λ ws. w.begun at (word KwWhile ++ ws))
      (both (inside (expression_measures e)) _ (expression_words e) _ (inner e)
      (ap (λ ws. word KwDo ++ ws) (both (inside (block_measures block)) _ (block_words block) _ (of_inside (block_measures block) ∙ of_block block) refl))
      ∙ sym (nest_6 (expression_words e) (word KwDo) (block_words block) (word KwEnd) (word KwWhile) (mark Semicolon)))
  of_statement (for_loop at name a z block) =
      ap (λ ws. w.begun at (word KwFor ++ name_words name ++ word KwFrom ++ ws))
      (both (inside (expression_measures a)) _ (expression_words a) _ (inner a)
      (ap (λ ws. word KwTo ++ ws) (both (inside (expression_measures z)) _ (expression_words z) _ (inner z)
      (ap (λ ws. word KwDo ++ ws) (both (inside (block_measures block)) _ (block_words block) _ (of_inside (block_measures block) ∙ of_block block) refl))))
      ∙ sym (nest_8 (expression_words a) (word KwTo) (expression_words z) (word KwDo) (block_words block)
      (word KwEnd) (word KwFor) (mark Semicolon)))
  of_statement (borrow_in at access.Read x r region block stop) =
      ap (λ ws. w.begun at (word KwBorrow ++ name_words x ++ word KwAs ++ name_words r ++ word KwIn
      ++ name_words region ++ word KwDo ++ ws)) (lent block stop (of_inside (block_measures block) ∙ of_block block))
  of_statement (borrow_in at access.Write x r region block stop) =
      ap (λ ws. w.begun at (word KwBorrow ++ mark Exclamation ++ name_words x ++ word KwAs ++ name_words r
      ++ word KwIn ++ name_words region ++ word KwDo ++ ws)) (lent block stop (of_inside (block_measures block) ∙ of_block block))
  of_statement (borrow_typed at r t mode x block stop) =
      ap (λ ws. w.begun at (word KwBorrow ++ name_words r ++ mark Colon ++ ws))
      (both (written t) _ (type_words t) _ (of_written t)
      (ap (λ ws. mark Assign ++ (mark (mode_sign mode) ++ (name_words x ++ (word KwDo ++ ws))))
      (both (inside (block_measures block)) _ (block_words block) _ (of_inside (block_measures block) ∙ of_block block) refl))
      ∙ sym (nest_9 (type_words t) (mark Assign) (mark (mode_sign mode)) (name_words x) (word KwDo) (block_words block)
      (end_at stop) (word KwBorrow) (mark Semicolon)))
  of_statement (discard at e) =
      of_node at _ ∙ ap (w.begun at) (both (inside (call_measures e)) (plains (mark Semicolon)) (expression_words e)
      (mark Semicolon) (of_inside (call_measures e) ∙ of_call e) refl)
  of_statement (return_of at e) = ap (λ ws. w.begun at (word KwReturn ++ ws)) (ended e)

  pub of_block : (block : PlainStatements) → words_of (block_measures block) ≡ block_words block
  of_block no_statements = refl
  of_block (statements s rest) = both (statement_measures s) (block_measures rest) (statement_words s) (block_words rest)
      (of_statement s) (of_block rest)

  of_branches : (tests : PlainBranches) → map words_of (branch_measures tests) ≡ words_of_branches tests
  of_branches no_branches = refl
  of_branches (branches e block rest) =
      ap₂ (λ a b. (word KwIf ++ a) ∷ b)
      (both (inside (expression_measures e)) _ (expression_words e) _ (inner e)
      (ap (λ ws. word KwThen ++ ws) (of_inside (block_measures block) ∙ of_block block))
      ∙ sym (nest_3 (expression_words e) (word KwThen) (block_words block))) (of_branches rest)

  of_arms : (rest : PlainArms) → words_of (arm_measures rest) ≡ arm_words rest
  of_arms no_arms = refl
  of_arms (arms at name binds block rest) =
      join (begun at (plains (word KwWhen) ++ (plains (name_words name)
      ++ (enclosed LeftParenthesis RightParenthesis (map bound_measures binds) ++ (plains (word KwDo)
      ++ inside (block_measures block)))))) (arm_measures rest)
      ∙ ap₂ (λ a b. a ++ b)
      (ap (λ ws. w.begun at (word KwWhen ++ name_words name ++ ws))
      (both (enclosed LeftParenthesis RightParenthesis (map bound_measures binds))
      (plains (word KwDo) ++ inside (block_measures block)) (listed_in LeftParenthesis RightParenthesis (map bound_words binds)) _ (of_enclosed_binds binds)
      (ap (λ ws. word KwDo ++ ws) (of_inside (block_measures block) ∙ of_block block))
      ∙ sym (nest_3 (listed_in LeftParenthesis RightParenthesis (map bound_words binds)) (word KwDo)
      (block_words block)))) (of_arms rest)

-- ---- declarations

of_head : (name : Placed Bytes) (parameters : List (InUniverse Bytes)) (universe : Universe) →
    words_of (head_measures name parameters universe) ≡ type_head_words name parameters universe
of_head name parameters universe =
    let list : Words = listed_in LeftBracket RightBracket (map in_universe_words parameters) in
    ap (λ ws. name_words name ++ ws)
    (both (enclosed LeftBracket RightBracket (map (λ (p : InUniverse Bytes). plains (in_universe_words p)) parameters)) _
    list _
    (of_enclosed LeftBracket RightBracket (map (λ (p : InUniverse Bytes). plains (in_universe_words p)) parameters)
    ∙ ap (listed_in LeftBracket RightBracket) (of_map (λ (p : InUniverse Bytes). plains (in_universe_words p))
    in_universe_words (λ p. of_plains (in_universe_words p)) parameters)) refl
    ∙ sym (nest_3 list (mark Colon) (word (universe_word universe))))

of_header : (h : Header Bytes) → words_of (header_measures h) ≡ header_words h
of_header h =
    let list : Words = w.listed (map labelled_words h.parameters) in
    ap (λ ws. name_words h.name ++ mark LeftParenthesis ++ ws)
    (both (m.listed (map labelled_measures h.parameters)) _ list _
    (of_joined (plains (mark Comma)) (map labelled_measures h.parameters)
    ∙ ap (separated (mark Comma)) (of_map labelled_measures labelled_words of_labelled h.parameters))
    (ap (λ ws. mark RightParenthesis ++ (mark Colon ++ ws)) (of_written h.result))
    ∙ sym (nest_4 list (mark RightParenthesis) (mark Colon) (type_words h.result)))

of_fields : (fields : List (Labelled Bytes)) → words_of (fields_measures fields) ≡ fields_words fields
of_fields fields =
    of_flat (λ (field : Labelled Bytes). labelled_measures field ++ plains (mark Semicolon))
    (λ (field : Labelled Bytes). labelled_words field ++ mark Semicolon)
    (λ field. both (labelled_measures field) (plains (mark Semicolon)) (labelled_words field) (mark Semicolon)
    (of_labelled field) refl) fields

of_case_fields : (fields : List (Labelled Bytes)) → words_of (case_fields_measures fields) ≡ case_fields_words fields
of_case_fields [] = refl
of_case_fields (first ∷ rest) = ap (λ ws. word KwIs ++ ws) (of_fields (first ∷ rest))

of_variant : (v : Variant Bytes) → words_of (variant_measures v) ≡ variant_words v
of_variant v = ap (λ ws. word KwCase ++ name_words v.name ++ ws) (of_case_fields v.fields)

of_class_method : (h : Header Bytes) → words_of (class_method_measures h) ≡ class_method_words h
of_class_method h = ap (λ ws. word KwMethod ++ ws)
    (both (header_measures h) (plains (mark Semicolon)) (header_words h) (mark Semicolon) (of_header h) refl)

-- a header and a body, nested to the right
of_body : (h : Header Bytes) (block : PlainStatements) (stop : Pos) → words_of (body_measures h block stop)
    ≡ header_words h ++ (word KwIs ++ (block_words block ++ (end_at stop ++ mark Semicolon)))
of_body h block stop =
    both (header_measures h) _ (header_words h) _ (of_header h)
    (ap (λ ws. word KwIs ++ ws) (both (block_measures block) _ (block_words block) _ (of_block block) refl))

of_method : (x : PlainMethod) → words_of (method_measures x) ≡ method_words x
of_method x = ap (λ ws. word KwMethod ++ ws) (of_body x.header x.body x.stop
    ∙ sym (nest_5 (header_words x.header) (word KwIs) (block_words x.body) (end_at x.stop) (mark Semicolon)))

of_instance : (name : Placed Bytes) (t : WrittenType) → words_of (instance_measures name t) ≡ instance_words name t
of_instance name t = ap (λ ws. word KwInstance ++ name_words name ++ mark LeftParenthesis ++ ws)
    (both (written t) (plains (mark RightParenthesis)) (type_words t) (mark RightParenthesis) (of_written t) refl)

pub of_declaration : (d : PlainDeclaration) → words_of (declaration_measures d) ≡ declaration_words d
of_declaration (constant at name t) =
    ap (λ ws. w.begun at (word KwConstant ++ name_words name ++ mark Colon ++ ws))
    (both (written t) (plains (mark Semicolon)) (type_words t) (mark Semicolon) (of_written t) refl)
of_declaration (opaque_type at name parameters universe) =
    ap (λ ws. w.begun at (word KwType ++ ws))
    (both (head_measures name parameters universe) (plains (mark Semicolon)) (type_head_words name parameters universe)
    (mark Semicolon) (of_head name parameters universe) refl)
of_declaration (record_type at name parameters universe fields) =
    ap (λ ws. w.begun at (word KwRecord ++ ws))
    (both (head_measures name parameters universe) _ (type_head_words name parameters universe) _
    (of_head name parameters universe)
    (ap (λ ws. word KwIs ++ ws) (both (fields_measures fields) _ (fields_words fields) _ (of_fields fields) refl))
    ∙ sym (nest_5 (type_head_words name parameters universe) (word KwIs) (fields_words fields) (word KwEnd)
    (mark Semicolon)))
of_declaration (union_type at name parameters universe cases) =
    ap (λ ws. w.begun at (word KwUnion ++ ws))
    (both (head_measures name parameters universe) _ (type_head_words name parameters universe) _
    (of_head name parameters universe)
    (ap (λ ws. word KwIs ++ ws) (both (flat_map variant_measures cases) _ (flat_map variant_words cases) _
    (of_flat variant_measures variant_words of_variant cases) refl))
    ∙ sym (nest_5 (type_head_words name parameters universe) (word KwIs) (flat_map variant_words cases) (word KwEnd)
    (mark Semicolon)))
of_declaration (function at generics header) =
    of_begun at _ ∙ ap (w.begun at) (both (plains (generic_words generics)) _ (generic_words generics) _
    (of_plains (generic_words generics))
    (ap (λ ws. word KwFunction ++ ws)
    (both (header_measures header) (plains (mark Semicolon)) (header_words header) (mark Semicolon) (of_header header) refl))
    ∙ sym (nest_4 (generic_words generics) (word KwFunction) (header_words header) (mark Semicolon)))
of_declaration (class at name parameter methods) =
    ap (λ ws. w.begun at (word KwTypeclass ++ name_words name ++ mark LeftParenthesis ++ in_universe_words parameter
    ++ mark RightParenthesis ++ word KwIs ++ ws))
    (both (flat_map class_method_measures methods) _ (flat_map class_method_words methods) _
    (of_flat class_method_measures class_method_words of_class_method methods) refl
    ∙ sym (nest_3 (flat_map class_method_words methods) (word KwEnd) (mark Semicolon)))
of_declaration (instance at generics name t) =
    of_begun at _ ∙ ap (w.begun at) (both (plains (generic_words generics)) _ (generic_words generics) _
    (of_plains (generic_words generics))
    (both (instance_measures name t) (plains (mark Semicolon)) (instance_words name t) (mark Semicolon)
    (of_instance name t) refl)
    ∙ sym (nest_3 (generic_words generics) (instance_words name t) (mark Semicolon)))
of_declaration (constant_body at name t e) =
    ap (λ ws. w.begun at (word KwConstant ++ name_words name ++ mark Colon ++ ws))
    (both (written t) _ (type_words t) _ (of_written t)
    (ap (λ ws. mark Assign ++ ws) (both (expression_measures e) (plains (mark Semicolon)) (expression_words e)
    (mark Semicolon) (of_expression e) refl))
    ∙ sym (nest_4 (type_words t) (mark Assign) (expression_words e) (mark Semicolon)))
of_declaration (function_body at generics header body stop) =
    of_begun at _ ∙ ap (w.begun at) (both (plains (generic_words generics)) _ (generic_words generics) _
    (of_plains (generic_words generics)) (ap (λ ws. word KwFunction ++ ws) (of_body header body stop))
    ∙ sym (nest_7 (generic_words generics) (word KwFunction) (header_words header) (word KwIs) (block_words body)
    (end_at stop) (mark Semicolon)))
of_declaration (instance_body at generics name t methods) =
    of_begun at _ ∙ ap (w.begun at) (both (plains (generic_words generics)) _ (generic_words generics) _
    (of_plains (generic_words generics))
    (both (instance_measures name t) _ (instance_words name t) _ (of_instance name t)
    (ap (λ ws. word KwIs ++ ws) (both (flat_map method_measures methods) _ (flat_map method_words methods) _
    (of_flat method_measures method_words of_method methods) refl)))
    ∙ sym (nest_6 (generic_words generics) (instance_words name t) (word KwIs) (flat_map method_words methods)
    (word KwEnd) (mark Semicolon)))

-- ---- files

of_names : (used : ℕ) (names : List (Placed Bytes)) → words_of (module_name_measures used names) ≡ dotted names
of_names used [] = refl
of_names used (x ∷ []) = refl
of_names used (x ∷ y ∷ rest) = ap (λ ws. name_words x ++ mark Dot ++ ws) (of_names (used + length x.name + 1) (y ∷ rest))

of_import : (i : Importing Bytes) → words_of (import_measures i) ≡ import_words i
of_import i =
    let list : Words = w.listed (map renaming_words i.items) in
    ap (λ ws. w.begun i.at (word KwImport ++ ws))
    (both (module_name_measures 0 i.from) _ (dotted i.from) _ (of_names 0 i.from)
    (ap (λ ws. mark LeftParenthesis ++ ws) (both (m.listed (map (λ one. plains (renaming_words one)) i.items)) _ list _
    (of_joined (plains (mark Comma)) (map (λ one. plains (renaming_words one)) i.items)
    ∙ ap (separated (mark Comma)) (of_map (λ one. plains (renaming_words one)) renaming_words
    (λ one. of_plains (renaming_words one)) i.items)) refl))
    ∙ sym (nest_5 (dotted i.from) (mark LeftParenthesis) list (mark RightParenthesis) (mark Semicolon)))

-- the words of a file
pub of_file : (x : PlainModule) → words_of (measures x) ≡ w.words x
of_file x =
    both (flat_map import_measures x.imports) _ (flat_map import_words x.imports) _
    (of_flat import_measures import_words of_import x.imports)
    (of_begun x.at _ ∙ ap (w.begun x.at)
    (both (plains (part_words x.part)) _ (part_words x.part) _ (of_plains (part_words x.part))
    (both (module_name_measures 0 x.name) _ (dotted x.name) _ (of_names 0 x.name)
    (ap (λ ws. word KwIs ++ ws) (both (plains (pragma_words x.pragma)) _ (pragma_words x.pragma) _
    (of_plains (pragma_words x.pragma))
    (both (flat_map declaration_measures x.declarations) _ (flat_map declaration_words x.declarations) _
    (of_flat declaration_measures declaration_words of_declaration x.declarations)
    (of_plains (word KwEnd ++ part_words x.part ++ mark Dot))))))
    ∙ sym (nest_8 (part_words x.part) (dotted x.name) (word KwIs) (pragma_words x.pragma)
    (flat_map declaration_words x.declarations) (word KwEnd) (part_words x.part) (mark Dot))))
