-- What the words of a file tell of its limits, one after another: each word of a tree with what is known
-- with it of how deeply the tree is nested, how deep its types are, how many nodes they have, and how long
-- its modules' names are.
use Rattle.std.specs.Prelude.{ℕ, zero, suc, ◌+◌, Bool, true, false, List, [], ◌∷◌, ◌++◌, map, length}
use Rattle.std.specs.List.{flat_map}
use Rattle.au_base.specs.declared.places.Pos.{Pos}
use Rattle.au_base.specs.declared.tokens.Keyword.TheVariants.{KwIs, KwEnd, KwImport, KwConstant, KwType}
use Rattle.au_base.specs.declared.tokens.Keyword.TheVariants.{KwRecord, KwUnion, KwCase, KwWhen, KwOf, KwDo}
use Rattle.au_base.specs.declared.tokens.Keyword.TheVariants.{KwFunction, KwTypeclass, KwInstance, KwMethod}
use Rattle.au_base.specs.declared.tokens.Keyword.TheVariants.{KwLet, KwIf, KwThen, KwElse, KwWhile, KwFor}
use Rattle.au_base.specs.declared.tokens.Keyword.TheVariants.{KwFrom, KwTo, KwBorrow, KwIn, KwAs, KwReturn}
use Rattle.au_base.specs.declared.tokens.Keyword.TheVariants.{KwSkip, KwNil, KwNot}
use Rattle.au_base.specs.declared.tokens.Sign.{Sign as SignOf}
use Rattle.au_base.specs.declared.tokens.Sign.TheVariants.{Assign, FatArrow, LeftParenthesis}
use Rattle.au_base.specs.declared.tokens.Sign.TheVariants.{RightParenthesis, LeftBracket, RightBracket}
use Rattle.au_base.specs.declared.tokens.Sign.TheVariants.{LeftBrace, RightBrace, Comma, Semicolon, Colon}
use Rattle.au_base.specs.declared.tokens.Sign.TheVariants.{Dot, ReadBorrow, Exclamation, Minus}
use Rattle.au_base.specs.declared.tokens.What.TheVariants.{Text}
use Rattle.au_read_expressions.specs.TypeStops.{is_name}
use Rattle.au_syntax.specs.declared.declarations.Universe.{Universe}
use Rattle.au_syntax.specs.Depths.{expression_depth}
use Rattle.au_syntax.specs.Names.{Placed}
use Rattle.au_syntax.specs.Types.{WrittenType, WrittenTypes, named, reference, no_types, types, Labelled}
use Rattle.au_syntax.specs.Types.{Bound}
use Rattle.au_syntax.specs.Expressions.{number, negative, text, truth, nil, path, arrow, call, named_call}
use Rattle.au_syntax.specs.Expressions.{parenthesized, dereference, borrow, borrow_part, binary, negation}
use Rattle.au_syntax.specs.Expressions.{typed, choice, no_expressions, expressions, no_arguments, arguments}
use Rattle.au_syntax.specs.Statements.{skip, declare, destructure, assign, assign_through, conditional}
use Rattle.au_syntax.specs.Statements.{conditional_else, case_of, while_loop, for_loop, borrow_in}
use Rattle.au_syntax.specs.Statements.{borrow_typed, discard, return_of, no_statements, statements}
use Rattle.au_syntax.specs.Statements.{no_branches, branches, no_arms, arms}
use Rattle.au_syntax.specs.Modules.{InUniverse, Header, Variant, constant, opaque_type}
use Rattle.au_syntax.specs.Modules.{record_type, union_type, function, class, instance, constant_body}
use Rattle.au_syntax.specs.Modules.{function_body, instance_body, Importing}
use Rattle.au_syntax.specs.Plain.{Bytes, PlainExpression, PlainExpressions, PlainArguments, PlainStatement}
use Rattle.au_syntax.specs.Plain.{PlainStatements, PlainBranches, PlainArms, PlainMethod, PlainDeclaration}
use Rattle.au_syntax.specs.Plain.{PlainModule}
use Rattle.au_syntax.specs.Words.{Printed, Words, word, mark, name_words, literal_words, renaming_words}
use Rattle.au_syntax.specs.Words.{access_sign, path_words, arrow_words, mode_sign, operator_words}
use Rattle.au_syntax.specs.Words.{truth_words, binding_word, borrow_words, end_at, universe_word}
use Rattle.au_syntax.specs.Words.{in_universe_words, generic_words, part_words, pragma_words}

-- A word, with what is known with it: the level of the expression or statement that is nested most deeply
-- (0 where the word tells of none), the depth of the type that begins with it, the nodes of the written
-- type up to it and the words of the type before it, and the bytes of the module's name up to it.
pub record Measured : Type 0 where
  pub word : Printed
  pub level : ℕ
  pub depth : ℕ
  pub nodes : ℕ
  pub bytes : ℕ
  pub before : ℕ

abbrev pub Measures : Type 0
Measures = List Measured

-- a word that tells of no limit
abbrev pub plain : Printed → Measured
plain w = record { word = w; level = 0; depth = 0; nodes = 0; bytes = 0; before = 0 }

abbrev pub plains : Words → Measures
plains ws = map plain ws

-- the words alone
abbrev pub words_of : Measures → Words
words_of ws = map (λ (w : Measured). w.word) ws

-- ---- lists of words

-- a word that stands at a place
abbrev pub placed_at : Pos → Measured → Measured
placed_at at w = record {
  word = record { what = w.word.what; places = at ∷ w.word.places };
  level = w.level;
  depth = w.depth;
  nodes = w.nodes;
  bytes = w.bytes;
  before = w.before;
}

-- words of which the first stands at a place
abbrev pub begun : Pos → Measures → Measures
begun at [] = []
begun at (w ∷ ws) = placed_at at w ∷ ws

-- with others between
abbrev pub joined_by : Measures → List Measures → Measures
joined_by between [] = []
joined_by between (first ∷ rest) = first ++ flat_map (λ one. between ++ one) rest

-- with commas between
abbrev pub listed : List Measures → Measures
listed = joined_by (plains (mark Comma))

-- with commas between and signs round them, or nothing where there are none
abbrev pub enclosed : SignOf → SignOf → List Measures → Measures
enclosed left right [] = []
enclosed left right (first ∷ rest) = plains (mark left) ++ (listed (first ∷ rest) ++ plains (mark right))

-- ---- levels

-- a word that tells of this level
abbrev pub with_level : ℕ → Measured → Measured
with_level n w = record {
  word = w.word;
  level = n;
  depth = w.depth;
  nodes = w.nodes;
  bytes = w.bytes;
  before = w.before;
}

-- one deeper, where there is something
abbrev pub lower : ℕ → ℕ
lower zero = zero
lower (suc n) = suc (suc n)

-- 1 at least
abbrev pub some_level : ℕ → ℕ
some_level zero = 1
some_level (suc n) = suc n

abbrev pub sunk : Measured → Measured
sunk w = with_level (lower w.level) w

-- what stands inside an expression or a statement
abbrev pub inside : Measures → Measures
inside ws = map sunk ws

abbrev pub raised : Measured → Measured
raised w = with_level (some_level w.level) w

-- an expression or a statement begins with the first word
abbrev pub rooted : Measures → Measures
rooted [] = []
rooted (w ∷ ws) = raised w ∷ ws

-- and with the second one this is known too
abbrev pub known_second : Measures → Measures
known_second [] = []
known_second (w ∷ ws) = w ∷ rooted ws

-- the first level isn't known yet
abbrev pub not_first : ℕ → ℕ
not_first zero = zero
not_first (suc zero) = zero
not_first (suc (suc n)) = suc (suc n)

abbrev pub unknown : Measured → Measured
unknown w = with_level (not_first w.level) w

abbrev pub known_behind : Bool → Measured → Measures → Measures
known_behind true w ws = unknown w ∷ rooted ws
known_behind false w ws = w ∷ ws

-- where a name begins, the name of a parameter may stand there: that an expression begins is known with the
-- next word
abbrev pub known_late : Measures → Measures
known_late [] = []
known_late (w ∷ ws) = known_behind (is_name w.word.what) w ws

-- an expression or a statement at its place
abbrev pub node : Pos → Measures → Measures
node at ws = begun at (rooted ws)

-- words that tell of a level
abbrev pub at_level : ℕ → Words → Measures
at_level n ws =
    map (λ (w : Printed). record { word = w; level = n; depth = 0; nodes = 0; bytes = 0; before = 0 }) ws

-- ---- types

abbrev pub under_one : Measured → Measured
under_one w = record {
  word = w.word;
  level = w.level;
  depth = lower w.depth;
  nodes = w.nodes;
  bytes = w.bytes;
  before = w.before;
}

-- what stands inside a type
abbrev pub under : Measures → Measures
under ws = map under_one ws

-- a type begins with the first word, which is a node of it
abbrev pub begins_type : Measures → Measures
begins_type [] = []
begins_type (w ∷ ws) =
    record {
      word = w.word;
      level = w.level;
      depth = some_level w.depth;
      nodes = 1;
      bytes = w.bytes;
      before = w.before;
    } ∷ ws

-- the name of a region, which is a node too
abbrev pub region_words : Placed Bytes → Measures
region_words name =
    map (λ (w : Printed). record { word = w; level = 0; depth = 0; nodes = 1; bytes = 0; before = 0 })
    (name_words name)

abbrev mutual
  -- a type, each node by itself
  pub type_measures : WrittenType → Measures
  type_measures (named name args) =
      begins_type (plains (name_words name) ++ enclosed LeftBracket RightBracket (measures_of_types args))
  type_measures (reference at access target region) =
      begun at (begins_type (plains (mark (access_sign access) ++ mark LeftBracket)
      ++ (under (type_measures target) ++ (plains (mark Comma)
      ++ (region_words region ++ plains (mark RightBracket))))))

  pub measures_of_types : WrittenTypes → List Measures
  measures_of_types no_types = []
  measures_of_types (types t rest) = under (type_measures t) ∷ measures_of_types rest

-- the nodes up to each word, and the words before it, where so many were seen
abbrev pub counted : ℕ → ℕ → Measures → Measures
counted seen before [] = []
counted seen before (w ∷ ws) =
    record {
      word = w.word;
      level = w.level;
      depth = w.depth;
      nodes = seen + w.nodes;
      bytes = w.bytes;
      before = before;
    }
    ∷ counted (seen + w.nodes) (suc before) ws

-- a written type
abbrev pub written : WrittenType → Measures
written t = counted 0 0 (type_measures t)

-- a field, a parameter or a bound name, with its type
abbrev pub labelled_measures : Labelled Bytes → Measures
labelled_measures field = plains (name_words field.name) ++ (plains (mark Colon) ++ written field.of)

abbrev pub bound_measures : Bound Bytes → Measures
bound_measures bind = plains (renaming_words bind.name) ++ (plains (mark Colon) ++ written bind.of)

-- ---- expressions

-- a call: that there is one is known with its parenthesis
abbrev pub call_words : Placed Bytes → Measures → Measures
call_words name given = known_second (plains (name_words name) ++ (plains (mark LeftParenthesis) ++ given))

-- the arguments of a call, and the parenthesis behind them
abbrev pub through_arguments : List Measures → Measures
through_arguments given = listed given ++ plains (mark RightParenthesis)

-- where they stand in order
abbrev pub given_in_order : List Measures → Measures
given_in_order given = inside (known_late (through_arguments given))

abbrev mutual
  -- an expression
  pub expression_measures : PlainExpression → Measures
  expression_measures (number site literal) = node site.at (plains (literal_words literal))
  expression_measures (negative site literal) = node site.at (plains (mark Minus ++ literal_words literal))
  expression_measures (text site bytes) =
      node site.at (plains (record { what = Text bytes; places = [] } ∷ []))
  expression_measures (truth site value) = node site.at (plains (truth_words value))
  expression_measures (nil site) = node site.at (plains (word KwNil))
  expression_measures (path site name fields) = node site.at (plains (path_words name fields))
  expression_measures (arrow site name fields) = node site.at (plains (arrow_words name fields))
  expression_measures (call site name args note) =
      node site.at (call_words name (given_in_order (given_measures args)))
  expression_measures (named_call site name args note) =
      node site.at (call_words name (through_arguments (labels_measures args)))
  expression_measures (parenthesized site e) =
      node site.at (plains (mark LeftParenthesis) ++ (inside (expression_measures e)
      ++ plains (mark RightParenthesis)))
  expression_measures (dereference site e) =
      node site.at (plains (mark Exclamation) ++ inside (expression_measures e))
  expression_measures (borrow site mode name) =
      node site.at (plains (mark (mode_sign mode) ++ name_words name))
  expression_measures (borrow_part site name fields) =
      node site.at (plains (mark ReadBorrow ++ mark LeftParenthesis) ++ (plains (arrow_words name fields)
      ++ plains (mark RightParenthesis)))
  -- that the first operand is one deeper is known with the operator
  expression_measures (binary site operator a b) =
      begun site.at ((expression_measures a ++ at_level (1 + expression_depth a) (operator_words operator))
      ++ inside (expression_measures b))
  expression_measures (negation site e) = node site.at (plains (word KwNot) ++ inside (expression_measures e))
  expression_measures (typed site e t) =
      begun site.at ((expression_measures e ++ at_level (1 + expression_depth e) (mark Colon)) ++ written t)
  expression_measures (choice site c a b) =
      node site.at (plains (word KwIf) ++ (inside (expression_measures c) ++ (plains (word KwThen)
      ++ (inside (expression_measures a) ++ (plains (word KwElse) ++ inside (expression_measures b))))))

  -- the arguments of a call
  pub given_measures : PlainExpressions → List Measures
  given_measures no_expressions = []
  given_measures (expressions e rest) = expression_measures e ∷ given_measures rest

  pub labels_measures : PlainArguments → List Measures
  labels_measures no_arguments = []
  labels_measures (arguments label e rest) =
      (plains (name_words label) ++ (plains (mark FatArrow) ++ inside (expression_measures e)))
      ∷ labels_measures rest

-- a call that is a statement
abbrev pub call_measures : PlainExpression → Measures
call_measures (call site name args note) =
    begun site.at (call_words name (given_in_order (given_measures args)))
call_measures (named_call site name args note) =
    begun site.at (call_words name (through_arguments (labels_measures args)))
call_measures other = expression_measures other

-- ---- statements

abbrev mutual
  -- a statement
  pub statement_measures : PlainStatement → Measures
  statement_measures (skip at) = node at (plains (word KwSkip ++ mark Semicolon))
  statement_measures (declare at binding name t e) =
      node at (plains (word (binding_word binding)) ++ (plains (name_words name) ++ (plains (mark Colon)
      ++ (written t ++ (plains (mark Assign) ++ (inside (expression_measures e)
      ++ plains (mark Semicolon)))))))
  statement_measures (destructure at binds e) =
      node at (plains (word KwLet ++ mark LeftBrace) ++ (listed (map bound_measures binds)
      ++ (plains (mark RightBrace ++ mark Assign) ++ (inside (expression_measures e)
      ++ plains (mark Semicolon)))))
  statement_measures (assign at name fields e) =
      node at (plains (path_words name fields) ++ (plains (mark Assign)
      ++ (inside (expression_measures e) ++ plains (mark Semicolon))))
  statement_measures (assign_through at name fields e) =
      node at (plains (arrow_words name fields) ++ (plains (mark Assign)
      ++ (inside (expression_measures e) ++ plains (mark Semicolon))))
  statement_measures (conditional at tests) =
      node at (joined_by (plains (word KwElse)) (branch_measures tests)
      ++ plains (word KwEnd ++ word KwIf ++ mark Semicolon))
  statement_measures (conditional_else at tests block) =
      node at ((joined_by (plains (word KwElse)) (branch_measures tests) ++ (plains (word KwElse)
      ++ inside (block_measures block))) ++ plains (word KwEnd ++ word KwIf ++ mark Semicolon))
  statement_measures (case_of at e rest) =
      node at (plains (word KwCase) ++ (inside (expression_measures e) ++ (plains (word KwOf)
      ++ (arm_measures rest ++ plains (word KwEnd ++ word KwCase ++ mark Semicolon)))))
  statement_measures (while_loop at e block) =
      node at (plains (word KwWhile) ++ (inside (expression_measures e) ++ (plains (word KwDo)
      ++ (inside (block_measures block) ++ plains (word KwEnd ++ word KwWhile ++ mark Semicolon)))))
  statement_measures (for_loop at name a z block) =
      node at (plains (word KwFor) ++ (plains (name_words name) ++ (plains (word KwFrom)
      ++ (inside (expression_measures a) ++ (plains (word KwTo) ++ (inside (expression_measures z)
      ++ (plains (word KwDo) ++ (inside (block_measures block)
      ++ plains (word KwEnd ++ word KwFor ++ mark Semicolon)))))))))
  statement_measures (borrow_in at access x r region block stop) =
      node at (plains (borrow_words access) ++ (plains (name_words x) ++ (plains (word KwAs)
      ++ (plains (name_words r) ++ (plains (word KwIn) ++ (plains (name_words region) ++ (plains (word KwDo)
      ++ (inside (block_measures block) ++ (plains (end_at stop) ++ plains (word KwBorrow
      ++ mark Semicolon))))))))))
  statement_measures (borrow_typed at r t mode x block stop) =
      node at (plains (word KwBorrow) ++ (plains (name_words r) ++ (plains (mark Colon) ++ (written t
      ++ (plains (mark Assign) ++ (plains (mark (mode_sign mode)) ++ (plains (name_words x)
      ++ (plains (word KwDo) ++ (inside (block_measures block) ++ (plains (end_at stop)
      ++ plains (word KwBorrow ++ mark Semicolon)))))))))))
  statement_measures (discard at e) = node at (inside (call_measures e) ++ plains (mark Semicolon))
  statement_measures (return_of at e) =
      node at (plains (word KwReturn) ++ (inside (expression_measures e) ++ plains (mark Semicolon)))

  -- a block
  pub block_measures : PlainStatements → Measures
  block_measures no_statements = []
  block_measures (statements s rest) = statement_measures s ++ block_measures rest

  pub branch_measures : PlainBranches → List Measures
  branch_measures no_branches = []
  branch_measures (branches e block rest) =
      (plains (word KwIf) ++ (inside (expression_measures e) ++ (plains (word KwThen)
      ++ inside (block_measures block)))) ∷ branch_measures rest

  -- the arms of a case
  pub arm_measures : PlainArms → Measures
  arm_measures no_arms = []
  arm_measures (arms at name binds block rest) =
      begun at (plains (word KwWhen) ++ (plains (name_words name)
      ++ (enclosed LeftParenthesis RightParenthesis (map bound_measures binds) ++ (plains (word KwDo)
      ++ inside (block_measures block))))) ++ arm_measures rest

-- ---- declarations

-- the head of a type's declaration
abbrev pub head_measures : Placed Bytes → List (InUniverse Bytes) → Universe → Measures
head_measures name parameters universe =
    plains (name_words name) ++ (enclosed LeftBracket RightBracket
    (map (λ (p : InUniverse Bytes). plains (in_universe_words p)) parameters)
    ++ (plains (mark Colon) ++ plains (word (universe_word universe))))

-- a function's name, parameters and result
abbrev pub header_measures : Header Bytes → Measures
header_measures h =
    plains (name_words h.name) ++ (plains (mark LeftParenthesis)
    ++ (listed (map labelled_measures h.parameters)
    ++ (plains (mark RightParenthesis ++ mark Colon) ++ written h.result)))

-- the fields of a record or a case
abbrev pub fields_measures : List (Labelled Bytes) → Measures
fields_measures fields = flat_map (λ field. labelled_measures field ++ plains (mark Semicolon)) fields

-- the rest of a case behind its name
abbrev pub case_fields_measures : List (Labelled Bytes) → Measures
case_fields_measures [] = plains (mark Semicolon)
case_fields_measures (first ∷ rest) = plains (word KwIs) ++ fields_measures (first ∷ rest)

abbrev pub variant_measures : Variant Bytes → Measures
variant_measures v = plains (word KwCase) ++ (plains (name_words v.name) ++ case_fields_measures v.fields)

abbrev pub class_method_measures : Header Bytes → Measures
class_method_measures h = plains (word KwMethod) ++ (header_measures h ++ plains (mark Semicolon))

-- a header and the body behind it
abbrev pub body_measures : Header Bytes → PlainStatements → Pos → Measures
body_measures h block stop =
    header_measures h ++ (plains (word KwIs) ++ (block_measures block ++ (plains (end_at stop)
    ++ plains (mark Semicolon))))

abbrev pub method_measures : PlainMethod → Measures
method_measures m = plains (word KwMethod) ++ body_measures m.header m.body m.stop

abbrev pub instance_measures : Placed Bytes → WrittenType → Measures
instance_measures name t =
    plains (word KwInstance) ++ (plains (name_words name) ++ (plains (mark LeftParenthesis) ++ (written t
    ++ plains (mark RightParenthesis))))

abbrev pub declaration_measures : PlainDeclaration → Measures
declaration_measures (constant at name t) =
    begun at (plains (word KwConstant) ++ (plains (name_words name) ++ (plains (mark Colon) ++ (written t
    ++ plains (mark Semicolon)))))
declaration_measures (opaque_type at name parameters universe) =
    begun at (plains (word KwType) ++ (head_measures name parameters universe ++ plains (mark Semicolon)))
declaration_measures (record_type at name parameters universe fields) =
    begun at (plains (word KwRecord) ++ (head_measures name parameters universe ++ (plains (word KwIs)
    ++ (fields_measures fields ++ plains (word KwEnd ++ mark Semicolon)))))
declaration_measures (union_type at name parameters universe cases) =
    begun at (plains (word KwUnion) ++ (head_measures name parameters universe ++ (plains (word KwIs)
    ++ (flat_map variant_measures cases ++ plains (word KwEnd ++ mark Semicolon)))))
declaration_measures (function at generics header) =
    begun at (plains (generic_words generics) ++ (plains (word KwFunction) ++ (header_measures header
    ++ plains (mark Semicolon))))
declaration_measures (class at name parameter methods) =
    begun at (plains (word KwTypeclass) ++ (plains (name_words name) ++ (plains (mark LeftParenthesis)
    ++ (plains (in_universe_words parameter) ++ (plains (mark RightParenthesis ++ word KwIs)
    ++ (flat_map class_method_measures methods ++ plains (word KwEnd ++ mark Semicolon)))))))
declaration_measures (instance at generics name t) =
    begun at (plains (generic_words generics) ++ (instance_measures name t ++ plains (mark Semicolon)))
declaration_measures (constant_body at name t e) =
    begun at (plains (word KwConstant) ++ (plains (name_words name) ++ (plains (mark Colon) ++ (written t
    ++ (plains (mark Assign) ++ (expression_measures e ++ plains (mark Semicolon)))))))
declaration_measures (function_body at generics header body stop) =
    begun at (plains (generic_words generics) ++ (plains (word KwFunction) ++ body_measures header body stop))
declaration_measures (instance_body at generics name t methods) =
    begun at (plains (generic_words generics) ++ (instance_measures name t ++ (plains (word KwIs)
    ++ (flat_map method_measures methods ++ plains (word KwEnd ++ mark Semicolon)))))

-- ---- files

-- words that tell of so many bytes
abbrev pub at_bytes : ℕ → Words → Measures
at_bytes n ws =
    map (λ (w : Printed). record { word = w; level = 0; depth = 0; nodes = 0; bytes = n; before = 0 }) ws

-- a module's name, where so many bytes of it stand before
abbrev pub module_name_measures : ℕ → List (Placed Bytes) → Measures
module_name_measures used [] = []
module_name_measures used (x ∷ []) = at_bytes (used + length x.name) (name_words x)
module_name_measures used (x ∷ y ∷ rest) =
    (at_bytes (used + length x.name) (name_words x) ++ plains (mark Dot))
    ++ module_name_measures (used + length x.name + 1) (y ∷ rest)

abbrev pub import_measures : Importing Bytes → Measures
import_measures i =
    begun i.at (plains (word KwImport) ++ (module_name_measures 0 i.from ++ (plains (mark LeftParenthesis)
    ++ (listed (map (λ one. plains (renaming_words one)) i.items) ++ plains (mark RightParenthesis
    ++ mark Semicolon)))))

-- a file
abbrev pub measures : PlainModule → Measures
measures m =
    flat_map import_measures m.imports
    ++ begun m.at (plains (part_words m.part) ++ (module_name_measures 0 m.name ++ (plains (word KwIs)
    ++ (plains (pragma_words m.pragma) ++ (flat_map declaration_measures m.declarations
    ++ plains (word KwEnd ++ part_words m.part ++ mark Dot))))))
