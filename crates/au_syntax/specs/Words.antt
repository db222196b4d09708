-- The words of a tree: its tokens in order, each with the places that the tree keeps for it. There is one
-- case for each row of the grammar; nothing looks ahead and nothing is decided.
use Rattle.std.specs.Prelude.{◌≡◌, Bool, true, false, List, [], ◌∷◌, ◌++◌, map, Option, Some, None, codes}
use Rattle.std.specs.List.{flat_map}
use Rattle.au_base.specs.declared.places.Pos.{Pos}
use Rattle.au_base.specs.declared.tokens.Keyword.{Keyword}
use Rattle.au_base.specs.declared.tokens.Keyword.TheVariants.{KwModule, KwBody, KwIs, KwEnd, KwImport, KwAs}
use Rattle.au_base.specs.declared.tokens.Keyword.TheVariants.{KwPragma, KwConstant, KwType, KwRecord, KwUnion}
use Rattle.au_base.specs.declared.tokens.Keyword.TheVariants.{KwCase, KwWhen, KwOf, KwDo, KwFunction}
use Rattle.au_base.specs.declared.tokens.Keyword.TheVariants.{KwGeneric, KwTypeclass, KwInstance, KwMethod}
use Rattle.au_base.specs.declared.tokens.Keyword.TheVariants.{KwLet, KwVar, KwIf, KwThen, KwElse, KwWhile}
use Rattle.au_base.specs.declared.tokens.Keyword.TheVariants.{KwFor, KwFrom, KwTo, KwBorrow, KwIn, KwReturn}
use Rattle.au_base.specs.declared.tokens.Keyword.TheVariants.{KwSkip, KwNil, KwTrue, KwFalse, KwAnd, KwOr}
use Rattle.au_base.specs.declared.tokens.Keyword.TheVariants.{KwNot, KwFree, KwLinear, KwAnyUniverse}
use Rattle.au_base.specs.declared.tokens.Keyword.TheVariants.{KwRegion}
use Rattle.au_base.specs.declared.tokens.Sign.{Sign as SignOf}
use Rattle.au_base.specs.declared.tokens.Sign.TheVariants.{Assign, FatArrow, Arrow, WriteBorrow, Reborrow}
use Rattle.au_base.specs.declared.tokens.Sign.TheVariants.{NotEqual, LessEqual, GreaterEqual, LeftParenthesis}
use Rattle.au_base.specs.declared.tokens.Sign.TheVariants.{RightParenthesis, LeftBracket, RightBracket}
use Rattle.au_base.specs.declared.tokens.Sign.TheVariants.{LeftBrace, RightBrace, Comma, Semicolon, Colon}
use Rattle.au_base.specs.declared.tokens.Sign.TheVariants.{Dot, ReadBorrow, Exclamation, Plus, Minus, Star}
use Rattle.au_base.specs.declared.tokens.Sign.TheVariants.{Slash, Equal, Less, Greater}
use Rattle.au_base.specs.declared.tokens.Token.{Token}
use Rattle.au_base.specs.declared.tokens.What.{What}
use Rattle.au_base.specs.declared.tokens.What.TheVariants.{Word, Sign, Name, Number, Text}
use Rattle.au_syntax.specs.declared.declarations.Universe.{Universe}
use Rattle.au_syntax.specs.declared.declarations.Universe.TheVariants as universe
use Rattle.au_syntax.specs.declared.expressions.BinaryOperator.{BinaryOperator}
use Rattle.au_syntax.specs.declared.expressions.BinaryOperator.TheVariants as operator
use Rattle.au_syntax.specs.declared.expressions.BorrowMode.{BorrowMode}
use Rattle.au_syntax.specs.declared.expressions.BorrowMode.TheVariants as mode
use Rattle.au_syntax.specs.declared.expressions.Literal.{Literal}
use Rattle.au_syntax.specs.declared.modules.Part.{Part}
use Rattle.au_syntax.specs.declared.modules.Part.TheVariants.{Interface, Body}
use Rattle.au_syntax.specs.declared.statements.Binding.{Binding}
use Rattle.au_syntax.specs.declared.statements.Binding.TheVariants.{Let, Var}
use Rattle.au_syntax.specs.declared.types.Access.{Access}
use Rattle.au_syntax.specs.declared.types.Access.TheVariants as access
use Rattle.au_syntax.specs.Names.{Placed, Renaming}
use Rattle.au_syntax.specs.Types.{WrittenType, WrittenTypes, named, reference, no_types, types, Labelled}
use Rattle.au_syntax.specs.Types.{Bound}
use Rattle.au_syntax.specs.Expressions.{number, negative, text, truth, nil, path, arrow, call, named_call}
use Rattle.au_syntax.specs.Expressions.{parenthesized, dereference, borrow, borrow_part, binary, negation}
use Rattle.au_syntax.specs.Expressions.{typed, choice, no_expressions, expressions, no_arguments, arguments}
use Rattle.au_syntax.specs.Statements.{skip, declare, destructure, assign, assign_through, conditional}
use Rattle.au_syntax.specs.Statements.{conditional_else, case_of, while_loop, for_loop, borrow_in}
use Rattle.au_syntax.specs.Statements.{borrow_typed, discard, return_of, no_statements, statements}
use Rattle.au_syntax.specs.Statements.{no_branches, branches, no_arms, arms}
use Rattle.au_syntax.specs.Modules.{InUniverse, Constrained, Header, Variant, constant, opaque_type}
use Rattle.au_syntax.specs.Modules.{record_type, union_type, function, class, instance, constant_body}
use Rattle.au_syntax.specs.Modules.{function_body, instance_body, Importing}
use Rattle.au_syntax.specs.Plain.{Bytes, PlainExpression, PlainExpressions, PlainArguments, PlainStatement}
use Rattle.au_syntax.specs.Plain.{PlainStatements, PlainBranches, PlainArms, PlainMethod, PlainDeclaration}
use Rattle.au_syntax.specs.Plain.{PlainModule}

-- a token of a tree: what it is, and the places that the tree keeps for it
pub record Printed : Type 0 where
  pub what : What
  pub places : List Pos

abbrev pub Words : Type 0
Words = List Printed

-- a keyword
abbrev pub word : Keyword → Words
word keyword = record { what = Word keyword; places = [] } ∷ []

-- a sign
abbrev pub mark : SignOf → Words
mark sign = record { what = Sign sign; places = [] } ∷ []

-- a name, with its place
abbrev pub name_words : Placed Bytes → Words
name_words name = record { what = Name name.name; places = name.at ∷ [] } ∷ []

-- a number, by its value and how many digits it has
abbrev pub literal_words : Literal → Words
literal_words literal = record { what = Number literal.value literal.digits; places = [] } ∷ []

-- words of which the first stands at a place
abbrev pub begun : Pos → Words → Words
begun at [] = []
begun at (first ∷ rest) = record { what = first.what; places = at ∷ first.places } ∷ rest

-- words with others between
abbrev pub separated : Words → List Words → Words
separated between [] = []
separated between (first ∷ rest) = first ++ flat_map (λ one. between ++ one) rest

-- words with commas between
abbrev pub listed : List Words → Words
listed = separated (mark Comma)

-- words with commas between and signs round them, or nothing where there are none
abbrev pub listed_in : SignOf → SignOf → List Words → Words
listed_in left right [] = []
listed_in left right (first ∷ rest) = mark left ++ listed (first ∷ rest) ++ mark right

-- names with dots between
abbrev pub dotted : List (Placed Bytes) → Words
dotted names = separated (mark Dot) (map name_words names)

-- a name and the name after its `as`
abbrev pub alias_words : Option (Placed Bytes) → Words
alias_words None = []
alias_words (Some alias) = word KwAs ++ name_words alias

abbrev pub renaming_words : Renaming Bytes → Words
renaming_words name = name_words name.name ++ alias_words name.alias

abbrev pub access_sign : Access → SignOf
access_sign access.Read = ReadBorrow
access_sign access.Write = WriteBorrow

abbrev mutual
  -- a written type
  pub type_words : WrittenType → Words
  type_words (named name args) = name_words name ++ listed_in LeftBracket RightBracket (words_of_types args)
  type_words (reference at access target region) =
      begun at (mark (access_sign access) ++ mark LeftBracket ++ type_words target ++ mark Comma
      ++ name_words region ++ mark RightBracket)

  pub words_of_types : WrittenTypes → List Words
  words_of_types no_types = []
  words_of_types (types t rest) = type_words t ∷ words_of_types rest

-- a field, a parameter or a bound name, with its type
abbrev pub labelled_words : Labelled Bytes → Words
labelled_words field = name_words field.name ++ mark Colon ++ type_words field.of

abbrev pub bound_words : Bound Bytes → Words
bound_words bind = renaming_words bind.name ++ mark Colon ++ type_words bind.of

-- a name and fields behind it
abbrev pub path_words : Placed Bytes → List (Placed Bytes) → Words
path_words name fields = dotted (name ∷ fields)

-- a part behind a reference
abbrev pub arrow_words : Placed Bytes → List (Placed Bytes) → Words
arrow_words name fields = name_words name ++ mark Arrow ++ dotted fields

abbrev pub mode_sign : BorrowMode → SignOf
mode_sign mode.Read = ReadBorrow
mode_sign mode.Write = WriteBorrow
mode_sign mode.Reborrow = Reborrow

abbrev pub operator_words : BinaryOperator → Words
operator_words operator.Add = mark Plus
operator_words operator.Subtract = mark Minus
operator_words operator.Multiply = mark Star
operator_words operator.Divide = mark Slash
operator_words operator.Equal = mark Equal
operator_words operator.NotEqual = mark NotEqual
operator_words operator.Less = mark Less
operator_words operator.LessEqual = mark LessEqual
operator_words operator.Greater = mark Greater
operator_words operator.GreaterEqual = mark GreaterEqual
operator_words operator.And = word KwAnd
operator_words operator.Or = word KwOr

abbrev pub truth_words : Bool → Words
truth_words true = word KwTrue
truth_words false = word KwFalse

abbrev mutual
  -- an expression
  pub expression_words : PlainExpression → Words
  expression_words (number node literal) = begun node.at (literal_words literal)
  expression_words (negative node literal) = begun node.at (mark Minus ++ literal_words literal)
  expression_words (text node bytes) = begun node.at (record { what = Text bytes; places = [] } ∷ [])
  expression_words (truth node value) = begun node.at (truth_words value)
  expression_words (nil node) = begun node.at (word KwNil)
  expression_words (path node name fields) = begun node.at (path_words name fields)
  expression_words (arrow node name fields) = begun node.at (arrow_words name fields)
  expression_words (call node name args note) =
      begun node.at (name_words name ++ mark LeftParenthesis ++ listed (words_of_expressions args)
      ++ mark RightParenthesis)
  expression_words (named_call node name args note) =
      begun node.at (name_words name ++ mark LeftParenthesis ++ listed (words_of_arguments args)
      ++ mark RightParenthesis)
  expression_words (parenthesized node e) =
      begun node.at (mark LeftParenthesis ++ expression_words e ++ mark RightParenthesis)
  expression_words (dereference node e) = begun node.at (mark Exclamation ++ expression_words e)
  expression_words (borrow node mode name) = begun node.at (mark (mode_sign mode) ++ name_words name)
  expression_words (borrow_part node name fields) =
      begun node.at (mark ReadBorrow ++ mark LeftParenthesis ++ arrow_words name fields
      ++ mark RightParenthesis)
  expression_words (binary node operator a b) =
      begun node.at (expression_words a ++ operator_words operator ++ expression_words b)
  expression_words (negation node e) = begun node.at (word KwNot ++ expression_words e)
  expression_words (typed node e t) = begun node.at (expression_words e ++ mark Colon ++ type_words t)
  expression_words (choice node c a b) =
      begun node.at (word KwIf ++ expression_words c ++ word KwThen ++ expression_words a ++ word KwElse
      ++ expression_words b)

  pub words_of_expressions : PlainExpressions → List Words
  words_of_expressions no_expressions = []
  words_of_expressions (expressions e rest) = expression_words e ∷ words_of_expressions rest

  pub words_of_arguments : PlainArguments → List Words
  words_of_arguments no_arguments = []
  words_of_arguments (arguments label e rest) =
      (name_words label ++ mark FatArrow ++ expression_words e) ∷ words_of_arguments rest

abbrev pub binding_word : Binding → Keyword
binding_word Let = KwLet
binding_word Var = KwVar

-- `borrow`, or `borrow!` for writing
abbrev pub borrow_words : Access → Words
borrow_words access.Read = word KwBorrow
borrow_words access.Write = word KwBorrow ++ mark Exclamation

-- an `end` that has a place
abbrev pub end_at : Pos → Words
end_at at = begun at (word KwEnd)

abbrev mutual
  -- a statement
  pub statement_words : PlainStatement → Words
  statement_words (skip at) = begun at (word KwSkip ++ mark Semicolon)
  statement_words (declare at binding name t e) =
      begun at (word (binding_word binding) ++ name_words name ++ mark Colon ++ type_words t ++ mark Assign
      ++ expression_words e ++ mark Semicolon)
  statement_words (destructure at binds e) =
      begun at (word KwLet ++ mark LeftBrace ++ listed (map bound_words binds) ++ mark RightBrace
      ++ mark Assign ++ expression_words e ++ mark Semicolon)
  statement_words (assign at name fields e) =
      begun at (path_words name fields ++ mark Assign ++ expression_words e ++ mark Semicolon)
  statement_words (assign_through at name fields e) =
      begun at (arrow_words name fields ++ mark Assign ++ expression_words e ++ mark Semicolon)
  statement_words (conditional at tests) =
      begun at (separated (word KwElse) (words_of_branches tests) ++ word KwEnd ++ word KwIf
      ++ mark Semicolon)
  statement_words (conditional_else at tests block) =
      begun at (separated (word KwElse) (words_of_branches tests) ++ word KwElse ++ block_words block
      ++ word KwEnd ++ word KwIf ++ mark Semicolon)
  statement_words (case_of at e rest) =
      begun at (word KwCase ++ expression_words e ++ word KwOf ++ arm_words rest ++ word KwEnd ++ word KwCase
      ++ mark Semicolon)
  statement_words (while_loop at e block) =
      begun at (word KwWhile ++ expression_words e ++ word KwDo ++ block_words block ++ word KwEnd
      ++ word KwWhile ++ mark Semicolon)
  statement_words (for_loop at name a z block) =
      begun at (word KwFor ++ name_words name ++ word KwFrom ++ expression_words a ++ word KwTo
      ++ expression_words z ++ word KwDo ++ block_words block ++ word KwEnd ++ word KwFor
      ++ mark Semicolon)
  statement_words (borrow_in at access x r region block stop) =
      begun at (borrow_words access ++ name_words x ++ word KwAs ++ name_words r ++ word KwIn
      ++ name_words region ++ word KwDo ++ block_words block ++ end_at stop ++ word KwBorrow
      ++ mark Semicolon)
  statement_words (borrow_typed at r t mode x block stop) =
      begun at (word KwBorrow ++ name_words r ++ mark Colon ++ type_words t ++ mark Assign
      ++ mark (mode_sign mode) ++ name_words x ++ word KwDo ++ block_words block ++ end_at stop
      ++ word KwBorrow ++ mark Semicolon)
  statement_words (discard at e) = begun at (expression_words e ++ mark Semicolon)
  statement_words (return_of at e) = begun at (word KwReturn ++ expression_words e ++ mark Semicolon)

  -- a block
  pub block_words : PlainStatements → Words
  block_words no_statements = []
  block_words (statements s rest) = statement_words s ++ block_words rest

  pub words_of_branches : PlainBranches → List Words
  words_of_branches no_branches = []
  words_of_branches (branches e block rest) =
      (word KwIf ++ expression_words e ++ word KwThen ++ block_words block) ∷ words_of_branches rest

  -- the arms of a case
  pub arm_words : PlainArms → Words
  arm_words no_arms = []
  arm_words (arms at name binds block rest) =
      begun at (word KwWhen ++ name_words name
      ++ listed_in LeftParenthesis RightParenthesis (map bound_words binds) ++ word KwDo
      ++ block_words block) ++ arm_words rest

abbrev pub universe_word : Universe → Keyword
universe_word universe.Free = KwFree
universe_word universe.Linear = KwLinear
universe_word universe.AnyType = KwAnyUniverse
universe_word universe.Region = KwRegion

-- a type parameter
abbrev pub in_universe_words : InUniverse Bytes → Words
in_universe_words p = name_words p.name ++ mark Colon ++ word (universe_word p.universe)

-- a type parameter behind `generic`, with its constraints
abbrev pub constrained_words : Constrained Bytes → Words
constrained_words p =
    in_universe_words p.parameter ++ listed_in LeftParenthesis RightParenthesis (map name_words p.classes)

-- `generic` and its type parameters, or nothing where there are none
abbrev pub generic_words : List (Constrained Bytes) → Words
generic_words [] = []
generic_words (first ∷ rest) =
    word KwGeneric ++ listed_in LeftBracket RightBracket (map constrained_words (first ∷ rest))

-- the head of a type's declaration: its name, type parameters and universe
abbrev pub type_head_words : Placed Bytes → List (InUniverse Bytes) → Universe → Words
type_head_words name parameters universe =
    name_words name ++ listed_in LeftBracket RightBracket (map in_universe_words parameters) ++ mark Colon
    ++ word (universe_word universe)

-- a function's name, parameters and result
abbrev pub header_words : Header Bytes → Words
header_words h =
    name_words h.name ++ mark LeftParenthesis ++ listed (map labelled_words h.parameters)
    ++ mark RightParenthesis ++ mark Colon ++ type_words h.result

-- the fields of a record or a case
abbrev pub fields_words : List (Labelled Bytes) → Words
fields_words fields = flat_map (λ field. labelled_words field ++ mark Semicolon) fields

-- the rest of a case behind its name: without fields it ends there
abbrev pub case_fields_words : List (Labelled Bytes) → Words
case_fields_words [] = mark Semicolon
case_fields_words (first ∷ rest) = word KwIs ++ fields_words (first ∷ rest)

-- a case of a union
abbrev pub variant_words : Variant Bytes → Words
variant_words v = word KwCase ++ name_words v.name ++ case_fields_words v.fields

-- a method of a class
abbrev pub class_method_words : Header Bytes → Words
class_method_words h = word KwMethod ++ header_words h ++ mark Semicolon

-- a method of an instance
abbrev pub method_words : PlainMethod → Words
method_words m =
    word KwMethod ++ header_words m.header ++ word KwIs ++ block_words m.body ++ end_at m.stop
    ++ mark Semicolon

-- the class and the type of an instance
abbrev pub instance_words : Placed Bytes → WrittenType → Words
instance_words name t =
    word KwInstance ++ name_words name ++ mark LeftParenthesis ++ type_words t ++ mark RightParenthesis

-- a declaration
abbrev pub declaration_words : PlainDeclaration → Words
declaration_words (constant at name t) =
    begun at (word KwConstant ++ name_words name ++ mark Colon ++ type_words t ++ mark Semicolon)
declaration_words (opaque_type at name parameters universe) =
    begun at (word KwType ++ type_head_words name parameters universe ++ mark Semicolon)
declaration_words (record_type at name parameters universe fields) =
    begun at (word KwRecord ++ type_head_words name parameters universe ++ word KwIs ++ fields_words fields
    ++ word KwEnd ++ mark Semicolon)
declaration_words (union_type at name parameters universe cases) =
    begun at (word KwUnion ++ type_head_words name parameters universe ++ word KwIs
    ++ flat_map variant_words cases ++ word KwEnd ++ mark Semicolon)
declaration_words (function at generics header) =
    begun at (generic_words generics ++ word KwFunction ++ header_words header ++ mark Semicolon)
declaration_words (class at name parameter methods) =
    begun at (word KwTypeclass ++ name_words name ++ mark LeftParenthesis ++ in_universe_words parameter
    ++ mark RightParenthesis ++ word KwIs ++ flat_map class_method_words methods ++ word KwEnd
    ++ mark Semicolon)
declaration_words (instance at generics name t) =
    begun at (generic_words generics ++ instance_words name t ++ mark Semicolon)
declaration_words (constant_body at name t e) =
    begun at (word KwConstant ++ name_words name ++ mark Colon ++ type_words t ++ mark Assign
    ++ expression_words e ++ mark Semicolon)
declaration_words (function_body at generics header body stop) =
    begun at (generic_words generics ++ word KwFunction ++ header_words header ++ word KwIs
    ++ block_words body ++ end_at stop ++ mark Semicolon)
declaration_words (instance_body at generics name t methods) =
    begun at (generic_words generics ++ instance_words name t ++ word KwIs ++ flat_map method_words methods
    ++ word KwEnd ++ mark Semicolon)

-- an import
abbrev pub import_words : Importing Bytes → Words
import_words i =
    begun i.at (word KwImport ++ dotted i.from ++ mark LeftParenthesis ++ listed (map renaming_words i.items)
    ++ mark RightParenthesis ++ mark Semicolon)

-- `module` or `module body`
abbrev pub part_words : Part → Words
part_words Interface = word KwModule
part_words Body = word KwModule ++ word KwBody

-- `pragma Unsafe_Module;`, if it is written
abbrev pub pragma_words : Option Pos → Words
pragma_words None = []
pragma_words (Some at) =
    begun at (word KwPragma ++ record { what = Name (codes "Unsafe_Module"); places = [] } ∷ mark Semicolon)

-- the words of a file
abbrev pub words : PlainModule → Words
words m =
    flat_map import_words m.imports
    ++ begun m.at (part_words m.part ++ dotted m.name ++ word KwIs ++ pragma_words m.pragma
    ++ flat_map declaration_words m.declarations ++ word KwEnd ++ part_words m.part ++ mark Dot)

-- A token stands at each of these places.
abbrev pub StandsAt : List Pos → Token → Type 0
StandsAt [] token = Unit {0}
StandsAt (at ∷ places) token = (token.at ≡ at) × StandsAt places token

-- A token is this word: it says the same, and stands at each place that is kept for it.
abbrev pub IsWord : Printed → Token → Type 0
IsWord printed token = (token.what ≡ printed.what) × StandsAt printed.places token

-- The tokens are these words.
abbrev pub AreWords : Words → List Token → Type 0
AreWords [] [] = Unit {0}
AreWords (printed ∷ words) (token ∷ tokens) = IsWord printed token × AreWords words tokens
AreWords [] (token ∷ tokens) = ⊥
AreWords (printed ∷ words) [] = ⊥

-- The tokens are the words of this file.
abbrev pub Spells : PlainModule → List Token → Type 0
Spells m tokens = AreWords (words m) tokens

-- what words are, without their places
abbrev pub spelled : Words → List What
spelled words = map (λ (printed : Printed). printed.what) words
