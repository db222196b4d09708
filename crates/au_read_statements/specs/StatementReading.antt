-- Reading statements and blocks.
use Rattle.std.specs.Prelude.{ℕ, suc, Bool, true, false, not, ◌&&◌, List, [], ◌∷◌, Option, Some, None, Ok}
use Rattle.std.specs.Prelude.{Err, length, drop, cond}
use Prim.Native.Nat.{zero}
use Rattle.au_base.specs.declared.places.Pos.{Pos}
use Rattle.au_base.specs.declared.tokens.Keyword.{Keyword}
use Rattle.au_base.specs.declared.tokens.Keyword.TheVariants.{KwSkip, KwLet, KwVar, KwIf, KwThen, KwElse}
use Rattle.au_base.specs.declared.tokens.Keyword.TheVariants.{KwCase, KwOf, KwWhen, KwDo, KwWhile, KwFor}
use Rattle.au_base.specs.declared.tokens.Keyword.TheVariants.{KwFrom, KwTo, KwBorrow, KwAs, KwIn, KwReturn}
use Rattle.au_base.specs.declared.tokens.Keyword.TheVariants.{KwEnd}
use Rattle.au_base.specs.declared.tokens.Sign.TheVariants.{Assign, Arrow, WriteBorrow, Reborrow}
use Rattle.au_base.specs.declared.tokens.Sign.TheVariants.{LeftParenthesis, RightParenthesis, LeftBrace}
use Rattle.au_base.specs.declared.tokens.Sign.TheVariants.{RightBrace, Semicolon, Colon, ReadBorrow}
use Rattle.au_base.specs.declared.tokens.Sign.TheVariants.{Exclamation}
use Rattle.au_base.specs.declared.tokens.Token.{Token}
use Rattle.au_base.specs.declared.tokens.What.{What}
use Rattle.au_base.specs.declared.tokens.What.TheVariants.{Word, Sign, Name}
use Rattle.au_syntax.specs.declared.expressions.BorrowMode.{BorrowMode}
use Rattle.au_syntax.specs.declared.expressions.BorrowMode.TheVariants as mode
use Rattle.au_syntax.specs.declared.statements.Binding.{Binding}
use Rattle.au_syntax.specs.declared.statements.Binding.TheVariants.{Let, Var}
use Rattle.au_syntax.specs.declared.types.Access.{Access}
use Rattle.au_syntax.specs.declared.types.Access.TheVariants as access
use Rattle.au_syntax.specs.Names.{Placed, Renaming}
use Rattle.au_syntax.specs.Plain.{Bytes, PlainExpression, PlainStatement, PlainStatements, PlainBranches}
use Rattle.au_syntax.specs.Plain.{PlainArms}
use Rattle.au_syntax.specs.Statements.{skip, declare, destructure, assign, assign_through, conditional}
use Rattle.au_syntax.specs.Statements.{conditional_else, case_of, while_loop, for_loop, borrow_in}
use Rattle.au_syntax.specs.Statements.{borrow_typed, discard, return_of, no_statements, statements}
use Rattle.au_syntax.specs.Statements.{no_branches, branches, no_arms, arms}
use Rattle.au_syntax.specs.Types.{WrittenType, Bound}
use Rattle.au_read_expressions.specs.declared.faults.Fault.TheVariants.{Passed}
use Rattle.au_read_expressions.specs.Bounds.{Bounds, nesting_limit}
use Rattle.au_read_expressions.specs.Reading.{Read, ◌>>=◌, front, is_front, begins_with, no, value_at}
use Rattle.au_read_expressions.specs.Reading.{name_at}
use Rattle.au_read_expressions.specs.Reading.{exactly, behind_tokens, closed, pair, shaped}
use Rattle.au_read_expressions.specs.Reading.{built, before_all, repeated}
use Rattle.au_read_expressions.specs.Reading.{listed, bracketed, optional, fields_at}
use Rattle.au_read_expressions.specs.TypeReading.{type_at}
use Rattle.au_read_expressions.specs.ExpressionReading.{arrow_parts, expression_at, call_at}

-- with which tokens a statement begins
abbrev pub begins_statement : Option What → Bool
begins_statement (Some (Name bytes)) = true
begins_statement (Some (Word KwSkip)) = true
begins_statement (Some (Word KwLet)) = true
begins_statement (Some (Word KwVar)) = true
begins_statement (Some (Word KwIf)) = true
begins_statement (Some (Word KwCase)) = true
begins_statement (Some (Word KwWhile)) = true
begins_statement (Some (Word KwFor)) = true
begins_statement (Some (Word KwBorrow)) = true
begins_statement (Some (Word KwReturn)) = true
begins_statement other = false

-- a token that doesn't continue a block
abbrev pub ends_block : Option What → Bool
ends_block what = not (begins_statement what)

-- ---- parts of statements

-- a name and the name after its `as`
abbrev pub renaming_of : Placed Bytes × Option (Placed Bytes) → Renaming Bytes
renaming_of x = record { name = x.0; alias = x.1 }

abbrev pub renaming_at : List Token → Read (Renaming Bytes)
renaming_at = shaped renaming_of (pair name_at (optional (Word KwAs) name_at))

-- a field that is bound
abbrev pub bound_of : Renaming Bytes × WrittenType → Bound Bytes
bound_of x = record { name = x.0; of = x.1 }

abbrev pub bound_at : Bounds → List Token → Read (Bound Bytes)
bound_at b = shaped bound_of (pair renaming_at (behind_tokens (Sign Colon ∷ []) (type_at b)))

-- an `end` that has a place
abbrev pub place_alone : Pos → Unit {0} → Pos
place_alone at x = at

abbrev pub end_place : List Token → Read Pos
end_place = built place_alone (exactly (Word KwEnd ∷ []))

-- how a variable is borrowed
abbrev pub mode_of : What → Option BorrowMode
mode_of (Sign ReadBorrow) = Some mode.Read
mode_of (Sign WriteBorrow) = Some mode.Write
mode_of (Sign Reborrow) = Some mode.Reborrow
mode_of other = None

abbrev pub mode_at : List Token → Read BorrowMode
mode_at = value_at (λ token. mode_of token.what)

-- `borrow`, or `borrow!`
abbrev pub borrow_whats : Access → List What
borrow_whats access.Read = Word KwBorrow ∷ []
borrow_whats access.Write = Word KwBorrow ∷ Sign Exclamation ∷ []

-- ---- trees of parts

-- an arm by its parts: the place of `when`, the case, what is bound, and the block
pub record ArmParts : Type 0 where
  pub at : Pos
  pub name : Placed Bytes
  pub binds : List (Bound Bytes)
  pub block : PlainStatements

abbrev pub arm_of : Pos → Placed Bytes × (List (Bound Bytes) × PlainStatements) → ArmParts
arm_of at x = record { at = at; name = x.0; binds = x.1.0; block = x.1.1 }

abbrev pub arms_of : List ArmParts → PlainArms
arms_of [] = no_arms
arms_of (a ∷ rest) = arms a.at a.name a.binds a.block (arms_of rest)

abbrev pub branches_of : List (PlainExpression × PlainStatements) → PlainBranches
branches_of [] = no_branches
branches_of (x ∷ rest) = branches x.0 x.1 (branches_of rest)

abbrev pub statements_of : List PlainStatement → PlainStatements
statements_of [] = no_statements
statements_of (s ∷ rest) = statements s (statements_of rest)

abbrev pub skip_of : Pos → Unit {0} → PlainStatement
skip_of at x = skip at

abbrev pub declare_of : Binding → Pos → Placed Bytes × (WrittenType × PlainExpression) → PlainStatement
declare_of binding at x = declare at binding x.0 x.1.0 x.1.1

abbrev pub destructure_of : Pos → List (Bound Bytes) × PlainExpression → PlainStatement
destructure_of at x = destructure at x.0 x.1

abbrev pub assign_of : Pos → (Placed Bytes × List (Placed Bytes)) × PlainExpression → PlainStatement
assign_of at x = assign at x.0.0 x.0.1 x.1

abbrev pub assign_through_of : Pos → (Placed Bytes × List (Placed Bytes)) × PlainExpression → PlainStatement
assign_through_of at x = assign_through at x.0.0 x.0.1 x.1

abbrev pub conditional_by : Pos → List (PlainExpression × PlainStatements) → Option PlainStatements
    → PlainStatement
conditional_by at tests None = conditional at (branches_of tests)
conditional_by at tests (Some block) = conditional_else at (branches_of tests) block

abbrev pub conditional_of : Pos → List (PlainExpression × PlainStatements) × Option PlainStatements
    → PlainStatement
conditional_of at x = conditional_by at x.0 x.1

abbrev pub case_of_parts : Pos → PlainExpression × List ArmParts → PlainStatement
case_of_parts at x = case_of at x.0 (arms_of x.1)

abbrev pub while_of : Pos → PlainExpression × PlainStatements → PlainStatement
while_of at x = while_loop at x.0 x.1

abbrev pub for_of : Pos → Placed Bytes × (PlainExpression × (PlainExpression × PlainStatements))
    → PlainStatement
for_of at x = for_loop at x.0 x.1.0 x.1.1.0 x.1.1.1

abbrev pub borrow_in_of : Access → Pos
    → Placed Bytes × (Placed Bytes × (Placed Bytes × (PlainStatements × Pos))) → PlainStatement
borrow_in_of access at x = borrow_in at access x.0 x.1.0 x.1.1.0 x.1.1.1.0 x.1.1.1.1

abbrev pub borrow_typed_of : Pos
    → Placed Bytes × (WrittenType × (BorrowMode × (Placed Bytes × (PlainStatements × Pos)))) → PlainStatement
borrow_typed_of at x = borrow_typed at x.0 x.1.0 x.1.1.0 x.1.1.1.0 x.1.1.1.1.0 x.1.1.1.1.1

abbrev pub discard_of : Pos → PlainExpression → PlainStatement
discard_of at e = discard at e

abbrev pub return_of_part : Pos → PlainExpression → PlainStatement
return_of_part at e = return_of at e

-- ---- readers

-- whether the next two tokens are `else if`
abbrev pub else_if : List Token → Bool
else_if tokens = begins_with (Word KwElse) tokens && begins_with (Word KwIf) (drop 1 tokens)

-- `inner` reads the expressions inside, `calls` a call, and `blocks` the blocks inside
module _ (b : Bounds) (inner calls : List Token → Read PlainExpression)
    (blocks : List Token → Read PlainStatements) where
  -- `let NAME: TYPE := EXPRESSION;`
  unfoldable pub declare_with : Keyword → Binding → List Token → Read PlainStatement
  declare_with word binding =
      built (declare_of binding)
      (behind_tokens (Word word ∷ [])
      (pair name_at (behind_tokens (Sign Colon ∷ [])
      (pair (type_at b) (behind_tokens (Sign Assign ∷ []) (closed (Sign Semicolon ∷ []) inner))))))

  -- `let { .. } := EXPRESSION;`
  unfoldable pub destructure_with : List Token → Read PlainStatement
  destructure_with =
      built destructure_of
      (behind_tokens (Word KwLet ∷ Sign LeftBrace ∷ [])
      (pair (listed (bound_at b))
      (behind_tokens (Sign RightBrace ∷ Sign Assign ∷ []) (closed (Sign Semicolon ∷ []) inner))))

  -- `NAME.FIELD := EXPRESSION;`
  unfoldable pub assign_with : List Token → Read PlainStatement
  assign_with =
      built assign_of (pair (pair name_at fields_at)
      (behind_tokens (Sign Assign ∷ []) (closed (Sign Semicolon ∷ []) inner)))

  -- `NAME->FIELD := EXPRESSION;`
  unfoldable pub assign_through_with : List Token → Read PlainStatement
  assign_through_with =
      built assign_through_of
      (pair arrow_parts (behind_tokens (Sign Assign ∷ []) (closed (Sign Semicolon ∷ []) inner)))

  -- `if EXPRESSION then BLOCK`
  unfoldable pub branch_with : List Token → Read (PlainExpression × PlainStatements)
  branch_with = behind_tokens (Word KwIf ∷ []) (pair inner (behind_tokens (Word KwThen ∷ []) blocks))

  -- Branches with `else` between, as long as `else if` follows. The number bounds how many there may be.
  abbrev pub after_branch : (List Token → Read (List (PlainExpression × PlainStatements)))
      → (PlainExpression × PlainStatements) × List Token → Read (List (PlainExpression × PlainStatements))
  after_branch others x = cond (else_if x.1) (others (drop 1 x.1) >>= before_all x.0) (Ok (x.0 ∷ [], x.1))

  abbrev pub branches_within : ℕ → List Token → Read (List (PlainExpression × PlainStatements))
  branches_within zero tokens = no tokens
  branches_within (suc k) tokens = branch_with tokens >>= after_branch (branches_within k)

  unfoldable pub branches_with : List Token → Read (List (PlainExpression × PlainStatements))
  branches_with tokens = branches_within (length tokens) tokens

  -- `if .. end if;`, with an `else` block or without
  unfoldable pub conditional_with : List Token → Read PlainStatement
  conditional_with =
      built conditional_of (closed (Word KwEnd ∷ Word KwIf ∷ Sign Semicolon ∷ [])
      (pair branches_with (optional (Word KwElse) blocks)))

  -- `when NAME(..) do BLOCK`
  unfoldable pub arm_with : List Token → Read ArmParts
  arm_with =
      built arm_of (behind_tokens (Word KwWhen ∷ [])
      (pair name_at (pair (bracketed LeftParenthesis RightParenthesis (bound_at b))
      (behind_tokens (Word KwDo ∷ []) blocks))))

  unfoldable pub arms_with : List Token → Read (List ArmParts)
  arms_with = repeated (is_front (Word KwWhen)) arm_with

  -- `case EXPRESSION of .. end case;`
  unfoldable pub case_with : List Token → Read PlainStatement
  case_with =
      built case_of_parts
      (behind_tokens (Word KwCase ∷ [])
      (pair inner (behind_tokens (Word KwOf ∷ [])
      (closed (Word KwEnd ∷ Word KwCase ∷ Sign Semicolon ∷ []) arms_with))))

  -- `while EXPRESSION do BLOCK end while;`
  unfoldable pub while_with : List Token → Read PlainStatement
  while_with =
      built while_of
      (behind_tokens (Word KwWhile ∷ [])
      (pair inner (behind_tokens (Word KwDo ∷ [])
      (closed (Word KwEnd ∷ Word KwWhile ∷ Sign Semicolon ∷ []) blocks))))

  -- `for NAME from EXPRESSION to EXPRESSION do BLOCK end for;`
  unfoldable pub for_with : List Token → Read PlainStatement
  for_with =
      built for_of
      (behind_tokens (Word KwFor ∷ [])
      (pair name_at (behind_tokens (Word KwFrom ∷ [])
      (pair inner (behind_tokens (Word KwTo ∷ [])
      (pair inner (behind_tokens (Word KwDo ∷ [])
      (closed (Word KwEnd ∷ Word KwFor ∷ Sign Semicolon ∷ []) blocks))))))))

  -- a block of a borrow, and the place of its `end`
  unfoldable pub borrowed_block : List Token → Read (PlainStatements × Pos)
  borrowed_block =
      behind_tokens (Word KwDo ∷ []) (pair blocks (closed (Word KwBorrow ∷ Sign Semicolon ∷ []) end_place))

  -- `borrow NAME as NAME in NAME do BLOCK end borrow;`, or with `borrow!`
  unfoldable pub borrow_in_with : Access → List Token → Read PlainStatement
  borrow_in_with access =
      built (borrow_in_of access)
      (behind_tokens (borrow_whats access)
      (pair name_at (behind_tokens (Word KwAs ∷ [])
      (pair name_at (behind_tokens (Word KwIn ∷ []) (pair name_at borrowed_block))))))

  -- `borrow NAME: TYPE := &NAME do BLOCK end borrow;`
  unfoldable pub borrow_typed_with : List Token → Read PlainStatement
  borrow_typed_with =
      built borrow_typed_of
      (behind_tokens (Word KwBorrow ∷ [])
      (pair name_at (behind_tokens (Sign Colon ∷ [])
      (pair (type_at b) (behind_tokens (Sign Assign ∷ []) (pair mode_at (pair name_at borrowed_block)))))))

  -- `CALL;`
  unfoldable pub discard_with : List Token → Read PlainStatement
  discard_with = built discard_of (closed (Sign Semicolon ∷ []) calls)

  -- `return EXPRESSION;`
  unfoldable pub return_with : List Token → Read PlainStatement
  return_with = built return_of_part (behind_tokens (Word KwReturn ∷ []) (closed (Sign Semicolon ∷ []) inner))

  -- `skip;`
  unfoldable pub skip_at : List Token → Read PlainStatement
  skip_at = built skip_of (exactly (Word KwSkip ∷ Sign Semicolon ∷ []))

  -- what begins with `let`, by the second token
  abbrev pub let_by : Option What → List Token → Read PlainStatement
  let_by (Some (Sign LeftBrace)) tokens = destructure_with tokens
  let_by other tokens = declare_with KwLet Let tokens

  -- what begins with a name, by the second token
  abbrev pub named_by : Option What → List Token → Read PlainStatement
  named_by (Some (Sign LeftParenthesis)) tokens = discard_with tokens
  named_by (Some (Sign Arrow)) tokens = assign_through_with tokens
  named_by other tokens = assign_with tokens

  -- what begins with `borrow`, by the second and third token
  abbrev pub borrow_by : Option What → Option What → List Token → Read PlainStatement
  borrow_by (Some (Sign Exclamation)) third tokens = borrow_in_with access.Write tokens
  borrow_by other (Some (Sign Colon)) tokens = borrow_typed_with tokens
  borrow_by other third tokens = borrow_in_with access.Read tokens

  -- a statement, by its first tokens
  abbrev pub statement_by : Option What → List Token → Read PlainStatement
  statement_by (Some (Word KwSkip)) tokens = skip_at tokens
  statement_by (Some (Word KwLet)) tokens = let_by (front (drop 1 tokens)) tokens
  statement_by (Some (Word KwVar)) tokens = declare_with KwVar Var tokens
  statement_by (Some (Word KwIf)) tokens = conditional_with tokens
  statement_by (Some (Word KwCase)) tokens = case_with tokens
  statement_by (Some (Word KwWhile)) tokens = while_with tokens
  statement_by (Some (Word KwFor)) tokens = for_with tokens
  statement_by (Some (Word KwBorrow)) tokens =
      borrow_by (front (drop 1 tokens)) (front (drop 2 tokens)) tokens
  statement_by (Some (Word KwReturn)) tokens = return_with tokens
  statement_by (Some (Name bytes)) tokens = named_by (front (drop 1 tokens)) tokens
  statement_by other tokens = no tokens

  unfoldable pub statement_with : List Token → Read PlainStatement
  statement_with tokens = statement_by (front tokens) tokens

-- a block of statements that are read so
abbrev pub block_with : (List Token → Read PlainStatement) → List Token → Read PlainStatements
block_with one = shaped statements_of (repeated begins_statement one)

module _ (b : Bounds) where
  -- a statement, with so many levels left
  unfoldable pub statement_at : ℕ → List Token → Read PlainStatement
  statement_at zero tokens =
      cond (begins_statement (front tokens)) (Err (Passed (nesting_limit b) (length tokens))) (no tokens)
  statement_at (suc n) tokens =
      statement_with b (expression_at b n) (call_at b n) (block_with (statement_at n)) tokens

  -- a block, with so many levels left for its statements
  unfoldable pub block_at : ℕ → List Token → Read PlainStatements
  block_at n = block_with (statement_at n)
