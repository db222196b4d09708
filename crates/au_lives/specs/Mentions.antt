-- How often a variable is mentioned in an expression, and how.
use Rattle.std.specs.Prelude.{ℕ, ◌+◌, ◌==◌, Bool, true, false, ◌||◌, ◌&&◌, List, [], ◌∷◌, if◌then◌else◌}
use Rattle.std.specs.Str.{bytes_eq}
use Rattle.au_syntax.specs.declared.expressions.BinaryOperator.{BinaryOperator}
use Rattle.au_syntax.specs.declared.expressions.BinaryOperator.TheVariants as operators
use Rattle.au_syntax.specs.declared.expressions.BorrowMode.{BorrowMode}
use Rattle.au_syntax.specs.declared.expressions.BorrowMode.TheVariants as modes
use Rattle.au_syntax.specs.Names.{Placed}
use Rattle.au_syntax.specs.Expressions.{number, negative, text, truth, nil, path, arrow, call, named_call}
use Rattle.au_syntax.specs.Expressions.{parenthesized, dereference, borrow, borrow_part, binary, negation}
use Rattle.au_syntax.specs.Expressions.{typed, choice, no_expressions, expressions, no_arguments, arguments}
use Rattle.au_syntax.specs.Plain.{Bytes, PlainExpression, PlainExpressions, PlainArguments}

-- how often a variable is consumed, write-borrowed, read-borrowed and looked at
pub record Counts : Type 0 where
  pub consumed : ℕ
  pub written : ℕ
  pub read : ℕ
  pub looked : ℕ

abbrev pub counts : ℕ → ℕ → ℕ → ℕ → Counts
counts c w r l = record { consumed = c; written = w; read = r; looked = l }

abbrev pub unmentioned : Counts
unmentioned = counts 0 0 0 0

abbrev pub one_consumption : Counts
one_consumption = counts 1 0 0 0

abbrev pub one_write_borrow : Counts
one_write_borrow = counts 0 1 0 0

abbrev pub one_read_borrow : Counts
one_read_borrow = counts 0 0 1 0

abbrev pub one_look : Counts
one_look = counts 0 0 0 1

-- the mentions of two parts
abbrev pub plus : Counts → Counts → Counts
plus a b = counts (a.consumed + b.consumed) (a.written + b.written) (a.read + b.read) (a.looked + b.looked)

-- `&x` borrows for reading, `&!x` and `&~x` for writing
abbrev pub borrowed_by : BorrowMode → Counts
borrowed_by modes.Read = one_read_borrow
borrowed_by modes.Write = one_write_borrow
borrowed_by modes.Reborrow = one_write_borrow

-- a variable alone is looked at where its type is Free, and else consumed; the head of a path is looked at
abbrev pub mentioned_with : Bool → List (Placed Bytes) → Counts
mentioned_with true [] = one_look
mentioned_with false [] = one_consumption
mentioned_with free (field ∷ fields) = one_look

-- an expression that is a variable or a constant alone, or that in parentheses
abbrev pub is_variable : PlainExpression → Bool
is_variable (path node name []) = true
is_variable (parenthesized node e) = is_variable e
is_variable e = false

-- the operator may leave out its right side
abbrev pub may_skip : BinaryOperator → Bool
may_skip operators.And = true
may_skip operators.Or = true
may_skip operator = false

module _ (x : Bytes) where
  -- what a mention counts where it is one of x
  abbrev pub where_named : Bytes → Counts → Counts
  where_named name one = if bytes_eq name x then one else unmentioned

  abbrev mutual
    -- The mentions of x in an expression, by whether the type of x is Free. What `!` stands before is only
    -- looked at where it is a variable, and so is what is Free.
    pub counts_in : Bool → PlainExpression → Counts
    counts_in free (number node literal) = unmentioned
    counts_in free (negative node literal) = unmentioned
    counts_in free (text node bytes) = unmentioned
    counts_in free (truth node value) = unmentioned
    counts_in free (nil node) = unmentioned
    counts_in free (path node name fields) = where_named name.name (mentioned_with free fields)
    counts_in free (arrow node name fields) = where_named name.name one_look
    counts_in free (call node name args note) = counts_in_all free args
    counts_in free (named_call node name args note) = counts_in_arguments free args
    counts_in free (parenthesized node e) = counts_in free e
    counts_in free (dereference node e) = counts_in (free || is_variable e) e
    counts_in free (borrow node mode name) = where_named name.name (borrowed_by mode)
    counts_in free (borrow_part node name fields) = where_named name.name one_look
    counts_in free (binary node operator a b) = plus (counts_in free a) (counts_in free b)
    counts_in free (negation node e) = counts_in free e
    counts_in free (typed node e t) = counts_in free e
    counts_in free (choice node c a b) = plus (counts_in free c) (plus (counts_in free a) (counts_in free b))

    pub counts_in_all : Bool → PlainExpressions → Counts
    counts_in_all free no_expressions = unmentioned
    counts_in_all free (expressions e rest) = plus (counts_in free e) (counts_in_all free rest)

    pub counts_in_arguments : Bool → PlainArguments → Counts
    counts_in_arguments free no_arguments = unmentioned
    counts_in_arguments free (arguments label e rest) =
        plus (counts_in free e) (counts_in_arguments free rest)

  -- x isn't consumed in the expression
  abbrev pub is_kept : Bool → PlainExpression → Bool
  is_kept free e = (counts_in free e).consumed == 0

  abbrev mutual
    -- x isn't consumed where the expression may leave out to look: in no branch of a conditional expression,
    -- and in no right side of `and` or `or`
    pub keeps_parts : Bool → PlainExpression → Bool
    keeps_parts free (number node literal) = true
    keeps_parts free (negative node literal) = true
    keeps_parts free (text node bytes) = true
    keeps_parts free (truth node value) = true
    keeps_parts free (nil node) = true
    keeps_parts free (path node name fields) = true
    keeps_parts free (arrow node name fields) = true
    keeps_parts free (call node name args note) = keeps_parts_of_all free args
    keeps_parts free (named_call node name args note) = keeps_parts_of_arguments free args
    keeps_parts free (parenthesized node e) = keeps_parts free e
    keeps_parts free (dereference node e) = keeps_parts free e
    keeps_parts free (borrow node mode name) = true
    keeps_parts free (borrow_part node name fields) = true
    keeps_parts free (binary node operator a b) =
        keeps_parts free a && (if may_skip operator then is_kept free b else keeps_parts free b)
    keeps_parts free (negation node e) = keeps_parts free e
    keeps_parts free (typed node e t) = keeps_parts free e
    keeps_parts free (choice node c a b) = keeps_parts free c && (is_kept free a && is_kept free b)

    pub keeps_parts_of_all : Bool → PlainExpressions → Bool
    keeps_parts_of_all free no_expressions = true
    keeps_parts_of_all free (expressions e rest) = keeps_parts free e && keeps_parts_of_all free rest

    pub keeps_parts_of_arguments : Bool → PlainArguments → Bool
    keeps_parts_of_arguments free no_arguments = true
    keeps_parts_of_arguments free (arguments label e rest) =
        keeps_parts free e && keeps_parts_of_arguments free rest
