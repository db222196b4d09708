-- The clauses of each kind of expression on its own node, in the order in which they are judged.
use Rattle.std.specs.Prelude.{ℤ, List, [], ◌∷◌, neg_ℤ}
use Rattle.au_ints.specs.Ranges.{is_of_kind}
use Rattle.au_syntax.specs.declared.expressions.BinaryOperator.{BinaryOperator}
use Rattle.au_syntax.specs.declared.expressions.BorrowMode.{BorrowMode}
use Rattle.au_syntax.specs.declared.expressions.BorrowMode.TheVariants.{Read, Write, Reborrow}
use Rattle.au_syntax.specs.Expressions.{number, negative, text, truth, nil, path, arrow, borrow, borrow_part}
use Rattle.au_syntax.specs.Names.{Placed}
use Rattle.au_syntax.specs.Plain.{Bytes, PlainExpression}
use Rattle.au_types.specs.declared.types.Region.TheVariants.{Anonymous}
use Rattle.au_types.specs.Same.{same}
use Rattle.au_types.specs.Types as mean
use Rattle.au_types.specs.Types.{Meaning}
use Rattle.au_typing.specs.Scopes.{Scope}
use Rattle.au_typing.specs.Faults.{Why, why, unknown, different, not_free, shape, integer_wanted}
use Rattle.au_typing.specs.Faults.{range_wanted, record_wanted, reference_wanted, write_reference_wanted}
use Rattle.au_typing.specs.Limits.{types_noted}
use Rattle.au_typing.specs.Lookups.{target_behind, field_type, is_free_in, is_record}
use Rattle.au_typing.specs.Lookups.{value_type, variable_type}
use Rattle.au_typing.specs.Notes.{Mode, NotedExpression, type_of}
use Rattle.au_typing.specs.Rules.{is_compared, is_integer, literal_kind}
use Rattle.au_laws.specs.Clauses.{Clause, as_wanted, broken, has_type, in_limits, must, must_be}

-- an integer literal: its type is the wanted one, and its value is in the range
abbrev pub of_literal : Mode → ℤ → List Clause
of_literal mode value =
    has_type mode (mean.integer (literal_kind mode))
    (must (is_of_kind (literal_kind mode) value) (shape (range_wanted (literal_kind mode))) [])

-- `&x`, `&!x` and `&~x` of a variable of this type; `&~` wants a write reference
abbrev pub of_borrow : BorrowMode → Mode → Meaning → List Clause
of_borrow Read mode t = has_type mode (mean.reads t Anonymous) []
of_borrow Write mode t = has_type mode (mean.writes t Anonymous) []
of_borrow Reborrow mode (mean.writes target region) = has_type mode (mean.writes target Anonymous) []
of_borrow Reborrow mode t = broken (why (shape write_reference_wanted))

-- two operands have one type: the first one's is wanted, the second one's found
abbrev pub of_one_type : NotedExpression → NotedExpression → List Clause → List Clause
of_one_type x y rest = must (same (type_of x) (type_of y)) (different (type_of x) (type_of y)) rest

-- `+ - * /` of two noted operands
abbrev pub of_arithmetic : Mode → NotedExpression → NotedExpression → List Clause
of_arithmetic mode x y =
    of_one_type x y
    (in_limits (types_noted mode (type_of x) [])
    (must (is_integer (type_of x)) (shape integer_wanted) (as_wanted mode (type_of x) [])))

-- a comparison of two noted operands
abbrev pub of_comparison : BinaryOperator → Mode → NotedExpression → NotedExpression → List Clause
of_comparison op mode x y =
    in_limits (types_noted mode mean.truth [])
    (of_one_type x y
    (must (is_compared op (type_of x)) (shape integer_wanted) (as_wanted mode mean.truth [])))

-- a choice between two noted operands
abbrev pub of_choice : Mode → NotedExpression → NotedExpression → List Clause
of_choice mode x y = of_one_type x y (has_type mode (type_of x) [])

module _ (scope : Scope) where
  -- what is read is Free
  abbrev pub of_read : Mode → Meaning → List Clause
  of_read mode t =
      in_limits (types_noted mode t []) (must (is_free_in scope t) (not_free t) (as_wanted mode t []))

  -- each name is a field of what stands before it
  abbrev pub of_fields : Meaning → List (Placed Bytes) → (Meaning → List Clause) → List Clause
  of_fields t [] rest = rest t
  of_fields t (field ∷ fields) rest =
      must_be (unknown field.name) (field_type scope t field.name) (λ next. of_fields next fields rest)

  -- a part of a record
  abbrev pub of_part : Meaning → List (Placed Bytes) → (Meaning → List Clause) → List Clause
  of_part t fields rest = must (is_record scope t) (shape record_wanted) (of_fields t fields rest)

  -- a name of this type, or a part of it
  abbrev pub of_path : Mode → List (Placed Bytes) → Meaning → List Clause
  of_path mode [] t = has_type mode t []
  of_path mode (field ∷ fields) t = of_part t (field ∷ fields) (of_read mode)

  -- a part behind a reference of this type
  abbrev pub of_arrow : Mode → List (Placed Bytes) → Meaning → List Clause
  of_arrow mode fields t =
      must_be (shape reference_wanted) (target_behind t) (λ target. of_part target fields (of_read mode))

  -- a copy from behind a reference of this type
  abbrev pub of_dereference : Mode → Meaning → List Clause
  of_dereference mode t = must_be (shape reference_wanted) (target_behind t) (of_read mode)

  -- a reference to a part, from a read reference of this type
  abbrev pub of_borrowed_part : Mode → List (Placed Bytes) → Meaning → List Clause
  of_borrowed_part mode fields (mean.reads target region) =
      of_part target fields (λ part. has_type mode (mean.reads part region) [])
  of_borrowed_part mode fields t = broken (why (shape reference_wanted))

  -- the clauses of an expression without operands; another kind has none here
  abbrev pub of_leaf : PlainExpression → Mode → List Clause
  of_leaf (number u l) mode = of_literal mode l.value
  of_leaf (negative u l) mode = of_literal mode (neg_ℤ l.value)
  of_leaf (text u t) mode = has_type mode mean.text []
  of_leaf (truth u b) mode = has_type mode mean.truth []
  of_leaf (nil u) mode = has_type mode mean.unit []
  of_leaf (path u x fields) mode =
      must_be (unknown x.name) (value_type scope x.name) (of_path mode fields)
  of_leaf (arrow u x fields) mode =
      must_be (unknown x.name) (value_type scope x.name) (of_arrow mode fields)
  of_leaf (borrow u m x) mode = must_be (unknown x.name) (variable_type scope x.name) (of_borrow m mode)
  of_leaf (borrow_part u x fields) mode =
      must_be (unknown x.name) (value_type scope x.name) (of_borrowed_part mode fields)
  of_leaf e mode = []
