-- The search for the notes of an expression: what they are, or the first fault. Operands are noted before
-- their operation, from left to right, but those that aren't bare before those that are.
use Rattle.std.specs.Prelude.{ℤ, List, [], ◌∷◌, Bool, true, false, Some, None, Ok, Err, length, neg_ℤ}
use Rattle.au_ints.specs.Ranges.{is_of_kind}
use Rattle.au_syntax.specs.declared.expressions.BinaryOperator.{BinaryOperator}
use Rattle.au_syntax.specs.declared.expressions.BorrowMode.{BorrowMode}
use Rattle.au_syntax.specs.declared.expressions.BorrowMode.TheVariants.{Read, Write, Reborrow}
use Rattle.au_syntax.specs.Expressions.{Node, Arguments, number, negative, text, truth, nil, path, arrow}
use Rattle.au_syntax.specs.Expressions.{call, named_call, parenthesized, dereference, borrow, borrow_part}
use Rattle.au_syntax.specs.Expressions.{binary, negation, typed, choice, no_expressions, expressions}
use Rattle.au_syntax.specs.Expressions.{no_arguments, arguments}
use Rattle.au_syntax.specs.Names.{Placed}
use Rattle.au_syntax.specs.Plain.{Bytes, PlainArguments, PlainExpression, PlainExpressions}
use Rattle.au_types.specs.declared.types.Region.TheVariants.{Anonymous}
use Rattle.au_types.specs.Types as mean
use Rattle.au_types.specs.Types.{Meaning}
use Rattle.au_typing.specs.Scopes.{Scope, Typed}
use Rattle.au_typing.specs.Bare.{is_arithmetic, is_bare}
use Rattle.au_typing.specs.Calls.{by_labels, in_order}
use Rattle.au_typing.specs.Faults.{Noting, ◌>>=◌, Why, why, check, known_or, unknown, not_free, shape}
use Rattle.au_typing.specs.Faults.{integer_wanted, range_wanted, reference_wanted, write_reference_wanted}
use Rattle.au_typing.specs.Faults.{arguments_wanted, labels_wanted}
use Rattle.au_typing.specs.Good.{count_of, labels_of}
use Rattle.au_typing.specs.Limits.{within, types_noted}
use Rattle.au_typing.specs.Lookups.{target_behind, is_free_in, record_part, value_type}
use Rattle.au_typing.specs.Lookups.{variable_type, written_type}
use Rattle.au_typing.specs.Notes.{Mode, Note, NotedArguments, NotedExpression, NotedExpressions, noted_at}
use Rattle.au_typing.specs.Notes.{type_of}
use Rattle.au_typing.specs.Operands.{Noter, of_one_type, paired}
use Rattle.au_typing.specs.Rules.{is_compared, is_integer, is_logical, literal_kind, noted, wanted_note}
use Rattle.au_typing.specs.SearchCalls.{Operand, call_noted}

-- ---- notes of single kinds

-- an integer literal: that an integer is wanted is judged before the range
abbrev pub literal_note : Mode → ℤ → Noting Note
literal_note mode value =
    noted mode (mean.integer (literal_kind mode)) >>= λ n.
    check (is_of_kind (literal_kind mode) value) (shape (range_wanted (literal_kind mode))) (Ok n)

-- `+ - * /` of operands of this type
abbrev pub arithmetic_note : Mode → Meaning → Noting Note
arithmetic_note mode t =
    within (types_noted mode t []) (check (is_integer t) (shape integer_wanted) (wanted_note mode t))

-- a comparison of two operands
abbrev pub comparison_note : BinaryOperator → Mode → NotedExpression → NotedExpression → Noting Note
comparison_note op mode a b =
    within (types_noted mode mean.truth [])
    (of_one_type a b
    (check (is_compared op (type_of a)) (shape integer_wanted) (wanted_note mode mean.truth)))

-- the type of what `&`, `&!` or `&~` gives of a variable
abbrev pub borrowed_again : Meaning → Noting Meaning
borrowed_again (mean.writes target region) = Ok (mean.writes target Anonymous)
borrowed_again t = Err (why (shape write_reference_wanted))

abbrev pub borrowed : BorrowMode → Meaning → Noting Meaning
borrowed Read t = Ok (mean.reads t Anonymous)
borrowed Write t = Ok (mean.writes t Anonymous)
borrowed Reborrow t = borrowed_again t

-- ---- arguments with their notes in the place of those without

abbrev pub listed : List NotedExpression → NotedExpressions
listed [] = no_expressions
listed (e ∷ es) = expressions e (listed es)

abbrev pub labelled : {T C : Type 0} → Arguments Bytes T C → List NotedExpression → NotedArguments
labelled (arguments label old rest) (e ∷ es) = arguments label e (labelled rest es)
labelled args es = no_arguments

-- what is told where the arguments of a call get no types from the parameters
abbrev pub another_number : List Typed → Why
another_number params = shape (arguments_wanted (length params))

abbrev pub other_labels : List Typed → Why
other_labels params = shape labels_wanted

module _ (scope : Scope) where
  -- the note of a part of a record that is read
  abbrev pub read_note : Mode → Meaning → Noting Note
  read_note mode t =
      within (types_noted mode t []) (check (is_free_in scope t) (not_free t) (wanted_note mode t))

  abbrev pub part_note : Mode → Meaning → List (Placed Bytes) → Noting Note
  part_note mode t fields = record_part scope t fields >>= read_note mode

  -- the note of a name of this type, or of a part of it
  abbrev pub path_note : Mode → List (Placed Bytes) → Meaning → Noting Note
  path_note mode [] t = noted mode t
  path_note mode (field ∷ fields) t = part_note mode t (field ∷ fields)

  -- the note of a part behind a reference of this type
  abbrev pub arrow_note : Mode → List (Placed Bytes) → Meaning → Noting Note
  arrow_note mode fields t =
      known_or (shape reference_wanted) (target_behind t) >>= λ target. part_note mode target fields

  -- the note of what is copied from behind a reference of this type
  abbrev pub dereference_note : Mode → Meaning → Noting Note
  dereference_note mode t = known_or (shape reference_wanted) (target_behind t) >>= read_note mode

  -- the note of a reference to a part, from a reference of this type
  abbrev pub borrow_part_note : Mode → List (Placed Bytes) → Meaning → Noting Note
  borrow_part_note mode fields (mean.reads target region) =
      record_part scope target fields >>= λ part. noted mode (mean.reads part region)
  borrow_part_note mode fields t = Err (why (shape reference_wanted))

  -- a binary operation, where the tests say which kind it is
  abbrev pub binary_noted : Bool → Bool → Node (Unit {0}) → BinaryOperator → Bool → Bool → Noter → Noter →
      Mode → Noting NotedExpression
  binary_noted true logical u op x y a b mode =
      paired x y a b mode >>= λ z.
      of_one_type z.0 z.1 (arithmetic_note mode (type_of z.0)) >>= λ n. Ok (binary (noted_at u n) op z.0 z.1)
  binary_noted false true u op x y a b mode =
      a (Some mean.truth) >>= λ left.
      b (Some mean.truth) >>= λ right.
      noted mode mean.truth >>= λ n. Ok (binary (noted_at u n) op left right)
  binary_noted false false u op x y a b mode =
      paired x y a b None >>= λ z.
      comparison_note op mode z.0 z.1 >>= λ n. Ok (binary (noted_at u n) op z.0 z.1)

  abbrev mutual
    -- the notes of an expression in a mode, or the first fault
    pub note_expression : PlainExpression → Noter
    note_expression (number u l) mode = literal_note mode l.value >>= λ n. Ok (number (noted_at u n) l)
    note_expression (negative u l) mode =
        literal_note mode (neg_ℤ l.value) >>= λ n. Ok (negative (noted_at u n) l)
    note_expression (text u t) mode = noted mode mean.text >>= λ n. Ok (text (noted_at u n) t)
    note_expression (truth u b) mode = noted mode mean.truth >>= λ n. Ok (truth (noted_at u n) b)
    note_expression (nil u) mode = noted mode mean.unit >>= λ n. Ok (nil (noted_at u n))
    note_expression (path u x fields) mode =
        known_or (unknown x.name) (value_type scope x.name) >>= λ t.
        path_note mode fields t >>= λ n. Ok (path (noted_at u n) x fields)
    note_expression (arrow u x fields) mode =
        known_or (unknown x.name) (value_type scope x.name) >>= λ t.
        arrow_note mode fields t >>= λ n. Ok (arrow (noted_at u n) x fields)
    note_expression (call u f es c) mode =
        call_noted scope f.name (in_order (count_of es)) another_number mode (operands es) >>= λ z.
        Ok (call (noted_at u z.0) f (listed z.1) tt)
    note_expression (named_call u f es c) mode =
        call_noted scope f.name (by_labels (labels_of es)) other_labels mode (labelled_operands es) >>= λ z.
        Ok (named_call (noted_at u z.0) f (labelled es z.1) tt)
    note_expression (parenthesized u e) mode =
        note_expression e mode >>= λ a. noted mode (type_of a) >>= λ n. Ok (parenthesized (noted_at u n) a)
    note_expression (dereference u e) mode =
        note_expression e None >>= λ a.
        dereference_note mode (type_of a) >>= λ n. Ok (dereference (noted_at u n) a)
    note_expression (borrow u m x) mode =
        known_or (unknown x.name) (variable_type scope x.name) >>= λ t.
        borrowed m t >>= λ of. noted mode of >>= λ n. Ok (borrow (noted_at u n) m x)
    note_expression (borrow_part u x fields) mode =
        known_or (unknown x.name) (value_type scope x.name) >>= λ t.
        borrow_part_note mode fields t >>= λ n. Ok (borrow_part (noted_at u n) x fields)
    note_expression (binary u op a b) mode =
        binary_noted (is_arithmetic op) (is_logical op) u op (is_bare a) (is_bare b)
        (note_expression a) (note_expression b) mode
    note_expression (negation u e) mode =
        note_expression e (Some mean.truth) >>= λ a.
        noted mode mean.truth >>= λ n. Ok (negation (noted_at u n) a)
    note_expression (typed u e t) mode =
        written_type scope t >>= λ of.
        note_expression e (Some of) >>= λ a. noted mode of >>= λ n. Ok (typed (noted_at u n) a t)
    note_expression (choice u c a b) mode =
        note_expression c (Some mean.truth) >>= λ test.
        paired (is_bare a) (is_bare b) (note_expression a) (note_expression b) mode >>= λ z.
        of_one_type z.0 z.1 (noted mode (type_of z.0)) >>= λ n. Ok (choice (noted_at u n) test z.0 z.1)

    -- arguments that are to be noted
    pub operands : PlainExpressions → List Operand
    operands no_expressions = []
    operands (expressions e es) = record { bare = is_bare e; noter = note_expression e } ∷ operands es

    pub labelled_operands : PlainArguments → List Operand
    labelled_operands no_arguments = []
    labelled_operands (arguments label e es) =
        record { bare = is_bare e; noter = note_expression e } ∷ labelled_operands es

-- the notes of an expression in a scope and a mode, or the first fault
abbrev pub note : Scope → PlainExpression → Mode → Noting NotedExpression
note scope e mode = note_expression scope e mode
