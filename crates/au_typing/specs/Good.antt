-- When a noted expression is good: one rule for each kind of expression, over the notes of the expression and
-- of its direct children alone.
use Rattle.std.specs.Prelude.{◌≡◌, ℕ, zero, suc, ℤ, neg_ℤ, List, [], ◌∷◌, Bool, true, false, Some, None}
use Rattle.au_ints.specs.Ranges.{is_of_kind}
use Rattle.au_syntax.specs.declared.expressions.BinaryOperator.{BinaryOperator}
use Rattle.au_syntax.specs.declared.expressions.BorrowMode.{BorrowMode}
use Rattle.au_syntax.specs.declared.expressions.BorrowMode.TheVariants.{Read, Write, Reborrow}
use Rattle.au_syntax.specs.Expressions.{Expression, Expressions, Arguments, number, negative, text, truth}
use Rattle.au_syntax.specs.Expressions.{nil, path, arrow, call, named_call, parenthesized, dereference}
use Rattle.au_syntax.specs.Expressions.{borrow, borrow_part, binary, negation, typed, choice, no_expressions}
use Rattle.au_syntax.specs.Expressions.{expressions, no_arguments, arguments}
use Rattle.au_syntax.specs.Names.{Placed}
use Rattle.au_syntax.specs.Plain.{Bytes, PlainExpression}
use Rattle.au_types.specs.declared.types.Region.{Region}
use Rattle.au_types.specs.declared.types.Region.TheVariants.{Anonymous}
use Rattle.au_types.specs.Same.{same}
use Rattle.au_types.specs.Types as mean
use Rattle.au_types.specs.Types.{Meaning}
use Rattle.au_matching.specs.Bindings.{Bindings}
use Rattle.au_matching.specs.Substituted.{substituted}
use Rattle.au_judged_types.specs.Reasons.{means}
use Rattle.au_typing.specs.Scopes.{Callable, Scope}
use Rattle.au_typing.specs.Bare.{is_arithmetic, is_bare}
use Rattle.au_typing.specs.Calls.{Shown, GoodCall, in_order, by_labels}
use Rattle.au_typing.specs.Limits.{are_within, types_noted}
use Rattle.au_typing.specs.Lookups.{target_behind, is_free_in, is_record, IsPart, value_type, variable_type}
use Rattle.au_typing.specs.Lookups.{written_means}
use Rattle.au_typing.specs.Notes.{Mode, Note, NotedArguments, NotedExpression, NotedExpressions, erase}
use Rattle.au_typing.specs.Notes.{mode_of, note_of, type_of}
use Rattle.au_typing.specs.Rules.{is_compared, is_integer, is_logical, literal_kind, meets}

-- A note of an expression that calls nothing: its types pass no limit, the type is the wanted one, and there
-- is no substitution.
pub record Kept (note : Note) : Type 0 where
  pub limited : are_within (types_noted note.mode note.of []) ≡ true
  pub wanted : meets note.mode note.of ≡ true
  pub plain : note.call ≡ None

-- ---- paired operands

-- The modes of paired operands: where both are bare, or neither is, both have the pair's mode; where exactly
-- one is bare, the other has that mode, and the bare one wants its type.
abbrev pub PairedModes : Bool → Bool → Mode → Note → Note → Type 0
PairedModes true true mode a b = (a.mode ≡ mode) × (b.mode ≡ mode)
PairedModes true false mode a b = (b.mode ≡ mode) × (a.mode ≡ Some b.of)
PairedModes false true mode a b = (a.mode ≡ mode) × (b.mode ≡ Some a.of)
PairedModes false false mode a b = (a.mode ≡ mode) × (b.mode ≡ mode)

-- paired operands have such modes, and they have one type
pub record ArePaired (mode : Mode) (a b : NotedExpression) : Type 0 where
  pub modes : PairedModes (is_bare a) (is_bare b) mode (note_of a) (note_of b)
  pub one_type : same (type_of a) (type_of b) ≡ true

-- ---- rules of single kinds

-- an integer literal has the wanted kind, or Int32, and its value is in the range
abbrev pub GoodLiteral : Note → ℤ → Type 0
GoodLiteral n value =
    (n.of ≡ mean.integer (literal_kind n.mode)) × (is_of_kind (literal_kind n.mode) value ≡ true)

-- a part that is read: the whole is a record that is known there, and the part is Free
abbrev pub GoodPart : Scope → Meaning → List (Placed Bytes) → Meaning → Type 0
GoodPart scope t fields part =
    (is_record scope t ≡ true) × IsPart scope t fields part × (is_free_in scope part ≡ true)

-- a name has its type, and a part of what it names is read
abbrev pub GoodPath : Scope → Meaning → List (Placed Bytes) → Meaning → Type 0
GoodPath scope t [] part = part ≡ t
GoodPath scope t (field ∷ fields) part = GoodPart scope t (field ∷ fields) part

-- what borrows for the whole expression: a variable, or for `&~` what a write reference in it refers to
abbrev pub GoodBorrow : BorrowMode → Meaning → Meaning → Type 0
GoodBorrow Read t of = of ≡ mean.reads t Anonymous
GoodBorrow Write t of = of ≡ mean.writes t Anonymous
GoodBorrow Reborrow t of =
    (target : Meaning) × (region : Region) × (t ≡ mean.writes target region)
    × (of ≡ mean.writes target Anonymous)

-- `+ - * /` are paired in the mode and have an integer kind
pub record GoodArithmetic (n : Note) (a b : NotedExpression) : Type 0 where
  pub paired : ArePaired n.mode a b
  pub of : n.of ≡ type_of a
  pub is_whole : is_integer n.of ≡ true

-- comparisons are paired in no mode, of an integer kind, or of Bool for `=` and `/=`, and have Bool
pub record GoodComparison (n : Note) (op : BinaryOperator) (a b : NotedExpression) : Type 0 where
  pub paired : ArePaired None a b
  pub compared : is_compared op (type_of a) ≡ true
  pub of : n.of ≡ mean.truth

-- `and` and `or` want Bool twice and have Bool
pub record GoodLogical (n : Note) (a b : NotedExpression) : Type 0 where
  pub first : mode_of a ≡ Some mean.truth
  pub second : mode_of b ≡ Some mean.truth
  pub of : n.of ≡ mean.truth

-- a binary operation, where the tests say which kind it is
abbrev pub GoodBinary : Bool → Bool → BinaryOperator → Note → NotedExpression → NotedExpression → Type 0
GoodBinary true logical op n a b = GoodArithmetic n a b
GoodBinary false true op n a b = GoodLogical n a b
GoodBinary false false op n a b = GoodComparison n op a b

-- ---- arguments

-- how many arguments there are
abbrev pub count_of : {N T C : Type 0} → Expressions N T C → ℕ
count_of no_expressions = zero
count_of (expressions e es) = suc (count_of es)

-- the labels of arguments
abbrev pub labels_of : {T C : Type 0} → Arguments Bytes T C → List Bytes
labels_of no_arguments = []
labels_of (arguments label e es) = label.name ∷ labels_of es

-- arguments as a list
abbrev pub items_of : {N T C : Type 0} → Expressions N T C → List (Expression N T C)
items_of no_expressions = []
items_of (expressions e es) = e ∷ items_of es

abbrev pub values_of : {N T C : Type 0} → Arguments N T C → List (Expression N T C)
values_of no_arguments = []
values_of (arguments label e es) = e ∷ values_of es

-- arguments as the rules of calls see them
abbrev pub shown : List NotedExpression → List Shown
shown [] = []
shown (e ∷ es) = record { bare = is_bare e; note = note_of e } ∷ shown es

-- ---- the rule of each kind

module _ (scope : Scope) where
  -- the rule of an expression's kind
  abbrev pub Good : NotedExpression → Type 0
  Good (number n l) = GoodLiteral n.note l.value
  Good (negative n l) = GoodLiteral n.note (neg_ℤ l.value)
  Good (text n t) = n.note.of ≡ mean.text
  Good (truth n b) = n.note.of ≡ mean.truth
  Good (nil n) = n.note.of ≡ mean.unit
  Good (path n x fields) =
      (t : Meaning) × (value_type scope x.name ≡ Some t) × GoodPath scope t fields n.note.of
  Good (arrow n x fields) =
      (t : Meaning) × (target : Meaning) × (value_type scope x.name ≡ Some t)
      × (target_behind t ≡ Some target)
      × GoodPart scope target fields n.note.of
  Good (call n f es c) = GoodCall scope n.note f.name (in_order (count_of es)) (shown (items_of es))
  Good (named_call n f es c) = GoodCall scope n.note f.name (by_labels (labels_of es)) (shown (values_of es))
  Good (parenthesized n e) = (mode_of e ≡ n.note.mode) × (n.note.of ≡ type_of e)
  Good (dereference n e) =
      (mode_of e ≡ None) × (target_behind (type_of e) ≡ Some n.note.of) × (is_free_in scope n.note.of ≡ true)
  Good (borrow n m x) = (t : Meaning) × (variable_type scope x.name ≡ Some t) × GoodBorrow m t n.note.of
  Good (borrow_part n x fields) =
      (target : Meaning) × (region : Region) × (part : Meaning)
      × (value_type scope x.name ≡ Some (mean.reads target region))
      × (is_record scope target ≡ true)
      × IsPart scope target fields part
      × (n.note.of ≡ mean.reads part region)
  Good (binary n op a b) = GoodBinary (is_arithmetic op) (is_logical op) op n.note a b
  Good (negation n e) = (mode_of e ≡ Some mean.truth) × (n.note.of ≡ mean.truth)
  Good (typed n e t) = (written_means scope t ≡ means n.note.of) × (mode_of e ≡ Some n.note.of)
  Good (choice n c a b) =
      (mode_of c ≡ Some mean.truth) × ArePaired n.note.mode a b × (n.note.of ≡ type_of a)

  abbrev mutual
    -- every expression of a tree is good
    pub AllGood : NotedExpression → Type 0
    AllGood (number n l) = Kept n.note × Good (number n l)
    AllGood (negative n l) = Kept n.note × Good (negative n l)
    AllGood (text n t) = Kept n.note × Good (text n t)
    AllGood (truth n b) = Kept n.note × Good (truth n b)
    AllGood (nil n) = Kept n.note × Good (nil n)
    AllGood (path n x fields) = Kept n.note × Good (path n x fields)
    AllGood (arrow n x fields) = Kept n.note × Good (arrow n x fields)
    AllGood (call n f es c) = Good (call n f es c) × AllGoodIn es
    AllGood (named_call n f es c) = Good (named_call n f es c) × AllGoodLabelled es
    AllGood (parenthesized n e) = Kept n.note × Good (parenthesized n e) × AllGood e
    AllGood (dereference n e) = Kept n.note × Good (dereference n e) × AllGood e
    AllGood (borrow n m x) = Kept n.note × Good (borrow n m x)
    AllGood (borrow_part n x fields) = Kept n.note × Good (borrow_part n x fields)
    AllGood (binary n op a b) = Kept n.note × Good (binary n op a b) × AllGood a × AllGood b
    AllGood (negation n e) = Kept n.note × Good (negation n e) × AllGood e
    AllGood (typed n e t) = Kept n.note × Good (typed n e t) × AllGood e
    AllGood (choice n c a b) = Kept n.note × Good (choice n c a b) × AllGood c × AllGood a × AllGood b

    pub AllGoodIn : NotedExpressions → Type 0
    AllGoodIn no_expressions = Unit {0}
    AllGoodIn (expressions e es) = AllGood e × AllGoodIn es

    pub AllGoodLabelled : NotedArguments → Type 0
    AllGoodLabelled no_arguments = Unit {0}
    AllGoodLabelled (arguments label e es) = AllGood e × AllGoodLabelled es

-- a good noting of an expression in a mode: every expression in it is good, it has the mode, and without its
-- notes it is the expression
abbrev pub IsNoting : Scope → PlainExpression → Mode → NotedExpression → Type 0
IsNoting scope e mode a = AllGood scope a × (mode_of a ≡ mode) × (erase a ≡ e)

-- arguments have the types of their parameters, with a substitution put in
abbrev pub HaveTypes : Bindings → List Meaning → List NotedExpression → Type 0
HaveTypes s [] [] = Unit {0}
HaveTypes s (p ∷ params) (a ∷ args) = (type_of a ≡ substituted s p) × HaveTypes s params args
HaveTypes s [] (a ∷ args) = ⊥
HaveTypes s (p ∷ params) [] = ⊥

-- what a good call comes to: its type is that of the result with its substitution put in, which the note
-- tells, and its arguments have the types of their parameters
pub record CallFits (note : Note) (called : Callable) (types : List Meaning)
    (args : List NotedExpression) : Type 0 where
  pub s : Bindings
  pub told : note.call ≡ Some s
  pub result : note.of ≡ substituted s called.result
  pub arguments_fit : HaveTypes s types args
