-- The meaning of expressions: one clause for each form. A tick is made at a node's own action: after its
-- operands, or its test, and before a body that is called, a branch that is chosen or a right side.
use Rattle.std.specs.Prelude.{ℕ, Bool, true, false, List, [], ◌∷◌, map, Option, Some, None, ℤ, neg_ℤ}
use Rattle.au_base.specs.declared.kinds.IntKind.{IntKind}
use Rattle.au_type_texts.specs.Types as types
use Rattle.au_type_texts.specs.Types.{ClosedType}
use Rattle.au_effects.specs.Numbers.{computed, compared, negated, truth_in}
use Rattle.au_effects.specs.References.{reference_in, referring}
use Rattle.au_effects.specs.Values as values
use Rattle.au_effects.specs.Values.{Place}
use Rattle.au_ints.specs.declared.operations.IntOp.{IntOp}
use Rattle.au_ints.specs.declared.operations.IntOp.TheVariants as int_op
use Rattle.au_ints.specs.declared.operations.Order.{Order}
use Rattle.au_ints.specs.declared.operations.Order.TheVariants as order
use Rattle.au_ints.specs.Ranges.{is_of_kind}
use Rattle.au_syntax.specs.declared.expressions.BinaryOperator.{BinaryOperator}
use Rattle.au_syntax.specs.declared.expressions.BinaryOperator.TheVariants as operator
use Rattle.au_syntax.specs.Expressions.{Expression, Expressions, Arguments, number, negative, text, truth}
use Rattle.au_syntax.specs.Expressions.{nil, path, arrow, call, named_call, parenthesized, dereference}
use Rattle.au_syntax.specs.Expressions.{borrow, borrow_part, binary, negation, typed, choice, no_expressions}
use Rattle.au_syntax.specs.Expressions.{expressions, no_arguments, arguments}
use Rattle.au_syntax.specs.Names.{Placed}
use Rattle.au_syntax.specs.Plain.{Bytes}
use Rattle.au_meaning.specs.Acts.{looks, moves, refers, reads, lends, closing, makes_value, by_position}
use Rattle.au_meaning.specs.Acts.{by_labels, ships_call}
use Rattle.au_meaning.specs.Names.{Scope, Variable, variable_of, path_numbers, target_behind}
use Rattle.au_meaning.specs.Ticks.{Action, pure, stuck, tick, needing, where_true, by_truth, comes, ◌>>=◌}
use Rattle.au_meaning.specs.Views.{View, Callee, Act, invokes, makes, ships}
use Rattle.au_meaning.specs.Worlds.{Value}

-- ---- what is noted

-- the note of an expression
abbrev pub note_of : {N T C : Type 0} → Expression N T C → T
note_of (number n l) = n.note
note_of (negative n l) = n.note
note_of (text n t) = n.note
note_of (truth n b) = n.note
note_of (nil n) = n.note
note_of (path n x fields) = n.note
note_of (arrow n x fields) = n.note
note_of (call n f args c) = n.note
note_of (named_call n f args c) = n.note
note_of (parenthesized n e) = n.note
note_of (dereference n e) = n.note
note_of (borrow n m x) = n.note
note_of (borrow_part n x fields) = n.note
note_of (binary n op a b) = n.note
note_of (negation n e) = n.note
note_of (typed n e t) = n.note
note_of (choice n c a b) = n.note

-- the names of fields
abbrev pub names_of : List (Placed Bytes) → List Bytes
names_of fields = map (λ (one : Placed Bytes). one.name) fields

-- the labels of named arguments
abbrev pub labels : {N T C : Type 0} → Arguments N T C → List N
labels no_arguments = []
labels (arguments label e rest) = label.name ∷ labels rest

-- labels with values
abbrev pub labelled : List Bytes → List Value → List (Bytes × Value)
labelled [] values = []
labelled (name ∷ names) [] = []
labelled (name ∷ names) (value ∷ values) = (name, value) ∷ labelled names values

-- ---- operators

-- what an operator does: it computes, or compares, or is `and` or `or`
pub data Operation : Type 0 where
  computes : IntOp → Operation
  compares : Order → Operation
  is_and : Operation
  is_or : Operation

abbrev pub operation_of : BinaryOperator → Operation
operation_of operator.Add = computes int_op.Add
operation_of operator.Subtract = computes int_op.Subtract
operation_of operator.Multiply = computes int_op.Multiply
operation_of operator.Divide = computes int_op.Divide
operation_of operator.Equal = compares order.Equal
operation_of operator.NotEqual = compares order.NotEqual
operation_of operator.Less = compares order.Less
operation_of operator.LessEqual = compares order.LessEqual
operation_of operator.Greater = compares order.Greater
operation_of operator.GreaterEqual = compares order.GreaterEqual
operation_of operator.And = is_and
operation_of operator.Or = is_or

-- the kind that a type is, if it is one
abbrev pub kind_in : Option ClosedType → Option IntKind
kind_in (Some (types.integer kind)) = Some kind
kind_in other = None

-- what is compared: numbers of a kind, or truth values, which have none
abbrev pub compared_kind : Option ClosedType → Option (Option IntKind)
compared_kind (Some types.truth) = Some None
compared_kind (Some (types.integer kind)) = Some (Some kind)
compared_kind other = None

-- ---- leaves

-- an integer literal: a number of its kind, which lies in the kind's range
abbrev pub literal : Option IntKind → ℤ → Action Value
literal kind z = needing kind (λ one. where_true (is_of_kind one z) (pure (values.number one z)))

-- what a variable holds is copied, where it is Free, and else moved
abbrev pub copies : Bool → ℕ → Action Value
copies true name = looks name []
copies false name = moves name

-- the variable that an expression is, alone or in parentheses
abbrev pub alone : {T C : Type 0} → Scope → Expression Bytes T C → Option Variable
alone scope (path n x []) = variable_of scope x.name
alone scope (parenthesized n e) = alone scope e
alone scope other = None

-- the operand of `!`: a variable is copied, also where it isn't Free
abbrev pub operand : Option Variable → Action Value → Action Value
operand None other = other
operand (Some x) other = tick (looks x.number [])

-- one action or another, by the truth value that a value is
abbrev pub chosen : {A : Type 0} → Action A → Action A → Value → Action A
chosen one other value = needing (truth_in value) (by_truth one other)

-- ---- expressions

module _ {I T C : Type 0} (see : View I T C) where
  -- A name: a variable is copied where it is Free, and else emptied; a constant is its value.
  abbrev pub mentions : T → Option Variable → Bytes → Action Value
  mentions note (Some x) name = copies (see.is_free note) x.number
  mentions note None name = needing (see.constant note name) pure

  -- a part of a variable
  abbrev pub looks_into : Option Variable → List Bytes → Action Value
  looks_into None names = stuck
  looks_into (Some x) names = needing (path_numbers (λ of. see.fields of 0) x.of names) (looks x.number)

  -- a reference to a part of what the reference in a variable refers to
  abbrev pub reaches : Option Variable → List Bytes → Action (ℕ × Place)
  reaches None names = stuck
  reaches (Some r) names =
      needing (path_numbers (λ of. see.fields of 0) (target_behind r.of) names) (refers r.number)

  -- an operation on two values, where the first has a note and the whole another
  abbrev pub operates : Operation → T → T → Value → Value → Action Value
  operates (computes op) whole first a b =
      needing (kind_in (see.type_of whole)) (λ kind. comes (computed op kind a b))
  operates (compares op) whole first a b =
      needing (compared_kind (see.type_of first)) (λ kind. comes (compared op kind a b))
  operates is_and whole first a b = stuck
  operates is_or whole first a b = stuck

module _ {I T C : Type 0} (see : View I T C) (invoke : I → List Value → Action Value) where
  -- what a call does with its arguments in declared order
  abbrev pub acts : Act I → List Value → Action Value
  acts (invokes one) args = invoke one args
  acts (makes of tag home) args = makes_value (see.is_linear of) of tag home args
  acts (ships prim born) args = ships_call prim born args

  -- the call of what a name means, with arguments that are brought into declared order
  abbrev pub calls : Option (Callee I) → (List Bytes → Option (List Value)) → Action Value
  calls None order = stuck
  calls (Some one) order = needing (order one.parameters) (acts one.act)

  -- what an operator does with its operands; the right side of `and` and `or` waits
  abbrev pub joins : Operation → T → T → Action Value → Action Value → Action Value
  joins is_and whole first a b = do
    x ← a
    tick (chosen b (pure (values.truth false)) x)
  joins is_or whole first a b = do
    x ← a
    tick (chosen (pure (values.truth true)) b x)
  joins (computes op) whole first a b = do
    x ← a
    y ← b
    tick (operates see (computes op) whole first x y)
  joins (compares op) whole first a b = do
    x ← a
    y ← b
    tick (operates see (compares op) whole first x y)

  abbrev mutual
    pub eval : Scope → Expression Bytes T C → Action Value
    eval scope (number n l) = tick (literal (kind_in (see.type_of n.note)) l.value)
    eval scope (negative n l) = tick (literal (kind_in (see.type_of n.note)) (neg_ℤ l.value))
    eval scope (text n t) = tick (pure (values.text t))
    eval scope (truth n b) = tick (pure (values.truth b))
    eval scope (nil n) = tick (pure values.unit)
    eval scope (path n x []) = tick (mentions see n.note (variable_of scope x.name) x.name)
    eval scope (path n x (field ∷ fields)) =
        tick (looks_into see (variable_of scope x.name) (names_of (field ∷ fields)))
    eval scope (arrow n r fields) =
        tick (reaches see (variable_of scope r.name) (names_of fields) >>= reads)
    eval scope (call n f args c) = do
      values ← eval_all scope args
      tick (calls (see.callee n.note c f.name) (by_position values))
    eval scope (named_call n f args c) = do
      values ← eval_named scope args
      tick (calls (see.callee n.note c f.name) (by_labels (labelled (labels args) values)))
    eval scope (parenthesized n e) = eval scope e
    eval scope (dereference n e) = do
      x ← operand (alone scope e) (eval scope e)
      tick (needing (reference_in x) reads)
    eval scope (borrow n mode x) = tick (needing (variable_of scope x.name) (λ x. lends mode x.number))
    eval scope (borrow_part n r fields) =
        tick (reaches see (variable_of scope r.name) (names_of fields) >>= (λ one. pure (referring one)))
    eval scope (binary n op a b) = joins (operation_of op) n.note (note_of a) (eval scope a) (eval scope b)
    eval scope (negation n e) = do
      x ← eval scope e
      tick (comes (negated x))
    eval scope (typed n e t) = eval scope e
    eval scope (choice n c a b) = do
      x ← eval scope c
      tick (chosen (eval scope a) (eval scope b) x)

    -- the values of arguments, in the order of the text
    pub eval_all : Scope → Expressions Bytes T C → Action (List Value)
    eval_all scope no_expressions = pure []
    eval_all scope (expressions e rest) = do
      value ← eval scope e
      values ← eval_all scope rest
      pure (value ∷ values)

    -- the same of named arguments
    pub eval_named : Scope → Arguments Bytes T C → Action (List Value)
    eval_named scope no_arguments = pure []
    eval_named scope (arguments label e rest) = do
      value ← eval scope e
      values ← eval_named scope rest
      pure (value ∷ values)

  -- a whole expression: what it opens is closed when its value is made, with no tick of its own
  abbrev pub whole : Scope → Expression Bytes T C → Action Value
  whole scope e = closing (eval scope e)
