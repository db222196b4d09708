-- The code of expressions: one equation for each form.
use Rattle.std.specs.Prelude.{ℕ, ◌+◌, Bool, true, false, ◌||◌, List, [], ◌∷◌, map, Option, Some, None, ℤ}
use Rattle.std.specs.Prelude.{neg_ℤ, if◌then◌else◌}
use Rattle.std.specs.List.{position_or_len}
use Rattle.std.specs.Str.{bytes_eq}
use Rattle.au_type_texts.specs.Types.{ClosedType}
use Rattle.au_effects.specs.Values as values
use Rattle.au_low.specs.declared.instructions.Instr.TheVariants as instr
use Rattle.au_low.specs.declared.instructions.Mode.TheVariants as mode
use Rattle.au_meaning.specs.Expressions.{Operation, computes, compares, is_and, is_or, operation_of, kind_in}
use Rattle.au_meaning.specs.Expressions.{compared_kind, note_of, names_of, labels, alone}
use Rattle.au_meaning.specs.Names.{Scope, Variable, variable_of, path_numbers, target_behind}
use Rattle.au_meaning.specs.Views.{View, Callee, Act, invokes, makes, ships}
use Rattle.au_meaning.specs.Worlds.{Value}
use Rattle.au_shipped.specs.declared.prims.ShippedCall.{ShippedCall}
use Rattle.au_shipped.specs.declared.prims.ShippedCall.TheVariants as prim
use Rattle.au_syntax.specs.declared.expressions.BorrowMode.{BorrowMode}
use Rattle.au_syntax.specs.declared.expressions.BorrowMode.TheVariants as borrowing
use Rattle.au_syntax.specs.Expressions.{Expression, Expressions, Arguments, number, negative, text, truth}
use Rattle.au_syntax.specs.Expressions.{nil, path, arrow, call, named_call, parenthesized, dereference}
use Rattle.au_syntax.specs.Expressions.{borrow, borrow_part, binary, negation, typed, choice, no_expressions}
use Rattle.au_syntax.specs.Expressions.{expressions, no_arguments, arguments}
use Rattle.au_syntax.specs.Plain.{Bytes}
use Rattle.au_lowered.specs.Drafts.{pushes_text, makes_case, ships_birth, Written, ◌>>◌, nothing, one, does}
use Rattle.au_lowered.specs.Drafts.{given, either}

-- ---- orders of arguments

-- as many numbers as there are elements, from one on
abbrev pub numbers_from : {A : Type 0} → ℕ → List A → List ℕ
numbers_from n [] = []
numbers_from n (x ∷ rest) = n ∷ numbers_from (n + 1) rest

-- for each parameter, in declared order, the number of its argument, in the order of the text: of arguments
-- by position, and of arguments with these labels
abbrev pub by_position : List Bytes → List ℕ
by_position parameters = numbers_from 0 parameters

abbrev pub by_labels : List Bytes → List Bytes → List ℕ
by_labels labels parameters = map (λ name. position_or_len (λ label. bytes_eq label name) labels) parameters

-- an order, or none where the arguments stand in declared order
abbrev pub unless_declared : List ℕ → List ℕ
unless_declared order = if bytes_eq order (numbers_from 0 order) then [] else order

-- ---- calls

-- a shipped call: modular arithmetic and conversions are instructions of their own
abbrev pub ships_call : ShippedCall → Option ClosedType → List ℕ → Written
ships_call (prim.Wrap op kind) born order = does (instr.Wrap op kind order)
ships_call (prim.Convert kind) born order = does (instr.Convert kind)
ships_call other None order = does (instr.Shipped other None order)
ships_call other (Some born) order = one (ships_birth other born order)

-- what a call does, with the order of its arguments
abbrev pub acts : Act ℕ → List ℕ → Written
acts (invokes function) order = does (instr.Call function order)
acts (makes born tag home) order = one (makes_case born tag order home)
acts (ships prim born) order = ships_call prim born (unless_declared order)

-- the call of what a name means
abbrev pub calls : Option (Callee ℕ) → (List Bytes → List ℕ) → Written
calls callee order = given callee (λ one. acts one.act (order one.parameters))

-- ---- leaves

-- a literal of a constant
abbrev pub literal : Value → Written
literal values.unit = does instr.PushUnit
literal (values.truth b) = does (instr.PushBool b)
literal (values.number kind z) = does (instr.Push kind z)
literal (values.text t) = one (pushes_text t)
literal other = nothing

-- what a variable holds: a copy, or what is moved out of it
abbrev pub taken : Bool → Variable → Written
taken true x = does (instr.Look x.number [])
taken false x = does (instr.Move x.number)

-- the operand of `!`: a variable, alone or in parentheses, is looked at, and of another expression this is
-- the code
abbrev pub looked_at : Option Variable → Written → Written
looked_at None other = other
looked_at (Some x) other = taken true x

abbrev pub operand : {T C : Type 0} → Scope → Expression Bytes T C → Written → Written
operand scope e other = looked_at (alone scope e) other

-- a borrow of a variable
abbrev pub borrows : BorrowMode → Variable → Written
borrows borrowing.Read x = does (instr.Open x.number mode.Read)
borrows borrowing.Write x = does (instr.Open x.number mode.Write)
borrows borrowing.Reborrow x = does (instr.Again x.number)

-- ---- expressions

module _ {T C : Type 0} (see : View ℕ T C) where
  -- an integer literal, by its note
  abbrev pub integer : T → ℤ → Written
  integer note z = given (kind_in (see.type_of note)) (λ kind. does (instr.Push kind z))

  -- a name: a variable is copied where it is Free, and else moved; a constant is its literal
  abbrev pub mention : T → Option Variable → Bytes → Written
  mention note None name = given (see.constant note name) literal
  mention note (Some x) name = taken (see.is_free note) x

  -- the numbers of the fields along a path from a record of a type
  abbrev pub numbers_along : Option ClosedType → List Bytes → Option (List ℕ)
  numbers_along from names = path_numbers (λ t. see.fields t 0) from names

  -- what is done with the part of a variable at the end of a path, and with a part of what it refers to
  abbrev pub part_of : Option Variable → List Bytes → (ℕ → List ℕ → Written) → Written
  part_of variable names write =
      given variable (λ x. given (numbers_along x.of names) (write x.number))

  abbrev pub part_behind : Option Variable → List Bytes → (ℕ → List ℕ → Written) → Written
  part_behind variable names write =
      given variable (λ r. given (numbers_along (target_behind r.of) names) (write r.number))

  -- an operation on two operands, where the first has a note and the whole another
  abbrev pub joins : Operation → T → T → Written → Written → Written
  joins is_and whole first a b = a >> either false b (does (instr.PushBool false))
  joins is_or whole first a b = a >> either false (does (instr.PushBool true)) b
  joins (computes op) whole first a b =
      a >> b >> given (kind_in (see.type_of whole)) (λ kind. does (instr.Arith op kind))
  joins (compares op) whole first a b =
      a >> b >> given (compared_kind (see.type_of first)) (λ kind. does (instr.Compare op kind))

  abbrev mutual
    pub code : Scope → Expression Bytes T C → Written
    code scope (number n l) = integer n.note l.value
    code scope (negative n l) = integer n.note (neg_ℤ l.value)
    code scope (text n t) = one (pushes_text t)
    code scope (truth n b) = does (instr.PushBool b)
    code scope (nil n) = does instr.PushUnit
    code scope (path n x []) = mention n.note (variable_of scope x.name) x.name
    code scope (path n x (field ∷ fields)) =
        part_of (variable_of scope x.name) (names_of (field ∷ fields)) (λ slot numbers.
        does (instr.Look slot numbers))
    code scope (arrow n r fields) =
        part_behind (variable_of scope r.name) (names_of fields) (λ slot numbers.
        does (instr.Read slot numbers))
    code scope (call n f args c) =
        code_of_all scope args >> calls (see.callee n.note c f.name) by_position
    code scope (named_call n f args c) =
        code_of_named scope args >> calls (see.callee n.note c f.name) (by_labels (labels args))
    code scope (parenthesized n e) = code scope e
    code scope (dereference n e) = operand scope e (code scope e) >> does instr.Deref
    code scope (borrow n mode x) = given (variable_of scope x.name) (borrows mode)
    code scope (borrow_part n r fields) =
        part_behind (variable_of scope r.name) (names_of fields) (λ slot numbers.
        does (instr.Part slot numbers))
    code scope (binary n op a b) = joins (operation_of op) n.note (note_of a) (code scope a) (code scope b)
    code scope (negation n e) = code scope e >> does instr.Not
    code scope (typed n e t) = code scope e
    code scope (choice n c a b) = code scope c >> either false (code scope a) (code scope b)

    -- arguments in the order of the text
    pub code_of_all : Scope → Expressions Bytes T C → Written
    code_of_all scope no_expressions = nothing
    code_of_all scope (expressions e rest) = code scope e >> code_of_all scope rest

    -- the same of named arguments
    pub code_of_named : Scope → Arguments Bytes T C → Written
    code_of_named scope no_arguments = nothing
    code_of_named scope (arguments label e rest) = code scope e >> code_of_named scope rest

-- ---- whole expressions

abbrev mutual
  -- whether a part of an expression opens a borrow
  pub opens : {N T C : Type 0} → Expression N T C → Bool
  opens (number n l) = false
  opens (negative n l) = false
  opens (text n t) = false
  opens (truth n b) = false
  opens (nil n) = false
  opens (path n x fields) = false
  opens (arrow n r fields) = false
  opens (call n f args c) = one_opens args
  opens (named_call n f args c) = one_opens_named args
  opens (parenthesized n e) = opens e
  opens (dereference n e) = opens e
  opens (borrow n mode x) = true
  opens (borrow_part n r fields) = false
  opens (binary n op a b) = opens a || opens b
  opens (negation n e) = opens e
  opens (typed n e t) = opens e
  opens (choice n c a b) = opens c || (opens a || opens b)

  pub one_opens : {N T C : Type 0} → Expressions N T C → Bool
  one_opens no_expressions = false
  one_opens (expressions e rest) = opens e || one_opens rest

  pub one_opens_named : {N T C : Type 0} → Arguments N T C → Bool
  one_opens_named no_arguments = false
  one_opens_named (arguments label e rest) = opens e || one_opens_named rest

-- the borrows of an expression are closed behind it, if it opens any, until so many are left as borrow
-- statements stand round it
abbrev pub closing : Bool → ℕ → Written
closing true around = does (instr.Close around)
closing false around = nothing

-- a whole expression, where so many borrow statements stand round it
abbrev pub whole : {T C : Type 0} → View ℕ T C → ℕ → Scope → Expression Bytes T C → Written
whole see around scope e = code see scope e >> closing (opens e) around
