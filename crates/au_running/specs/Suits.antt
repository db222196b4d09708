-- Trees that code can follow, and views that know nothing besides.
use Rattle.std.specs.Prelude.{◌≡◌, ℕ, Bool, true, false, ◌&&◌, not, List, [], ◌∷◌, map, Option, Some, None}
use Rattle.std.specs.Prelude.{if◌then◌else◌}
use Rattle.std.specs.Str.{bytes_eq}
use Rattle.au_effects.specs.Values as values
use Rattle.au_ints.specs.Ranges.{is_of_kind}
use Rattle.au_meaning.specs.Views.{Callee, Function, View}
use Rattle.au_meaning.specs.Worlds.{Value}
use Rattle.au_syntax.specs.Expressions.{Expression, Expressions, Arguments, number, negative, text, truth}
use Rattle.au_syntax.specs.Expressions.{nil, path, arrow, call, named_call, parenthesized, dereference}
use Rattle.au_syntax.specs.Expressions.{borrow, borrow_part, binary, negation, typed, choice, no_expressions}
use Rattle.au_syntax.specs.Expressions.{expressions, no_arguments, arguments}
use Rattle.au_syntax.specs.Plain.{Bytes}
use Rattle.au_syntax.specs.Statements.{Statement, Statements, Branches, Arms, skip, declare, destructure}
use Rattle.au_syntax.specs.Statements.{assign, assign_through, conditional, conditional_else, case_of}
use Rattle.au_syntax.specs.Statements.{while_loop, for_loop, borrow_in, borrow_typed, discard, return_of}
use Rattle.au_syntax.specs.Statements.{no_statements, statements, no_branches, branches, no_arms, arms}

-- ---- constants and calls

-- whether a value has a literal: a number lies in the range of its kind
abbrev pub has_literal : Value → Bool
has_literal values.unit = true
has_literal (values.truth b) = true
has_literal (values.number kind z) = is_of_kind kind z
has_literal (values.text t) = true
has_literal other = false

-- whether no name is given twice
abbrev pub is_lacking : Bytes → List Bytes → Bool
is_lacking name [] = true
is_lacking name (other ∷ rest) = not (bytes_eq name other) && is_lacking name rest

abbrev pub are_once : List Bytes → Bool
are_once [] = true
are_once (name ∷ rest) = is_lacking name rest && are_once rest

-- whether code can follow a call: its parameters have names of their own
abbrev pub is_followed : Callee ℕ → Bool
is_followed one = are_once one.parameters

-- whether something passes a test, if it is there; and it, if it does
abbrev pub passes : {A : Type 0} → (A → Bool) → Option A → Bool
passes test None = true
passes test (Some a) = test a

abbrev pub passing : {A : Type 0} → (A → Bool) → Option A → Option A
passing test None = None
passing test (Some a) = if test a then Some a else None

-- ---- views

module _ {T C : Type 0} where
  -- a view that knows no constants and calls but those that code can follow
  abbrev pub guarded : View ℕ T C → View ℕ T C
  guarded see = record {
    type_of = see.type_of;
    is_free = see.is_free;
    callee = λ note c name. passing is_followed (see.callee note c name);
    constant = λ note name. passing has_literal (see.constant note name);
    tag = see.tag;
    fields = see.fields;
    is_linear = see.is_linear;
  }

  -- a function with such a view, and several
  abbrev pub guarded_function : Function ℕ T C → Function ℕ T C
  guarded_function f = record {
    view = guarded f.view;
    parameters = f.parameters;
    first = f.first;
    body = f.body;
  }

  abbrev pub guarded_functions : List (Function ℕ T C) → List (Function ℕ T C)
  guarded_functions functions = map guarded_function functions

-- ---- trees

-- what is said of each mention and each call of a tree
module _ {T C : Type 0} (mentioned : T → Bytes → Type 0) (called : T → C → Bytes → Type 0) where
  abbrev mutual
    -- of an expression
    pub SaidOf : Expression Bytes T C → Type 0
    SaidOf (number n l) = Unit {0}
    SaidOf (negative n l) = Unit {0}
    SaidOf (text n t) = Unit {0}
    SaidOf (truth n b) = Unit {0}
    SaidOf (nil n) = Unit {0}
    SaidOf (path n x fields) = mentioned n.note x.name
    SaidOf (arrow n r fields) = Unit {0}
    SaidOf (call n f args c) = called n.note c f.name × SaidOfAll args
    SaidOf (named_call n f args c) = called n.note c f.name × SaidOfNamed args
    SaidOf (parenthesized n e) = SaidOf e
    SaidOf (dereference n e) = SaidOf e
    SaidOf (borrow n mode x) = Unit {0}
    SaidOf (borrow_part n r fields) = Unit {0}
    SaidOf (binary n op a b) = SaidOf a × SaidOf b
    SaidOf (negation n e) = SaidOf e
    SaidOf (typed n e t) = SaidOf e
    SaidOf (choice n c a b) = SaidOf c × SaidOf a × SaidOf b

    -- of arguments
    pub SaidOfAll : Expressions Bytes T C → Type 0
    SaidOfAll no_expressions = Unit {0}
    SaidOfAll (expressions e rest) = SaidOf e × SaidOfAll rest

    pub SaidOfNamed : Arguments Bytes T C → Type 0
    SaidOfNamed no_arguments = Unit {0}
    SaidOfNamed (arguments label e rest) = SaidOf e × SaidOfNamed rest

  abbrev mutual
    -- of a statement
    pub SaidIn : Statement Bytes T C → Type 0
    SaidIn (skip at) = Unit {0}
    SaidIn (declare at binding name t e) = SaidOf e
    SaidIn (destructure at binds e) = SaidOf e
    SaidIn (assign at x fields e) = SaidOf e
    SaidIn (assign_through at r fields e) = SaidOf e
    SaidIn (conditional at tests) = SaidOfTests tests
    SaidIn (conditional_else at tests block) = SaidOfTests tests × SaidOfBlock block
    SaidIn (case_of at e all) = SaidOf e × SaidOfArms all
    SaidIn (while_loop at e block) = SaidOf e × SaidOfBlock block
    SaidIn (for_loop at name first last block) = SaidOf first × SaidOf last × SaidOfBlock block
    SaidIn (borrow_in at access x r region block stop) = SaidOfBlock block
    SaidIn (borrow_typed at r t mode x block stop) = SaidOfBlock block
    SaidIn (discard at e) = SaidOf e
    SaidIn (return_of at e) = SaidOf e

    -- of a block
    pub SaidOfBlock : Statements Bytes T C → Type 0
    SaidOfBlock no_statements = Unit {0}
    SaidOfBlock (statements s rest) = SaidIn s × SaidOfBlock rest

    -- of the branches of a conditional
    pub SaidOfTests : Branches Bytes T C → Type 0
    SaidOfTests no_branches = Unit {0}
    SaidOfTests (branches e block rest) = SaidOf e × SaidOfBlock block × SaidOfTests rest

    -- of the arms of a case
    pub SaidOfArms : Arms Bytes T C → Type 0
    SaidOfArms no_arms = Unit {0}
    SaidOfArms (arms at name binds block rest) = SaidOfBlock block × SaidOfArms rest

-- ---- trees that suit

module _ {T C : Type 0} (see : View ℕ T C) where
  -- the constant that a name is, if it is one, has a literal
  abbrev pub CanMention : T → Bytes → Type 0
  CanMention note name = passes has_literal (see.constant note name) ≡ true

  -- code can follow a call
  abbrev pub CanCall : T → C → Bytes → Type 0
  CanCall note c name = passes is_followed (see.callee note c name) ≡ true

  -- Code can follow each mention and each call in an expression, in arguments, in a statement, in a block, in
  -- the branches of a conditional, and in the arms of a case.
  abbrev pub Suits : Expression Bytes T C → Type 0
  Suits e = SaidOf CanMention CanCall e

  abbrev pub SuitsAll : Expressions Bytes T C → Type 0
  SuitsAll es = SaidOfAll CanMention CanCall es

  abbrev pub SuitsNamed : Arguments Bytes T C → Type 0
  SuitsNamed es = SaidOfNamed CanMention CanCall es

  abbrev pub SuitsIn : Statement Bytes T C → Type 0
  SuitsIn s = SaidIn CanMention CanCall s

  abbrev pub SuitsBlock : Statements Bytes T C → Type 0
  SuitsBlock block = SaidOfBlock CanMention CanCall block

  abbrev pub SuitsTests : Branches Bytes T C → Type 0
  SuitsTests tests = SaidOfTests CanMention CanCall tests

  abbrev pub SuitsArms : Arms Bytes T C → Type 0
  SuitsArms all = SaidOfArms CanMention CanCall all

-- in each function of a program
abbrev pub EachSuits : {T C : Type 0} → List (Function ℕ T C) → Type 0
EachSuits [] = Unit {0}
EachSuits (f ∷ rest) = SuitsBlock f.view f.body × EachSuits rest
