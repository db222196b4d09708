-- When two views give a tree and the tree with other notes one meaning.
use Rattle.std.specs.Prelude.{◌≡◌, ℕ, Bool, true, List, [], ◌∷◌, Option, None, Some}
use Rattle.au_closed_trees.specs.Changes.{Change}
use Rattle.au_closed_trees.specs.Renoted.{block_renoted}
use Rattle.au_type_texts.specs.Types as types
use Rattle.au_type_texts.specs.Types.{ClosedType}
use Rattle.au_meaning.specs.Expressions.{mentions, calls, note_of}
use Rattle.au_meaning.specs.Names.{Scope, Variable}
use Rattle.au_meaning.specs.Statements.{run_block}
use Rattle.au_meaning.specs.Ticks.{Action}
use Rattle.au_meaning.specs.Views.{Field, View}
use Rattle.au_meaning.specs.Worlds.{Value}
use Rattle.au_syntax.specs.Expressions.{Expression, Expressions, Arguments, number, negative, text, truth}
use Rattle.au_syntax.specs.Expressions.{nil, path, arrow, call, named_call, parenthesized, dereference}
use Rattle.au_syntax.specs.Expressions.{borrow, borrow_part, binary, negation, typed, choice, no_expressions}
use Rattle.au_syntax.specs.Expressions.{expressions, no_arguments, arguments}
use Rattle.au_syntax.specs.Plain.{Bytes}
use Rattle.au_syntax.specs.Statements.{Statement, Statements, Branches, Arms, skip, declare, destructure}
use Rattle.au_syntax.specs.Statements.{assign, assign_through, conditional, conditional_else, case_of}
use Rattle.au_syntax.specs.Statements.{while_loop, for_loop, borrow_in, borrow_typed, discard, return_of}
use Rattle.au_syntax.specs.Statements.{no_statements, statements, no_branches, branches, no_arms, arms}

-- ---- what is said of each mention and each call of a tree

module _ {T C : Type 0} (mentioned : T → Bytes → Type 0) (called : T → C → Bytes → Type 0) where
  abbrev mutual
    pub EachIn : Expression Bytes T C → Type 0
    EachIn (number n l) = Unit {0}
    EachIn (negative n l) = Unit {0}
    EachIn (text n t) = Unit {0}
    EachIn (truth n b) = Unit {0}
    EachIn (nil n) = Unit {0}
    EachIn (path n x fields) = mentioned n.note x.name
    EachIn (arrow n r fields) = Unit {0}
    EachIn (call n f args c) = called n.note c f.name × EachInAll args
    EachIn (named_call n f args c) = called n.note c f.name × EachNamed args
    EachIn (parenthesized n e) = EachIn e
    EachIn (dereference n e) = EachIn e
    EachIn (borrow n mode x) = Unit {0}
    EachIn (borrow_part n r fields) = Unit {0}
    EachIn (binary n op a b) = EachIn a × EachIn b
    EachIn (negation n e) = EachIn e
    EachIn (typed n e t) = EachIn e
    EachIn (choice n c a b) = EachIn c × EachIn a × EachIn b

    -- in arguments
    pub EachInAll : Expressions Bytes T C → Type 0
    EachInAll no_expressions = Unit {0}
    EachInAll (expressions e rest) = EachIn e × EachInAll rest

    pub EachNamed : Arguments Bytes T C → Type 0
    EachNamed no_arguments = Unit {0}
    EachNamed (arguments label e rest) = EachIn e × EachNamed rest

-- the same in statements, and what is said of the note of an expression whose type counts: of a value that
-- gets a name, of one that is taken apart, and of the first bound of a loop
module _ {T C : Type 0} (noted : T → Type 0) (mentioned : T → Bytes → Type 0)
    (called : T → C → Bytes → Type 0)
  where
    -- in an expression of a statement
    abbrev pub EachHere : Expression Bytes T C → Type 0
    EachHere e = EachIn mentioned called e

    abbrev mutual
      -- in a statement
      pub EachOf : Statement Bytes T C → Type 0
      EachOf (skip at) = Unit {0}
      EachOf (declare at binding name t e) = noted (note_of e) × EachHere e
      EachOf (destructure at binds e) = noted (note_of e) × EachHere e
      EachOf (assign at x fields e) = EachHere e
      EachOf (assign_through at r fields e) = EachHere e
      EachOf (conditional at tests) = EachOfTests tests
      EachOf (conditional_else at tests block) = EachOfTests tests × EachOfBlock block
      EachOf (case_of at e all) = noted (note_of e) × EachHere e × EachOfArms all
      EachOf (while_loop at e block) = EachHere e × EachOfBlock block
      EachOf (for_loop at name first last block) =
          noted (note_of first) × EachHere first × EachHere last × EachOfBlock block
      EachOf (borrow_in at access x r region block stop) = EachOfBlock block
      EachOf (borrow_typed at r t mode x block stop) = EachOfBlock block
      EachOf (discard at e) = EachHere e
      EachOf (return_of at e) = EachHere e

      -- in a block
      pub EachOfBlock : Statements Bytes T C → Type 0
      EachOfBlock no_statements = Unit {0}
      EachOfBlock (statements s rest) = EachOf s × EachOfBlock rest

      -- in the branches of a conditional
      pub EachOfTests : Branches Bytes T C → Type 0
      EachOfTests no_branches = Unit {0}
      EachOfTests (branches e block rest) = EachHere e × EachOfBlock block × EachOfTests rest

      -- in the arms of a case
      pub EachOfArms : Arms Bytes T C → Type 0
      EachOfArms no_arms = Unit {0}
      EachOfArms (arms at name binds block rest) = EachOfBlock block × EachOfArms rest

-- ---- the types that count

-- by which types count
module _ (known : ClosedType → Bool) where
  -- a type that counts, if there is one
  abbrev pub Counts : Option ClosedType → Type 0
  Counts None = Unit {0}
  Counts (Some of) = known of ≡ true

  -- the types of fields count
  abbrev pub FieldsCount : List Field → Type 0
  FieldsCount [] = Unit {0}
  FieldsCount (one ∷ rest) = (known one.of ≡ true) × FieldsCount rest

  abbrev pub FoundCount : Option (List Field) → Type 0
  FoundCount None = Unit {0}
  FoundCount (Some all) = FieldsCount all

  -- the types of the variables in scope count
  abbrev pub ScopeCounts : Scope → Type 0
  ScopeCounts [] = Unit {0}
  ScopeCounts (x ∷ rest) = Counts x.of × ScopeCounts rest

-- the type of a reference counts where that of what it refers to does
pub record ReferencesCount (known : ClosedType → Bool) : Type 0 where
  pub reads : (of : ClosedType) → known (types.reads of) ≡ known of
  pub writes : (of : ClosedType) → known (types.writes of) ≡ known of

-- ---- two views

module _ {I J T C U D : Type 0} (known : ClosedType → Bool) (change : Change Bytes T C U D) (one : View I T C)
    (two : View J U D) where
  -- Two views agree on types: on those of notes and of what these become, and of a type that counts on the
  -- fields, whose types count too, and on the cases that names of arms mean, and what these become. The type
  -- of a reference counts where that behind it does.
  pub record AgreeOnTypes : Type 0 where
    pub notes : (n : T) → one.type_of n ≡ two.type_of (change.note n)
    pub mentions : (n : T) (name : Bytes) → one.type_of n ≡ two.type_of (change.mention n name)
    pub fields : (of : ClosedType) → known of ≡ true → (tag : ℕ) → one.fields of tag ≡ two.fields of tag
    pub inside : (of : ClosedType) → known of ≡ true → (tag : ℕ) → FoundCount known (one.fields of tag)
    pub tags : (of : ClosedType) → known of ≡ true → (name : Bytes)
        → one.tag of name ≡ two.tag of (change.arm name)
    pub references : ReferencesCount known

  -- they agree on a name that is mentioned, whatever variable it means or if it means none
  abbrev pub AgreeOnMention : T → Bytes → Type 0
  AgreeOnMention n name =
      (x : Option Variable) → mentions one n x name ≡ mentions two (change.mention n name) x name

  -- they agree on a call, in whatever order its arguments are brought
  abbrev pub AgreeOnCall : (I → List Value → Action Value) → (J → List Value → Action Value) → T → C → Bytes
      → Type 0
  AgreeOnCall invoke other n c name =
      (order : List Bytes → Option (List Value)) → calls one invoke (one.callee n c name) order
      ≡ calls two other (two.callee (change.note n) (change.callee n c name) name) order

  -- they agree on each mention and each call of a block, and the types that are noted where it matters count
  abbrev pub AgreeInBlock : (I → List Value → Action Value) → (J → List Value → Action Value)
      → Statements Bytes T C → Type 0
  AgreeInBlock invoke other =
      EachOfBlock (λ n. Counts known (one.type_of n)) AgreeOnMention (AgreeOnCall invoke other)

  -- Where two views agree on types, and on each mention and each call of a block, the block has one meaning.
  abbrev pub OneMeaning : Type 0
  OneMeaning =
      (invoke : I → List Value → Action Value) (other : J → List Value → Action Value) (depth number : ℕ)
      (scope : Scope) (block : Statements Bytes T C) → AgreeOnTypes → ScopeCounts known scope
      → AgreeInBlock invoke other block
      → run_block one invoke depth number scope block
      ≡ run_block two other depth number scope (block_renoted change block)
