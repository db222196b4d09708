-- When a statement with its notes is good: one record for each form, over the notes of its own expressions
-- and the types and names that it writes. Names are new where they are declared by the rules on declarations,
-- of which nothing is said here.
use Rattle.std.specs.Prelude.{◌≡◌, true, false, List, [], ◌∷◌, None, Some, Ok}
use Rattle.au_syntax.specs.declared.expressions.BorrowMode.{BorrowMode}
use Rattle.au_syntax.specs.Names.{Placed}
use Rattle.au_syntax.specs.Plain.{Bytes}
use Rattle.au_syntax.specs.Statements.{skip, declare, destructure, assign, assign_through, conditional}
use Rattle.au_syntax.specs.Statements.{conditional_else, case_of, while_loop, for_loop, borrow_in}
use Rattle.au_syntax.specs.Statements.{borrow_typed, discard, return_of, no_statements, statements}
use Rattle.au_syntax.specs.Statements.{no_branches, branches, no_arms, arms}
use Rattle.au_syntax.specs.Types.{Bound, WrittenType, reference}
use Rattle.au_types.specs.declared.types.Region.{Region}
use Rattle.au_types.specs.declared.types.Region.TheVariants as regions
use Rattle.au_types.specs.Same.{same}
use Rattle.au_types.specs.Types as mean
use Rattle.au_types.specs.Types.{Meaning}
use Rattle.au_judged_types.specs.Judging.{refers}
use Rattle.au_typing.specs.Scopes.{Case, Scope, Typed, Variable}
use Rattle.au_typing.specs.Good.{AllGood, ArePaired}
use Rattle.au_typing.specs.Lookups.{IsPart, is_free_in, type_of_name, variable_of, written_type}
use Rattle.au_typing.specs.Notes.{Mode, NotedExpression, mode_of, type_of}
use Rattle.au_typing.specs.Rules.{is_integer}
use Rattle.au_typing.specs.InScope.{after, fixed_variable, with_bound, with_reference, with_variable}
use Rattle.au_typing.specs.Parts.{ArmHead, arms_fit, binds_each, borrow_type, case_of_arm, cases_told}
use Rattle.au_typing.specs.Parts.{heads_of, is_borrowed_within, lent, mode_for}
use Rattle.au_typing.specs.Returns.{may_follow, returns}
use Rattle.au_typing.specs.Trees.{NotedStatement, NotedStatements, NotedBranches, NotedArms}

-- an expression is good, where this type is wanted of it or none
abbrev pub Wants : Scope → NotedExpression → Mode → Type 0
Wants sc e mode = AllGood sc e × (mode_of e ≡ mode)

-- ---- `let` and `var`

-- The written type is well formed, and the expression wants it.
pub record GoodDeclared (sc : Scope) (t : WrittenType) (e : NotedExpression) : Type 0 where
  pub of : Meaning
  pub formed : written_type sc t ≡ Ok of
  pub wants : Wants sc e (Some of)

-- ---- fields that are bound

-- What is written for a field is well formed and the field's type.
pub record IsBound (sc : Scope) (fields : List Typed) (b : Bound Bytes) : Type 0 where
  pub field : Meaning
  pub has : type_of_name b.name.name.name fields ≡ Some field
  pub of : Meaning
  pub formed : written_type sc b.of ≡ Ok of
  pub is_same : same field of ≡ true

abbrev pub AreBound : Scope → List Typed → List (Bound Bytes) → Type 0
AreBound sc fields [] = Unit {0}
AreBound sc fields (b ∷ rest) = IsBound sc fields b × AreBound sc fields rest

-- The expression, of which no type is wanted, has a record type that is known here, and each field is bound
-- once with its type.
pub record GoodTaken (sc : Scope) (binds : List (Bound Bytes)) (e : NotedExpression) : Type 0 where
  pub wants : Wants sc e None
  pub fields : List Typed
  pub known : sc.outside.fields (type_of e) ≡ Some fields
  pub each : binds_each fields binds ≡ true
  pub bound : AreBound sc fields binds

-- ---- assignments

-- The variable is one that `var` declares, the type of the part is Free, and the expression wants it.
pub record GoodAssigned (sc : Scope) (x : Bytes) (path : List (Placed Bytes)) (e : NotedExpression) :
    Type 0 where
  pub variable : Variable
  pub known : variable_of sc x ≡ Some variable
  pub assignable : variable.assignable ≡ true
  pub of : Meaning
  pub part : IsPart sc variable.of path of
  pub free : is_free_in sc of ≡ true
  pub wants : Wants sc e (Some of)

-- The variable is a write reference to a record that is known here, the type of the part is Free, and the
-- expression wants it.
pub record GoodPut (sc : Scope) (r : Bytes) (path : List (Placed Bytes)) (e : NotedExpression) : Type 0 where
  pub variable : Variable
  pub known : variable_of sc r ≡ Some variable
  pub to : Meaning
  pub region : Region
  pub writes : variable.of ≡ mean.writes to region
  pub fields : List Typed
  pub is_record : sc.outside.fields to ≡ Some fields
  pub of : Meaning
  pub part : IsPart sc to path of
  pub free : is_free_in sc of ≡ true
  pub wants : Wants sc e (Some of)

-- ---- `case`

-- An arm is for one of the cases, and binds each of its fields once with its type.
pub record GoodArm (sc : Scope) (cases : List Case) (head : ArmHead) : Type 0 where
  pub one : Case
  pub is_for : case_of_arm sc cases head ≡ Some one
  pub each : binds_each one.fields head.binds ≡ true
  pub bound : AreBound sc one.fields head.binds

abbrev pub GoodArms : Scope → List Case → List ArmHead → Type 0
GoodArms sc cases [] = Unit {0}
GoodArms sc cases (head ∷ rest) = GoodArm sc cases head × GoodArms sc cases rest

-- The expression, of which no type is wanted, has the type of a union that is known here, or of a reference
-- to one, in which no region is anonymous; each case has one arm, and each arm is good, where through a
-- reference it binds references to the fields.
pub record GoodCase (sc : Scope) (e : NotedExpression) (heads : List ArmHead) : Type 0 where
  pub wants : Wants sc e None
  pub lasting : is_borrowed_within (type_of e) ≡ false
  pub cases : List Case
  pub known : cases_told sc (type_of e) ≡ Some cases
  pub each : arms_fit sc cases heads ≡ true
  pub good : GoodArms sc cases heads

-- ---- loops

-- The bounds are good, paired where no type is wanted, and of an integer kind.
pub record GoodBounds (sc : Scope) (first last : NotedExpression) : Type 0 where
  pub good_first : AllGood sc first
  pub good_last : AllGood sc last
  pub paired : ArePaired None first last
  pub integer : is_integer (type_of first) ≡ true

-- ---- borrow statements

-- Of a variable this type is borrowed.
pub record IsLent (sc : Scope) (mode : BorrowMode) (x : Bytes) (of : Meaning) : Type 0 where
  pub variable : Variable
  pub known : variable_of sc x ≡ Some variable
  pub lends : lent mode variable.of ≡ Some of

-- A written type is a reference into a region: what stands behind it is well formed outside of the region.
abbrev pub IsReference : Scope → WrittenType → Bytes → Meaning → Type 0
IsReference sc (reference at access target name) region of =
    (to : Meaning) × (written_type sc target ≡ Ok to) × (name.name ≡ region)
    × (of ≡ refers access to (regions.Named name.name))
IsReference sc t region of = ⊥

-- A borrow of a variable into a region, and its written type, is that of the borrow.
pub record GoodBorrow (sc : Scope) (t : WrittenType) (mode : BorrowMode) (x region : Bytes) (of : Meaning) :
    Type 0 where
  pub lends : Meaning
  pub is_lent : IsLent sc mode x lends
  pub written : IsReference sc t region of
  pub is_same : same (borrow_type mode region lends) of ≡ true

-- ---- statements and blocks

abbrev mutual
  -- A statement is good in a scope.
  pub GoodStatement : NotedStatement → Scope → Type 0
  GoodStatement (skip at) sc = Unit {0}
  GoodStatement (declare at binding name t e) sc = GoodDeclared sc t e
  GoodStatement (destructure at binds e) sc = GoodTaken sc binds e
  GoodStatement (assign at x path e) sc = GoodAssigned sc x.name path e
  GoodStatement (assign_through at r path e) sc = GoodPut sc r.name path e
  GoodStatement (conditional at tests) sc = GoodBranches tests sc
  GoodStatement (conditional_else at tests block) sc = GoodBranches tests sc × GoodBlock block sc
  GoodStatement (case_of at e all) sc = GoodCase sc e (heads_of all) × GoodArmBlocks all sc
  GoodStatement (while_loop at e block) sc = Wants sc e (Some mean.truth) × GoodBlock block sc
  GoodStatement (for_loop at name first last block) sc =
      GoodBounds sc first last × GoodBlock block (with_variable (fixed_variable name.name (type_of first)) sc)
  GoodStatement (borrow_in at kind x r region block stop) sc =
      (of : Meaning) × IsLent sc (mode_for kind) x.name of
      × GoodBlock block (with_reference r.name region.name (borrow_type (mode_for kind) region.name of) sc)
  GoodStatement (borrow_typed at r t mode x block stop) sc =
      (region : Bytes) × (of : Meaning) × GoodBorrow sc t mode x.name region of
      × GoodBlock block (with_reference r.name region of sc)
  GoodStatement (discard at e) sc = Wants sc e None × (is_free_in sc (type_of e) ≡ true)
  GoodStatement (return_of at e) sc = Wants sc e (Some sc.result)

  -- A block is good: each statement where the ones before it have declared their variables, and none follows
  -- one that returns on every path.
  pub GoodBlock : NotedStatements → Scope → Type 0
  GoodBlock no_statements sc = Unit {0}
  GoodBlock (statements s rest) sc =
      GoodStatement s sc × (may_follow (returns s) rest ≡ true) × GoodBlock rest (after s sc)

  -- Each test wants Bool, and each block is good.
  pub GoodBranches : NotedBranches → Scope → Type 0
  GoodBranches no_branches sc = Unit {0}
  GoodBranches (branches e block rest) sc =
      Wants sc e (Some mean.truth) × GoodBlock block sc × GoodBranches rest sc

  -- The block of each arm is good, where what the arm binds is in scope.
  pub GoodArmBlocks : NotedArms → Scope → Type 0
  GoodArmBlocks no_arms sc = Unit {0}
  GoodArmBlocks (arms at n binds block rest) sc =
      GoodBlock block (with_bound binds sc) × GoodArmBlocks rest sc
