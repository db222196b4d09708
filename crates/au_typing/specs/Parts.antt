-- The tests and the parts of the rules on statements.
use Rattle.std.specs.Prelude.{◌==◌, ◌&&◌, ◌||◌, Bool, true, false, List, [], ◌∷◌, map, is_some, Option, None}
use Rattle.std.specs.Prelude.{Some, option_map}
use Rattle.std.specs.List.{count_by, find, list_all, list_any}
use Rattle.std.specs.Str.{bytes_eq}
use Rattle.au_syntax.specs.declared.expressions.BorrowMode.{BorrowMode}
use Rattle.au_syntax.specs.declared.expressions.BorrowMode.TheVariants as modes
use Rattle.au_syntax.specs.declared.types.Access.{Access}
use Rattle.au_syntax.specs.declared.types.Access.TheVariants as access
use Rattle.au_syntax.specs.Expressions.{Expression, number, negative, text, truth, nil}
use Rattle.au_syntax.specs.Plain.{Bytes}
use Rattle.au_syntax.specs.Statements.{Arms, no_arms, arms}
use Rattle.au_syntax.specs.Types.{Bound}
use Rattle.au_types.specs.declared.types.Region.{Region}
use Rattle.au_types.specs.declared.types.Region.TheVariants as regions
use Rattle.au_types.specs.Types as mean
use Rattle.au_types.specs.Types.{Meaning, Argument, Arguments}
use Rattle.au_judged_types.specs.Judging.{refers}
use Rattle.au_classes.specs.Clashing.{same_target}
use Rattle.au_names.specs.declared.targets.Target.{Target}
use Rattle.au_typing.specs.Scopes.{Case, Scope, Typed}

-- ---- labels

-- each name of a list stands exactly once among others, and these hold no name besides
abbrev pub each_once : List Bytes → List Bytes → Bool
each_once names others =
    list_all (λ name. count_by (bytes_eq name) others == 1) names
    && list_all (λ other. list_any (bytes_eq other) names) others

-- each field is bound exactly once, and nothing besides
abbrev pub binds_each : List Typed → List (Bound Bytes) → Bool
binds_each fields binds =
    each_once (map (λ (field : Typed). field.name) fields) (map (λ (b : Bound Bytes). b.name.name.name) binds)

-- ---- the arms of a case

-- what stands before the block of an arm: the name of a case, and what is bound
pub record ArmHead : Type 0 where
  pub name : Bytes
  pub binds : List (Bound Bytes)

-- the heads of arms in order
abbrev pub heads_of : {T C : Type 0} → Arms Bytes T C → List ArmHead
heads_of no_arms = []
heads_of (arms at n binds block rest) = record { name = n.name; binds = binds } ∷ heads_of rest

-- the case of a union that a name means, where it means one
abbrev pub case_meant : List Case → Option Target → Option Case
case_meant cases None = None
case_meant cases (Some target) = find (λ one. same_target target one.target) cases

-- the case of a union that an arm is for
abbrev pub case_of_arm : Scope → List Case → ArmHead → Option Case
case_of_arm sc cases head = case_meant cases (sc.outside.target head.name)

-- an arm is for this case
abbrev pub is_for : Scope → Case → ArmHead → Bool
is_for sc one head = is_some (case_of_arm sc (one ∷ []) head)

-- each case of a union has exactly one arm, and each arm is for one of them
abbrev pub arms_fit : Scope → List Case → List ArmHead → Bool
arms_fit sc cases heads =
    list_all (λ one. count_by (is_for sc one) heads == 1) cases
    && list_all (λ head. is_some (case_of_arm sc cases head)) heads

-- ---- what a case takes apart

-- a field that is reached through a reference: a reference of the same access into the same region
abbrev pub field_behind : Access → Region → Typed → Typed
field_behind kind region field = record field { of = refers kind field.of region }

-- a case that is reached through a reference
abbrev pub case_behind : Access → Region → Case → Case
case_behind kind region one = record one { fields = map (field_behind kind region) one.fields }

-- the cases of the union that a reference refers to, if it is one that is known here, reached through it
abbrev pub cases_behind : Scope → Access → Meaning → Region → Option (List Case)
cases_behind sc kind to region = option_map (map (case_behind kind region)) (sc.outside.cases to)

-- The cases that a `case` over a type tells apart, each with the fields that its arm binds: those of a union
-- that is known here, and those of such a union behind a reference, reached through it.
abbrev pub cases_told : Scope → Meaning → Option (List Case)
cases_told sc (mean.reads to region) = cases_behind sc access.Read to region
cases_told sc (mean.writes to region) = cases_behind sc access.Write to region
cases_told sc t = sc.outside.cases t

-- a region is that of the borrows of one whole expression, which can't be written
abbrev pub is_anonymous : Region → Bool
is_anonymous regions.Anonymous = true
is_anonymous region = false

abbrev mutual
  -- that region stands somewhere in a type
  pub is_borrowed_within : Meaning → Bool
  is_borrowed_within (mean.named at args) = are_borrowed_within args
  is_borrowed_within (mean.reads t region) = is_anonymous region || is_borrowed_within t
  is_borrowed_within (mean.writes t region) = is_anonymous region || is_borrowed_within t
  is_borrowed_within t = false

  -- in an argument
  pub argument_borrowed_within : Argument → Bool
  argument_borrowed_within (mean.of_type t) = is_borrowed_within t
  argument_borrowed_within (mean.in_region region) = is_anonymous region

  -- in arguments
  pub are_borrowed_within : Arguments → Bool
  are_borrowed_within mean.no_arguments = false
  are_borrowed_within (mean.arguments first rest) = argument_borrowed_within first || are_borrowed_within rest

-- ---- borrow statements

-- the access that a borrow gives: `&` reads, `&!` and `&~` write
abbrev pub access_of : BorrowMode → Access
access_of modes.Read = access.Read
access_of modes.Write = access.Write
access_of modes.Reborrow = access.Write

-- `borrow` reads and `borrow!` writes
abbrev pub mode_for : Access → BorrowMode
mode_for access.Read = modes.Read
mode_for access.Write = modes.Write

-- the type that is borrowed of a variable of a type: its own, and for `&~` the one behind a write reference
abbrev pub lent : BorrowMode → Meaning → Option Meaning
lent modes.Reborrow (mean.writes t region) = Some t
lent modes.Reborrow t = None
lent mode t = Some t

-- the type of a borrow into a region of what is borrowed
abbrev pub borrow_type : BorrowMode → Bytes → Meaning → Meaning
borrow_type mode region of = refers (access_of mode) of (regions.Named region)

-- ---- constants

-- an expression is one literal; in parentheses it is none
abbrev pub is_literal : {N T C : Type 0} → Expression N T C → Bool
is_literal (number n l) = true
is_literal (negative n l) = true
is_literal (text n t) = true
is_literal (truth n b) = true
is_literal (nil n) = true
is_literal e = false
