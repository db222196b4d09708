-- Why an expression or a statement can't be noted, and what comes of noting.
use Rattle.std.specs.Prelude.{ℕ, Bool, Option, Some, None, Result, Ok, Err, if◌then◌else◌}
use Rattle.au_base.specs.declared.kinds.IntKind.{IntKind}
use Rattle.au_base.specs.declared.limits.Limit.{Limit}
use Rattle.au_syntax.specs.Plain.{Bytes}
use Rattle.au_types.specs.declared.types.DeclAt.{DeclAt}
use Rattle.au_types.specs.Types.{Meaning}
use Rattle.au_judged_types.specs.Reasons.{Reason, unknown as name_unknown, number_wanted}
use Rattle.au_judged_types.specs.Reasons.{region_wanted as no_region, not_free as type_not_free}
use Rattle.au_judged_types.specs.Reasons.{linear_wanted as type_not_linear}

-- a form that a rule wants and a part hasn't: a record or a union that is known there, a reference, a write
-- reference, an integer, a variable that `var` declares, a Linear type, a region, so many arguments, each
-- label once, each arm once, or a number in the range of a kind
pub data Form : Type 0 where
  record_wanted : Form
  union_wanted : Form
  reference_wanted : Form
  write_reference_wanted : Form
  integer_wanted : Form
  assignable_wanted : Form
  linear_wanted : Form
  region_wanted : Form
  arguments_wanted : ℕ → Form
  labels_wanted : Form
  arms_wanted : Form
  range_wanted : IntKind → Form

-- The clause of a rule that fails: a name that means nothing there; a type that is wanted, and another one
-- that is found; a type parameter of what is called that is unfixed; a class without an instance at a
-- type; a type that isn't Free where a Free one is wanted; a form that is wanted; a statement that follows
-- one that returns on every path; and a body of which some path reaches the end.
pub data Why : Type 0 where
  unknown : Bytes → Why
  different : Meaning → Meaning → Why
  unfixed : Bytes → Why
  no_instance : DeclAt → Meaning → Why
  not_free : Meaning → Why
  shape : Form → Why
  after_return : Why
  falls_out : Why

-- what stops the noting: a clause that fails, or a type of a note that passes a limit
pub data Fault : Type 0 where
  why : Why → Fault
  limit : Limit → Fault

-- what comes of noting
abbrev pub Noting : Type 0 → Type 0
Noting A = Result A Fault

infixl 10 ◌>>=◌
-- what a second step makes of what a first step gave, and the first step's fault where it gave none
abbrev pub ◌>>=◌ : {A B : Type 0} → Noting A → (A → Noting B) → Noting B
Ok x >>= f = f x
Err e >>= f = Err e

-- what follows, where a test holds
abbrev pub check : {A : Type 0} → Bool → Why → Noting A → Noting A
check test cause rest = if test then rest else Err (why cause)

-- what is there, and else the cause
abbrev pub known_or : {A : Type 0} → Why → Option A → Noting A
known_or cause (Some x) = Ok x
known_or cause None = Err (why cause)

-- why a written type isn't well formed
abbrev pub reason_why : Reason → Why
reason_why (name_unknown name) = unknown name
reason_why (number_wanted number) = shape (arguments_wanted number)
reason_why no_region = shape region_wanted
reason_why (type_not_free t) = not_free t
reason_why type_not_linear = shape linear_wanted
