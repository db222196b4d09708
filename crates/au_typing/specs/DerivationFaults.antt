-- Why a statement has no good notes, and where it stands.
use Rattle.std.specs.Prelude.{Result, Ok, Err}
use Rattle.au_base.specs.declared.limits.Limit.{Limit}
use Rattle.au_base.specs.declared.places.Pos.{Pos}
use Rattle.au_typing.specs.Faults.{Why, Fault, Noting, why, limit}

-- A statement at this place has no good notes, for this cause; or a type of a note passes a limit, which has
-- no place.
pub data StatementFault : Type 0 where
  refused : Pos → Why → StatementFault
  too_large : Limit → StatementFault

-- what comes of noting statements
abbrev pub Judged : Type 0 → Type 0
Judged A = Result A StatementFault

-- a second step after a first one that has no fault
infixl 10 ◌then◌
abbrev pub ◌then◌ : {A B : Type 0} → Judged A → (A → Judged B) → Judged B
Ok x then f = f x
Err fault then f = Err fault

-- a fault with the place of its statement
abbrev pub fault_at : Pos → Fault → StatementFault
fault_at at (why cause) = refused at cause
fault_at at (limit passed) = too_large passed

abbrev pub placed : {A : Type 0} → Pos → Noting A → Judged A
placed at (Ok x) = Ok x
placed at (Err fault) = Err (fault_at at fault)
