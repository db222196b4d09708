-- What the code says of why noting a statement stops, and when a call answers what the search gives.
use Rattle.std.specs.Prelude.{◌≡◌, Result, Ok, Err}
use Rattle.au_base.specs.declared.places.Pos.{Pos}
use Rattle.au_typing.specs.DerivationFaults.{Judged, refused, too_large}
use Rattle.au_judgements.specs.declared.refusals.Refused.{Refused}
use Rattle.au_judgements.specs.declared.refusals.Refused.TheVariants as told
use Rattle.au_noting.specs.declared.faults.Fault.{Fault}
use Rattle.au_noting.specs.declared.faults.Fault.TheVariants as fault
use Rattle.au_noting.specs.Giving.{cause_said}

-- why noting a statement stops, unless memory ran out
abbrev pub Refuses : {A : Type 0} → Refused → Judged A → Type 0
Refuses (told.Statement at cause) judged = judged ≡ Err (refused at (cause_said cause))
Refuses (told.Limit passed) judged = judged ≡ Err (too_large passed)
Refuses told.Memory judged = Unit {0}

-- what a call answered, seen by `view`, is what the search gives, unless memory ran out
abbrev pub Judges : {X A : Type 0} → (X → A) → Result X Refused → Judged A → Type 0
Judges view (Ok x) judged = judged ≡ Ok (view x)
Judges view (Err e) judged = Refuses e judged

-- why noting stops, with the place of the statement
abbrev pub refused_with : Pos → Fault → Refused
refused_with at (fault.Why cause) = told.Statement at cause
refused_with at (fault.Limit passed) = told.Limit passed
refused_with at fault.Memory = told.Memory

-- what a part of a statement came to, with the place of the statement
abbrev pub refused_from : {X : Type 0} → Pos → Result X Fault → Result X Refused
refused_from at (Ok x) = Ok x
refused_from at (Err f) = Err (refused_with at f)
