-- What the code says of why noting stops, and when a call answers what the search gives.
use Rattle.std.specs.Prelude.{◌≡◌, Bool, true, false, Option, None, Some, Result, Ok, Err}
use Rattle.au_sights.specs.declared.faults.Form as code
use Rattle.au_sights.specs.declared.faults.Form.TheVariants as form
use Rattle.au_sights.specs.declared.faults.Why as clause
use Rattle.au_sights.specs.declared.faults.Why.TheVariants as cause
use Rattle.au_noting.specs.declared.faults.Fault as told
use Rattle.au_noting.specs.declared.faults.Fault.TheVariants as fault
use Rattle.au_types.specs.declared.types.DeclAt.{DeclAt}
use Rattle.au_types.specs.declared.types.Ty.{Ty}
use Rattle.au_types.specs.Views.{meaning}
use Rattle.au_typing.specs.Faults as faults
use Rattle.au_typing.specs.Faults.{Noting, Why}

-- a form that is wanted
abbrev pub form_said : code.Form → faults.Form
form_said form.Record = faults.record_wanted
form_said form.Union = faults.union_wanted
form_said form.Reference = faults.reference_wanted
form_said form.WriteReference = faults.write_reference_wanted
form_said form.Integer = faults.integer_wanted
form_said form.Assignable = faults.assignable_wanted
form_said form.Linear = faults.linear_wanted
form_said form.Region = faults.region_wanted
form_said (form.Arguments count) = faults.arguments_wanted count
form_said form.Labels = faults.labels_wanted
form_said form.Arms = faults.arms_wanted
form_said (form.Range kind) = faults.range_wanted kind

-- the clause that fails
abbrev pub cause_said : clause.Why Ty DeclAt → Why
cause_said (cause.Unknown name) = faults.unknown name
cause_said (cause.Different wanted found) = faults.different (meaning wanted) (meaning found)
cause_said (cause.Unfixed name) = faults.unfixed name
cause_said (cause.NoInstance class of) = faults.no_instance class (meaning of)
cause_said (cause.NotFree of) = faults.not_free (meaning of)
cause_said (cause.Shape wanted) = faults.shape (form_said wanted)
cause_said cause.AfterReturn = faults.after_return
cause_said cause.FallsOut = faults.falls_out

-- why noting stops, unless memory ran out
abbrev pub Stops : {A : Type 0} → told.Fault → Noting A → Type 0
Stops (fault.Why w) noting = noting ≡ Err (faults.why (cause_said w))
Stops (fault.Limit passed) noting = noting ≡ Err (faults.limit passed)
Stops fault.Memory noting = Unit {0}

-- what a call answered, seen by `view`, is what the search gives, unless memory ran out
abbrev pub Gives : {X A : Type 0} → (X → A) → Result X told.Fault → Noting A → Type 0
Gives view (Ok x) noting = noting ≡ Ok (view x)
Gives view (Err e) noting = Stops e noting

-- this clause fails, unless memory ran out
abbrev pub Tells : Why → told.Fault → Type 0
Tells cause (fault.Why w) = cause_said w ≡ cause
Tells cause (fault.Limit passed) = ⊥
Tells cause fault.Memory = Unit {0}

-- a call goes on where a test holds, and else stops with a clause
abbrev pub Lets : {X : Type 0} → Result X told.Fault → Bool → Why → Type 0
Lets (Ok x) test cause = test ≡ true
Lets (Err e) test cause = (test ≡ false) × Tells cause e
