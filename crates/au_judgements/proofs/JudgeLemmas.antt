-- Why noting a statement stops, from why noting its parts does.
use Rattle.std.proofs.Common.{◌≡◌, Result, Ok, Err, ap, subst, sym}
use Rattle.au_base.specs.declared.places.Pos.{Pos}
use Rattle.au_typing.specs.DerivationFaults.{Judged, ◌then◌, placed}
use Rattle.au_judgements.specs.declared.refusals.Refused.{Refused}
use Rattle.au_judgements.specs.declared.refusals.Refused.TheVariants as told
use Rattle.au_judgements.specs.Refusing.{Judges, Refuses, refused_from, refused_with}
use Rattle.au_noting.specs.declared.faults.Fault.{Fault}
use Rattle.au_noting.specs.declared.faults.Fault.TheVariants as fault
use Rattle.au_noting.specs.Giving.{Gives, Stops}
use Rattle.au_typing.specs.Faults.{Noting}

-- what stops the noting of a part stops that of its statement
pub stops_refuses : {A : Type 0} (at : Pos) (f : Fault) (noting : Noting A) → Stops f noting →
    Refuses (refused_with at f) (placed at noting)
stops_refuses at (fault.Why cause) noting h = ap (placed at) h
stops_refuses at (fault.Limit passed) noting h = ap (placed at) h
stops_refuses at fault.Memory noting h = tt

-- what a part of a statement comes to is what the search gives of it, with the place of the statement
pub gives_judges : {X A : Type 0} (view : X → A) (at : Pos) (r : Result X Fault) (noting : Noting A) →
    Gives view r noting → Judges view (refused_from at r) (placed at noting)
gives_judges view at (Ok x) noting h = ap (placed at) h
gives_judges view at (Err f) noting h = stops_refuses at f noting h

-- what refuses a first step refuses it with all steps that follow
pub refuses_then : {A B : Type 0} (r : Refused) (first : Judged A) (next : A → Judged B) → Refuses r first →
    Refuses r (first then next)
refuses_then (told.Statement at cause) first next h = ap (λ judged. judged then next) h
refuses_then (told.Limit passed) first next h = ap (λ judged. judged then next) h
refuses_then told.Memory first next h = tt

-- what stops the noting of a part stops its statement with all steps that follow
pub stops_first : {A B : Type 0} (at : Pos) (f : Fault) (r : Refused) (noting : Noting A) (next : A → Judged B) →
    r ≡ refused_with at f → Stops f noting → Refuses r (placed at noting then next)
stops_first at f r noting next is h =
    subst (λ (one : Refused). Refuses one (placed at noting then next)) (sym is)
    (refuses_then (refused_with at f) (placed at noting) next (stops_refuses at f noting h))

-- a part that is noted, with the place of its statement
pub noted_placed : {A : Type 0} (at : Pos) (noting : Noting A) (x : A) → noting ≡ Ok x → placed at noting ≡ Ok x
noted_placed at noting x h = ap (placed at) h

-- a first step that is judged, before the step that follows
pub judged_then : {A B : Type 0} (first : Judged A) (next : A → Judged B) (x : A) → first ≡ Ok x →
    (first then next) ≡ next x
judged_then first next x h = ap (λ judged. judged then next) h
