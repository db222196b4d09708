use Rattle.std.proofs.Common.{◌≡◌, ◌++◌, ◌<◌, None, Some, length, ap, sym, subst, ◌∙◌, arith}
use Rattle.std.specs.Prelude.{slice_get}
use Rattle.std.specs.Option.{option_map}
use Rattle.std.proofs.lemmas.Result.{IfOk-weaker}
use Rattle.au_matching.specs.Forming.{StandsOver}
use Rattle.au_modules.specs.Programs.{ModuleParts}
use Rattle.au_modules.specs.Slots as slots
use Rattle.au_names.specs.HeadsOf.{heads_of}
use Rattle.au_judged_types.specs.Bounds.{parameters}
use Rattle.au_classes.specs.InstanceViews.{text_said}
use Rattle.au_instances.specs.Rows.{row_said}
use Rattle.au_classes.specs.Faults as spec
use Rattle.au_classes.specs.ClassViews.{known_said}
use Rattle.au_classes.proofs.FaultLemmas.{fault_there, read_stands, row_there}
use Rattle.au_classes.proofs.declaring.admit_text.Goals as goal
use Rattle.au_imports.proofs.OfferLemmas.{module_there}

pub admit-requires : goal.admit-requires
admit-requires c =
    let row = row_said c.in-Some.row in
    subst (λ hs. StandsOver hs (parameters row.generics) row.head) c.heads_ref.ensures
    (read_stands (text_said c.args.text.now) c.names.result.now.types c.heads_ref.result.now row
    (sym c.in_ok-row_in.ensures ∙ ap (option_map row_said) c.in-Some.is))

pub returns-in-Some-clause-fault : goal.returns-in-Some-clause-fault
returns-in-Some-clause-fault c =
    let program = slots.modules c.args.program.now in
    let text = text_said c.args.text.now in
    let known = known_said c.args.known.now in
    let row = row_said c.in-Some.row in
    let own = c.names-in-Some.result.now.types in
    let many = c.len.ensures ∙ ap (λ ms. length (slots.modules ms)) c.modules.ensures.kept in
    let within : text.number.«module» < length program = omega (arith, many, c.if-place-len.false) in
    let found : (m : ModuleParts) × (slice_get program text.number.«module» ≡ Some m) =
    module_there program text.number.«module» within in
    let read = sym c.in_ok-row_in.ensures ∙ ap (option_map row_said) c.in-Some.is in
    IfOk-weaker c.admit.result
    (λ fault. fault ≡ spec.read_fault (heads_of program) known text program own (Some row))
    (λ fault. fault ≡ spec.fault_of program known text)
    (λ fault is. is ∙ fault_there program text found.0 c.names.result.now.types own c.heads_ref.result.now row
    known found.1 (c.names.ensures.types found.0 found.1) (c.names-in-Some.ensures.types found.0 found.1)
    c.heads_ref.ensures read)
    c.admit.ensures.fault

pub returns-in-Some-clause-known : goal.returns-in-Some-clause-known
returns-in-Some-clause-known c =
    let program = slots.modules c.args.program.now in
    let text = text_said c.args.text.now in
    let known = known_said c.args.known.now in
    let row = row_said c.in-Some.row in
    let own = c.names-in-Some.result.now.types in
    let many = c.len.ensures ∙ ap (λ ms. length (slots.modules ms)) c.modules.ensures.kept in
    let within : text.number.«module» < length program = omega (arith, many, c.if-place-len.false) in
    let found : (m : ModuleParts) × (slice_get program text.number.«module» ≡ Some m) =
    module_there program text.number.«module» within in
    let read = sym c.in_ok-row_in.ensures ∙ ap (option_map row_said) c.in-Some.is in
    IfOk-weaker c.admit.result
    (λ fault. fault ≡ None → known_said c.admit.new.known ≡ known ++ spec.known_of text.at (Some row))
    (λ fault. fault ≡ None → known_said c.admit.new.known ≡ spec.with_text program known text)
    (λ fault holds none. holds none ∙ ap (λ o. known ++ spec.known_of text.at o)
    (sym (row_there program text found.0 c.names.result.now.types own c.heads_ref.result.now row found.1
    (c.names.ensures.types found.0 found.1) c.heads_ref.ensures read)))
    c.admit.ensures.known
