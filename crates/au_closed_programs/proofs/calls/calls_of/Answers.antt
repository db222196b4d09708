use Rattle.std.proofs.Common.{◌≡◌, IfOk, Some, ap, subst, sym, ◌∙◌}
use Rattle.std.specs.Option.{option_map}
use Rattle.au_modules.specs.Slots as slots
use Rattle.au_noting_programs.specs.Said.{modules_said}
use Rattle.au_type_texts.specs.GivenViews.{given_said}
use Rattle.au_closed_programs.specs.Defined.{body_said}
use Rattle.au_closed_programs.proofs.PlaceLemmas.{body_within}
use Rattle.au_closing.specs.Bodies.{body_of}
use Rattle.au_closing.specs.Closes as closes
use Rattle.au_closing.specs.ClosingViews.{instance_said, instances_said}
use Rattle.au_closed_programs.proofs.calls.calls_of.Goals as goal

pub calls_in_body-requires : goal.calls_in_body-requires
calls_in_body-requires c =
    body_within (slots.modules c.args.bodies.now.program.now) (modules_said c.args.bodies.now.modules.now)
    (instance_said c.args.one.now).of (body_said c.in-Some.body)
    (sym c.in_ok-found.ensures ∙ ap (option_map body_said) c.in-Some.is)

pub returns-in-Some : goal.returns-in-Some
returns-in-Some c =
    let program = slots.modules c.args.bodies.now.program.now in
    let noted = modules_said c.args.bodies.now.modules.now in
    let one = c.args.one.now in
    let body = body_said c.in-Some.body in
    let here : body_of program noted (instance_said one).of ≡ Some body =
    sym c.in_ok-found.ensures ∙ ap (option_map body_said) c.in-Some.is in
    let called =
    subst (λ given. IfOk c.calls_in_body.result (λ called.
    instances_said called.items ≡ closes.calls_in_body program noted (given_said given) (Some body)))
    c.deref.ensures.value c.calls_in_body.ensures in
    subst (λ found. IfOk c.calls_in_body.result (λ called.
    instances_said called.items ≡ closes.calls_in_body program noted (given_said one.given.items) found))
    (sym here) called
