use Rattle.std.proofs.Common.{◌≡◌, IfOk, Some, ap, subst, sym, ◌∙◌}
use Rattle.std.specs.Option.{option_map}
use Rattle.au_modules.specs.Slots as slots
use Rattle.au_noting_programs.specs.Said.{modules_said}
use Rattle.au_type_texts.specs.GivenViews.{given_said}
use Rattle.au_closed_programs.specs.Defined.{body_said}
use Rattle.au_closed_programs.proofs.PlaceLemmas.{body_within}
use Rattle.au_closing.specs.Bodies.{body_of}
use Rattle.au_closing.specs.Closes as closes
use Rattle.au_closing.specs.ClosingViews.{instance_said}
use Rattle.au_closed_programs.specs.FunctionViews.{function_said}
use Rattle.au_closed_programs.proofs.KnownLemmas.{some_said}
use Rattle.au_closed_programs.proofs.functions.instance_closed.Goals as goal

pub body_closed-requires : goal.body_closed-requires
body_closed-requires c =
    let bodies = c.args.known.now.bodies in
    body_within (slots.modules bodies.program.now) (modules_said bodies.modules.now)
    (instance_said c.args.one.now).of (body_said c.in-Some.body)
    (sym c.in_ok-found.ensures ∙ ap (option_map body_said) c.in-Some.is)

pub returns-in-Some : goal.returns-in-Some
returns-in-Some c =
    let known = c.args.known.now in
    let program = slots.modules known.bodies.program.now in
    let noted = modules_said known.bodies.modules.now in
    let all = known.reached.now in
    let one = c.args.one.now in
    let body = body_said c.in-Some.body in
    let here : body_of program noted (instance_said one).of ≡ Some body =
    sym c.in_ok-found.ensures ∙ ap (option_map body_said) c.in-Some.is in
    let made =
    subst (λ given. IfOk c.body_closed.result (λ made.
    function_said made ≡ closes.body_closed program noted all (given_said given) body))
    c.deref.ensures.value c.body_closed.ensures in
    subst (λ found. IfOk c.body_closed.result (λ made.
    option_map (closes.body_closed program noted all (given_said one.given.items)) found
    ≡ Some (function_said made)))
    (sym here)
    (some_said function_said (closes.body_closed program noted all (given_said one.given.items) body)
    c.body_closed.result made)
