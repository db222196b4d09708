use Rattle.std.proofs.Common.{◌≡◌, Some, [], ◌∷◌, ap, ◌∙◌}
use Rattle.std.specs.Option.{option_map}
use Rattle.std.proofs.lemmas.Result.{IfOk-weaker}
use Rattle.au_modules.specs.Slots as slots
use Rattle.au_names.specs.Standing.{standing}
use Rattle.au_names.specs.Walks.{written_parameter}
use Rattle.au_judged_types.specs.Meanings.{parameter}
use Rattle.au_typing.specs.Called.{by_header, unconstrained}
use Rattle.au_promises.specs.Written.{header_of}
use Rattle.au_sights.specs.Sights.{callable_said}
use Rattle.au_sights.proofs.callables.method_of.Goals as goal

pub returns : goal.returns
returns c =
    let program = slots.modules c.args.program.now in
    let d = standing c.args.found.now in
    let p = parameter (written_parameter c.args.param.now) in
    let h = header_of c.args.one.now in
    IfOk-weaker c.by_header.result
    (λ made. option_map callable_said made ≡ by_header program d c.in_ok-generics.generics
    (Some (c.in_ok-name.name, c.args.at)) h)
    (λ made. option_map callable_said made ≡ by_header program d (unconstrained p ∷ []) (Some (p.name, c.args.at)) h)
    (λ made is.
    is
    ∙ ap (λ gs. by_header program d gs (Some (c.in_ok-name.name, c.args.at)) h) c.in_ok-generics.ensures
    ∙ ap (λ n. by_header program d (unconstrained p ∷ []) (Some (n, c.args.at)) h) c.in_ok-name.ensures)
    c.by_header.ensures
