use Rattle.std.proofs.Common.{◌≡◌, ap, ◌∙◌, sym}
use Rattle.std.specs.Prelude.{Some}
use Rattle.std.proofs.lemmas.Result.{IfOk-weaker}
use Rattle.au_types.specs.Views.{argument, meaning}
use Rattle.au_types.proofs.TypeLemmas.{region_argument_means, type_argument_means}
use Rattle.au_matching.specs.Substituted.{type_for}
use Rattle.au_type_texts.specs.Views.{closed_meaning}
use Rattle.au_type_texts.specs.Given.{closed_under, given_for}
use Rattle.au_type_texts.specs.GivenViews.{given_said}
use Rattle.au_type_texts.proofs.calls.argument_under.Goals as goal

pub returns-in-Of : goal.returns-in-Of
returns-in-Of c =
    let given = given_said c.args.given.now in
    let name = c.args.name.now in
    let what = ap argument c.in-Of.is ∙ type_argument_means c.in-Of.of in
    IfOk-weaker c.closed_under.result
    (λ made. closed_meaning made ≡ closed_under given (meaning c.in-Of.of))
    (λ made. closed_meaning made ≡ closed_under given (type_for (Some (argument c.args.value.now)) name))
    (λ made is. is ∙ sym (ap (λ a. closed_under given (type_for (Some a) name)) what))
    c.closed_under.ensures

pub returns-in-In : goal.returns-in-In
returns-in-In c =
    let given = given_said c.args.given.now in
    let name = c.args.name.now in
    let what = ap argument c.in-In.is ∙ region_argument_means c.in-In.field-0 in
    IfOk-weaker c.given_for.result
    (λ made. closed_meaning made ≡ given_for given name)
    (λ made. closed_meaning made ≡ closed_under given (type_for (Some (argument c.args.value.now)) name))
    (λ made is. is ∙ sym (ap (λ a. closed_under given (type_for (Some a) name)) what))
    c.given_for.ensures
