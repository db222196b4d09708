use Rattle.std.proofs.Common.{◌≡◌, ℕ, map, ap, ◌∙◌}
use Rattle.std.proofs.lemmas.Result.{IfOk-weaker}
use Rattle.au_types.specs.Views.{argument_all}
use Rattle.au_modules.specs.Slots as slots
use Rattle.au_names.specs.Standing.{standing}
use Rattle.au_names.specs.Walks.{written_parameters}
use Rattle.au_judged_types.specs.Meanings.{parameter}
use Rattle.au_typing.specs.Insides.{cases_under, with_arguments}
use Rattle.au_sights.specs.Steps.{cases_by, cases_said, variants_of}
use Rattle.au_types.specs.declared.types.DeclAt.{DeclAt}
use Rattle.au_sights.proofs.MakerLemmas.{cases_same}
use Rattle.au_sights.proofs.insides.cases_under.Goals as goal

pub returns : goal.returns
returns c =
    let program = slots.modules c.args.program.now in
    let d = standing c.args.found.now in
    let params = map parameter (written_parameters c.args.parameters.now.items) in
    let args = argument_all c.args.args.now.items in
    let xs = variants_of c.args.cases.now.items in
    let at : ℕ → DeclAt = λ n. record { «module» = d.place; decl = n } in
    IfOk-weaker c.cases_by.result
    (λ made. cases_said made ≡ cases_by program d c.in_ok-params.params c.in_ok-s.s (at c.number_of.result) xs)
    (λ made. cases_said made ≡ cases_under program d params args xs)
    (λ made is.
    is
    ∙ ap (λ s. cases_by program d c.in_ok-params.params s (at c.number_of.result) xs) c.in_ok-s.ensures
    ∙ ap (λ ps. cases_by program d ps (with_arguments ps args) (at c.number_of.result) xs) c.in_ok-params.ensures
    ∙ ap (λ n. cases_by program d params (with_arguments params args) (at n) xs) c.number_of.ensures
    ∙ cases_same program d params args xs)
    c.cases_by.ensures
