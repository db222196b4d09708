use Rattle.std.proofs.Common.{◌≡◌, map, ap, ◌∙◌}
use Rattle.std.proofs.lemmas.Result.{IfOk-weaker}
use Rattle.au_types.specs.Views.{argument_all}
use Rattle.au_modules.specs.Slots as slots
use Rattle.au_names.specs.Standing.{standing}
use Rattle.au_names.specs.Walks.{written_parameters}
use Rattle.au_judged_types.specs.Meanings.{parameter}
use Rattle.au_typing.specs.Insides.{with_arguments}
use Rattle.au_promises.specs.Written.{labels_of}
use Rattle.au_sights.specs.Steps.{fields_by, all_said}
use Rattle.au_sights.proofs.insides.fields_under.Goals as goal

pub returns : goal.returns
returns c =
    let program = slots.modules c.args.program.now in
    let d = standing c.args.found.now in
    let params = map parameter (written_parameters c.args.parameters.now.items) in
    let args = argument_all c.args.args.now.items in
    let xs = labels_of c.args.fields.now.items in
    IfOk-weaker c.fields_by.result
    (λ made. all_said made ≡ fields_by program d c.in_ok-params.params c.in_ok-s.s xs)
    (λ made. all_said made ≡ fields_by program d params (with_arguments params args) xs)
    (λ made is.
    is
    ∙ ap (λ s. fields_by program d c.in_ok-params.params s xs) c.in_ok-s.ensures
    ∙ ap (λ ps. fields_by program d ps (with_arguments ps args) xs) c.in_ok-params.ensures)
    c.fields_by.ensures
