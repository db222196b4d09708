use Rattle.std.proofs.Common.{ap, ◌∙◌}
use Rattle.std.specs.Option.{option_map}
use Rattle.au_syntax.specs.Views.{written}
use Rattle.au_types.specs.Views.{meaning}
use Rattle.au_modules.specs.Slots as slots
use Rattle.au_names.specs.Standing.{standing}
use Rattle.au_judged_types.specs.Bounds.{parameters}
use Rattle.au_typing.specs.Called.{callable}
use Rattle.au_typing.specs.Written.{all_typed, meant_in}
use Rattle.au_promises.specs.Written.{labels_of}
use Rattle.au_sights.proofs.callables.by_header.Goals as goal

pub returns : goal.returns
returns c =
    let program = slots.modules c.args.program.now in
    let d = standing c.args.found.now in
    let fields = labels_of c.args.one.now.parameters.items in
    let t = written c.args.one.now.result in
    c.callable.ensures
    ∙ ap (λ found. callable c.args.generics c.args.class found (option_map meaning c.in_ok-gives.gives))
    (c.in_ok-parameters.ensures ∙ ap (λ ps. all_typed program d ps fields) c.params.ensures)
    ∙ ap (callable c.args.generics c.args.class (all_typed program d (parameters c.args.generics) fields))
    (c.in_ok-gives.ensures ∙ ap (λ ps. meant_in program d ps t) c.params-2.ensures)
