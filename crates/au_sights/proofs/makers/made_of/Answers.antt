use Rattle.std.proofs.Common.{None, map, ap, ◌∙◌}
use Rattle.std.specs.Option.{option_map}
use Rattle.au_types.specs.Views.{meaning}
use Rattle.au_modules.specs.Slots as slots
use Rattle.au_names.specs.Standing.{standing}
use Rattle.au_typing.specs.Called.{callable, unconstrained}
use Rattle.au_typing.specs.Written.{all_typed}
use Rattle.au_promises.specs.Written.{labels_of}
use Rattle.au_sights.specs.Steps.{all_said}
use Rattle.au_sights.proofs.makers.made_of.Goals as goal

pub returns : goal.returns
returns c =
    let given = all_typed (slots.modules c.args.program.now) (standing c.args.found.now) c.args.params
    (labels_of c.args.fields.now.items) in
    c.callable.ensures
    ∙ ap (λ generics. callable generics None (all_said c.in_ok-parameters.parameters)
    (option_map meaning c.in_ok-gives.gives)) c.in_ok-generics.ensures
    ∙ ap (λ found. callable (map unconstrained c.args.params) None found
    (option_map meaning c.in_ok-gives.gives)) c.in_ok-parameters.ensures
    ∙ ap (callable (map unconstrained c.args.params) None given) c.in_ok-gives.ensures
