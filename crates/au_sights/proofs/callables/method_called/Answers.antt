use Rattle.std.proofs.Common.{◌≡◌, ap, subst, ◌∙◌}
use Rattle.std.specs.Prelude.{IfOk}
use Rattle.std.specs.Option.{option_map}
use Rattle.au_modules.specs.Slots as slots
use Rattle.au_names.specs.Methods.{method_among}
use Rattle.au_names.specs.Standing.{standing}
use Rattle.au_names.specs.Walks.{written_parameter}
use Rattle.au_judged_types.specs.Meanings.{parameter}
use Rattle.au_typing.specs.Called.{method_called}
use Rattle.au_sights.specs.Sights.{callable_said}
use Rattle.au_sights.proofs.callables.method_called.Goals as goal

pub method_of-requires : goal.method_of-requires
method_of-requires c = (c.args.target.now.at, c.requires)

pub returns-in-None : goal.returns-in-None
returns-in-None c =
    ap (method_called (slots.modules c.args.program.now) (standing c.args.found.now) c.args.target.now.at
    (parameter (written_parameter c.args.param.now)))
    (c.in-None.ensures ∙ ap (method_among c.args.target.now.name) c.requires)

pub returns-in-Some : goal.returns-in-Some
returns-in-Some c =
    subst (λ one. IfOk c.method_of.result (λ made. option_map callable_said made
    ≡ method_called (slots.modules c.args.program.now) (standing c.args.found.now) c.args.target.now.at
    (parameter (written_parameter c.args.param.now)) one))
    (c.in-Some.ensures ∙ ap (method_among c.args.target.now.name) c.requires) c.method_of.ensures
