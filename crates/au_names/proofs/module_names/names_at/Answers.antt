use Rattle.au_syntax.specs.declared.modules.Part.TheVariants.{Interface, Body}
use Rattle.au_modules.specs.Slots as slots
use Rattle.au_names.proofs.NameLemmas.{part_is, both_are}
use Rattle.au_names.proofs.module_names.names_at.Goals as goal

pub returns-in-Ok : goal.returns-in-Ok
returns-in-Ok c =
    let program = slots.modules c.args.modules.now in
    let place = c.args.place in
    let interface = c.in_ok-interface in
    let body = c.in-Ok in
    both_are program place interface.interface body.body c.requires.within
    (λ m here.
    part_is program place Interface m interface.interface (interface.ensures.values m here)
    (interface.ensures.callables m here) (interface.ensures.types m here))
    (λ m here.
    part_is program place Body m body.body (body.ensures.values m here) (body.ensures.callables m here)
    (body.ensures.types m here))
