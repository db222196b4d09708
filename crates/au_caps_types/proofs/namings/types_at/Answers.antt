use Rattle.au_modules.specs.Slots as slots
use Rattle.au_caps_types.proofs.PlaceLemmas.{types_known}
use Rattle.au_caps_types.proofs.namings.types_at.Goals as goal

pub returns : goal.returns
returns c =
    types_known (slots.modules c.args.program.now) c.args.place c.args.part c.names.result.now.types c.requires
    c.names.ensures.types
