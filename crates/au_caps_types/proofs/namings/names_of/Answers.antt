use Rattle.std.proofs.Common.{sym}
use Rattle.au_modules.specs.Slots as slots
use Rattle.au_names.specs.Standing.{standing}
use Rattle.au_caps_types.proofs.PlaceLemmas.{definition_within}
use Rattle.au_caps_types.proofs.namings.names_of.Goals as goal

pub names_found-requires : goal.names_found-requires
names_found-requires c =
    definition_within (slots.modules c.args.program.now) c.args.at (standing c.in-Some.found) (sym c.in-Some.ensures)
