use Rattle.au_modules.specs.Slots as slots
use Rattle.au_names.specs.Standing.{standing}
use Rattle.au_sights.proofs.StandingLemmas.{within}
use Rattle.au_closed_trees.proofs.cases.standing_cases.Goals as goal

pub names_at-requires : goal.names_at-requires
names_at-requires c = within (slots.modules c.args.program.now) (standing c.args.found.now) c.requires
