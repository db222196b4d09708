use Rattle.au_modules.specs.Slots as slots
use Rattle.au_names.specs.Standing.{standing}
use Rattle.au_sights.proofs.StandingLemmas.{within}
use Rattle.au_sights.proofs.standing.types_seen.Goals as goal

pub types_at-requires : goal.types_at-requires
types_at-requires c = within (slots.modules c.args.program.now) (standing c.args.found.now) c.requires
