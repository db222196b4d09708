use Rattle.au_judged_bodies.proofs.MakerLemmas.{maker_seen}
use Rattle.au_judged_bodies.proofs.seen_makers.makers_are_seen.Goals as goal

pub returns : goal.returns
returns g c = λ program trees fit apart defined place params regions given s z stands known active note name target d
    type
    called put means there whole declared each of is_known fixes.
    maker_seen program trees fit apart defined place params regions given s z stands known active note name target d
    type
    called put means there whole declared each of is_known fixes
