use Rattle.au_lives.proofs.PlaceLemmas.{no_loop_place, no_part_place, loops_kept, parts_kept}
use Rattle.au_lives.proofs.laws.places_are_the_consumptions.Goals as goal

pub returns-clause-loops : goal.returns-clause-loops
returns-clause-loops c x sort b = (no_loop_place x sort b, loops_kept x sort b)

pub returns-clause-parts : goal.returns-clause-parts
returns-clause-parts c x sort b = (no_part_place x sort b, parts_kept x sort b)
