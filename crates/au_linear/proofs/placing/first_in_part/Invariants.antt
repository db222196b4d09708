use Rattle.std.proofs.Common.{◌≡◌, drop}
use Rattle.au_lives.specs.Places.{part_places, gathered_in_block, partings_at}
use Rattle.au_paths.specs.Seen.{seen_statements}
use Rattle.au_paths.specs.Standing.{hold_of}
use Rattle.au_linear.specs.Firsts.{first_of}
use Rattle.au_linear.proofs.placing.first_in_part.Given as goal

abbrev pub invariant-loop-index : goal.invariant-loop-index
invariant-loop-index g l =
    first_of (gathered_in_block l.x (partings_at l.x l.sort)
    (seen_statements g.P.Phase (drop l.index l.block.statements.items)) (hold_of l.held))
    ≡ first_of (part_places l.x l.sort (seen_statements g.P.Phase (drop l.from l.block.statements.items)))
