use Rattle.au_running_lives.specs.Held.{IsPermitted}
use Rattle.au_judged_bodies.specs.StandingTypesStanding.{StandsFor}
use Rattle.au_judged_bodies.proofs.BlockLemmas.{all_run}
use Rattle.au_judged_bodies.proofs.typed_blocks.blocks_run.Goals as goal

pub returns : goal.returns
returns g c =
    λ types owner see known handed from heads params given permits key loose result block active number sc scope s
    names p counts good
    besides.
    all_run types owner see known (IsPermitted handed from) given (StandsFor heads params given) loose result permits
    key counts block active number
    sc scope s names p good besides
