use Rattle.au_running_lives.specs.Held.{IsPermitted}
use Rattle.au_judged_bodies.specs.StandingTypesStanding.{StandsFor}
use Rattle.au_judged_bodies.proofs.TypedBodiesBodyLemmas.{body_begins}
use Rattle.au_judged_bodies.proofs.typed_bodies.bodies_begin.Goals as goal

pub returns : goal.returns
returns g c = λ types owner see known handed from heads params given outside generics header scope formed out round
    active first s names
    stands regions within.
    body_begins types owner see known (IsPermitted handed from) given (StandsFor heads params given) outside generics
    header scope formed out round
    active first s names stands regions within
