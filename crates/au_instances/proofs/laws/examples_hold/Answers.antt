use Rattle.std.proofs.Common.{refl}
use Rattle.au_matching.specs.Universes.{argument_universe, argument_universes, judged, universe_of}
use Rattle.au_instances.proofs.laws.examples_hold.Goals as goal

pub returns-clause-rows : goal.returns-clause-rows
unfolding universe_of argument_universe argument_universes judged
returns-clause-rows c = (
  refl,
  (
    refl,
    (
      refl,
      (
        refl,
        (
          refl,
          (
            refl,
            (refl, (refl, (refl, (refl, (refl, (refl, (refl, (refl, (refl, (refl, (refl, tt))))))))))),
          ),
        ),
      ),
    ),
  ),
)

pub returns-clause-closed : goal.returns-clause-closed
unfolding universe_of argument_universe argument_universes judged
returns-clause-closed c = (
  refl,
  (refl, (refl, (refl, (refl, (refl, (refl, (refl, (refl, (refl, (refl, (refl, (refl, (refl, tt))))))))))))),
)

pub returns-clause-lacking : goal.returns-clause-lacking
unfolding universe_of argument_universe argument_universes judged
returns-clause-lacking c = (
  refl,
  (refl, (refl, (refl, (refl, (refl, (refl, (refl, (refl, (refl, (refl, (refl, tt))))))))))),
)
