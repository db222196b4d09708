use Rattle.std.proofs.Common.{refl}
use Rattle.au_matching.specs.Universes.{argument_universe, argument_universes, judged, universe_of}
use Rattle.au_judged_types.specs.Judging as judging
use Rattle.au_laws.proofs.row_laws.rows_of_bodies_hold.Goals as goal

pub returns-clause-declarations : goal.returns-clause-declarations
unfolding universe_of argument_universe argument_universes judged judging.judged judging.all_given
returns-clause-declarations c = (
  refl,
  (
    refl,
    (
      refl,
      (
        refl,
        (
          refl,
          (refl, (refl, (refl, (refl, (refl, (refl, (refl, (refl, (refl, tt))))))))),
        ),
      ),
    ),
  ),
)

pub returns-clause-programs : goal.returns-clause-programs
unfolding universe_of argument_universe argument_universes judged judging.judged judging.all_given
returns-clause-programs c = (refl, (refl, (refl, tt)))
