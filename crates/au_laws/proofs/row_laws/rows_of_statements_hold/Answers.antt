use Rattle.std.proofs.Common.{refl}
use Rattle.au_matching.specs.Universes.{argument_universe, argument_universes, judged, universe_of}
use Rattle.au_judged_types.specs.Judging as judging
use Rattle.au_laws.proofs.row_laws.rows_of_statements_hold.Goals as goal

pub returns-clause-declarations : goal.returns-clause-declarations
unfolding universe_of argument_universe argument_universes judged judging.judged judging.all_given
returns-clause-declarations c = (
  refl,
  (
    refl,
    (
      refl,
      (
        refl,
        (
          refl,
          (refl, (refl, (refl, (refl, (refl, (refl, (refl, (refl, (refl, tt))))))))),
        ),
      ),
    ),
  ),
)

pub returns-clause-assignments : goal.returns-clause-assignments
unfolding universe_of argument_universe argument_universes judged judging.judged judging.all_given
returns-clause-assignments c = (
  refl,
  (
    refl,
    (
      refl,
      (
        refl,
        (
          refl,
          (refl, (refl, (refl, (refl, (refl, (refl, (refl, (refl, (refl, (refl, (refl, tt))))))))))),
        ),
      ),
    ),
  ),
)

pub returns-clause-conditionals : goal.returns-clause-conditionals
unfolding universe_of argument_universe argument_universes judged judging.judged judging.all_given
returns-clause-conditionals c =
    (refl, (refl, (refl, (refl, (refl, (refl, (refl, (refl, (refl, (refl, (refl, tt)))))))))))

pub returns-clause-references : goal.returns-clause-references
unfolding universe_of argument_universe argument_universes judged judging.judged judging.all_given
returns-clause-references c =
    (refl, (refl, (refl, (refl, (refl, (refl, (refl, (refl, (refl, (refl, (refl, (refl, tt))))))))))))

pub returns-clause-repetitions : goal.returns-clause-repetitions
unfolding universe_of argument_universe argument_universes judged judging.judged judging.all_given
returns-clause-repetitions c = (refl, (refl, (refl, (refl, (refl, (refl, (refl, tt)))))))

pub returns-clause-borrows : goal.returns-clause-borrows
unfolding universe_of argument_universe argument_universes judged judging.judged judging.all_given
returns-clause-borrows c = (refl, (refl, (refl, (refl, (refl, (refl, (refl, (refl, (refl, (refl, (refl, tt)))))))))))

pub returns-clause-ends : goal.returns-clause-ends
unfolding universe_of argument_universe argument_universes judged judging.judged judging.all_given
returns-clause-ends c = (refl, (refl, (refl, (refl, (refl, (refl, (refl, tt)))))))
