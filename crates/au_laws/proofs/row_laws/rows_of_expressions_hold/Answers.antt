use Rattle.std.proofs.Common.{refl}
use Rattle.au_matching.specs.Universes.{argument_universe, argument_universes, judged, universe_of}
use Rattle.au_judged_types.specs.Judging as judging
use Rattle.au_laws.proofs.row_laws.rows_of_expressions_hold.Goals as goal

pub returns-clause-words : goal.returns-clause-words
unfolding universe_of argument_universe argument_universes judged judging.judged judging.all_given
returns-clause-words c = (refl, (refl, (refl, (refl, (refl, (refl, tt))))))

pub returns-clause-parts : goal.returns-clause-parts
unfolding universe_of argument_universe argument_universes judged judging.judged judging.all_given
returns-clause-parts c = (
  refl,
  (
    refl,
    (
      refl,
      (
        refl,
        (
          refl,
          (
            refl,
            (refl, (refl, (refl, (refl, (refl, (refl, (refl, (refl, (refl, (refl, tt)))))))))),
          ),
        ),
      ),
    ),
  ),
)

pub returns-clause-operations : goal.returns-clause-operations
unfolding universe_of argument_universe argument_universes judged judging.judged judging.all_given
returns-clause-operations c = (
  refl,
  (
    refl,
    (
      refl,
      (
        refl,
        (
          refl,
          (
            refl,
            (
              refl,
              (
                refl,
                (
                  refl,
                  (
                    refl,
                    (
                      refl,
                      (
                        refl,
                        (
                          refl,
                          (
                            refl,
                            (
                              refl,
                              (
                                refl,
                                (refl, (refl, (refl, (refl, (refl, (refl, (refl, (refl, (refl, tt))))))))),
                              ),
                            ),
                          ),
                        ),
                      ),
                    ),
                  ),
                ),
              ),
            ),
          ),
        ),
      ),
    ),
  ),
)

pub returns-clause-constraints : goal.returns-clause-constraints
unfolding universe_of argument_universe argument_universes judged judging.judged judging.all_given
returns-clause-constraints c = (refl, (refl, (refl, (refl, (refl, (refl, (refl, tt)))))))
