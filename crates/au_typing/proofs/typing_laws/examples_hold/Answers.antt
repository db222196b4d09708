use Rattle.std.proofs.Common.{refl}
use Rattle.au_matching.specs.Universes.{argument_universe, argument_universes, judged, universe_of}
use Rattle.au_judged_types.specs.Judging as judging
use Rattle.au_typing.proofs.typing_laws.examples_hold.Goals as goal

pub returns-clause-literals : goal.returns-clause-literals
unfolding universe_of argument_universe argument_universes judged judging.judged judging.all_given
returns-clause-literals c = (
  refl,
  (refl, (refl, (refl, (refl, (refl, (refl, (refl, (refl, (refl, (refl, (refl, (refl, tt)))))))))))),
)

pub returns-clause-names : goal.returns-clause-names
unfolding universe_of argument_universe argument_universes judged judging.judged judging.all_given
returns-clause-names c = (
  refl,
  (
    refl,
    (
      refl,
      (
        refl,
        (
          refl,
          (
            refl,
            (
              refl,
              (
                refl,
                (
                  refl,
                  (
                    refl,
                    (
                      refl,
                      (refl, (refl, (refl, (refl, (refl, (refl, (refl, (refl, (refl, (refl, (refl, tt))))))))))),
                    ),
                  ),
                ),
              ),
            ),
          ),
        ),
      ),
    ),
  ),
)

pub returns-clause-operations : goal.returns-clause-operations
unfolding universe_of argument_universe argument_universes judged judging.judged judging.all_given
returns-clause-operations c = (
  refl,
  (
    refl,
    (
      refl,
      (
        refl,
        (
          refl,
          (
            refl,
            (
              refl,
              (
                refl,
                (
                  refl,
                  (
                    refl,
                    (
                      refl,
                      (
                        refl,
                        (
                          refl,
                          (
                            refl,
                            (
                              refl,
                              (
                                refl,
                                (refl, (refl, (refl, (refl, (refl, (refl, (refl, (refl, (refl, tt))))))))),
                              ),
                            ),
                          ),
                        ),
                      ),
                    ),
                  ),
                ),
              ),
            ),
          ),
        ),
      ),
    ),
  ),
)

pub returns-clause-calls : goal.returns-clause-calls
unfolding universe_of argument_universe argument_universes judged judging.judged judging.all_given
returns-clause-calls c = (
  refl,
  (
    refl,
    (
      refl,
      (
        refl,
        (
          refl,
          (
            refl,
            (
              refl,
              (
                refl,
                (
                  refl,
                  (
                    refl,
                    (
                      refl,
                      (
                        refl,
                        (
                          refl,
                          (
                            refl,
                            (
                              refl,
                              (
                                refl,
                                (refl, (refl, (refl, (refl, (refl, (refl, (refl, (refl, (refl, (refl, tt)))))))))),
                              ),
                            ),
                          ),
                        ),
                      ),
                    ),
                  ),
                ),
              ),
            ),
          ),
        ),
      ),
    ),
  ),
)

pub returns-clause-substitutions : goal.returns-clause-substitutions
unfolding universe_of argument_universe argument_universes judged judging.judged judging.all_given
returns-clause-substitutions c = (refl, (refl, (refl, (refl, tt))))
