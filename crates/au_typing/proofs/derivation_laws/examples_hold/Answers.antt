use Rattle.std.proofs.Common.{refl}
use Rattle.au_judged_types.specs.Judging.{judged}
use Rattle.au_matching.specs.Universes.{universe_of}
use Rattle.au_typing.proofs.derivation_laws.examples_hold.Goals as goal

pub returns : goal.returns
unfolding judged universe_of
returns c = (
  refl,
  (
    refl,
    (
      refl,
      (
        refl,
        (
          refl,
          (
            refl,
            (
              refl,
              (
                refl,
                (
                  refl,
                  (
                    refl,
                    (
                      refl,
                      (
                        refl,
                        (
                          refl,
                          (refl, (refl, (refl, (refl, tt)))),
                        ),
                      ),
                    ),
                  ),
                ),
              ),
            ),
          ),
        ),
      ),
    ),
  ),
)
