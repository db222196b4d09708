use Rattle.std.proofs.Common.{refl}
use Rattle.au_syntax.proofs.laws.rows_are_spelled.Goals as goal

pub returns-clause-types : goal.returns-clause-types
returns-clause-types c = (refl, (refl, (refl, (refl, tt))))

pub returns-clause-expressions : goal.returns-clause-expressions
returns-clause-expressions c = (
  refl,
  (
    refl,
    (
      refl,
      (
        refl,
        (
          refl,
          (
            refl,
            (
              refl,
              (
                refl,
                (
                  refl,
                  (
                    refl,
                    (refl, (refl, (refl, (refl, (refl, (refl, (refl, (refl, (refl, (refl, (refl, (refl, tt)))))))))))),
                  ),
                ),
              ),
            ),
          ),
        ),
      ),
    ),
  ),
)

pub returns-clause-statements : goal.returns-clause-statements
returns-clause-statements c = (
  refl,
  (
    refl,
    (
      refl,
      (
        refl,
        (
          refl,
          (
            refl,
            (refl, (refl, (refl, (refl, (refl, (refl, (refl, (refl, (refl, (refl, tt)))))))))),
          ),
        ),
      ),
    ),
  ),
)

pub returns-clause-declarations : goal.returns-clause-declarations
returns-clause-declarations c =
    (refl, (refl, (refl, (refl, (refl, (refl, (refl, (refl, (refl, (refl, (refl, tt)))))))))))

pub returns-clause-modules : goal.returns-clause-modules
returns-clause-modules c = (refl, (refl, tt))
