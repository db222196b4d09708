use Rattle.std.proofs.Common.{refl}
use Rattle.au_type_texts.proofs.closed_laws.closed_examples_hold.Goals as goal

pub returns-clause-closings : goal.returns-clause-closings
returns-clause-closings c = (
  refl,
  (refl, (refl, (refl, (refl, (refl, (refl, (refl, (refl, (refl, (refl, (refl, (refl, tt)))))))))))),
)

pub returns-clause-stand : goal.returns-clause-stand
returns-clause-stand c = (
  tt,
  (
    tt,
    (
      tt,
      (
        tt,
        (
          (refl, tt),
          (
            (refl, (tt, tt)),
            (tt, ((refl, (tt, (tt, tt))), ((refl, ((refl, (tt, (tt, tt))), ((refl, tt), tt))), tt))),
          ),
        ),
      ),
    ),
  ),
)

pub returns-clause-texts : goal.returns-clause-texts
returns-clause-texts c = (refl, (refl, (refl, (refl, (refl, (refl, (refl, (refl, (refl, tt)))))))))

pub returns-clause-depths : goal.returns-clause-depths
returns-clause-depths c = (refl, (refl, (refl, (refl, (refl, (refl, (refl, (refl, (refl, tt)))))))))

pub returns-clause-nodes : goal.returns-clause-nodes
returns-clause-nodes c = (refl, (refl, (refl, (refl, (refl, (refl, (refl, (refl, (refl, tt)))))))))

pub returns-clause-deep : goal.returns-clause-deep
returns-clause-deep c = (refl, (refl, (refl, (refl, (refl, (refl, tt))))))

pub returns-clause-large : goal.returns-clause-large
returns-clause-large c = (refl, (refl, (refl, (refl, (refl, (refl, tt))))))
