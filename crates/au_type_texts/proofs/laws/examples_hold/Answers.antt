use Rattle.std.proofs.Common.{refl}
use Rattle.au_type_texts.proofs.ExampleLemmas.{rows_tell, examples_stand}
use Rattle.au_type_texts.proofs.laws.examples_hold.Goals as goal

pub returns-clause-told : goal.returns-clause-told
returns-clause-told c = rows_tell

pub returns-clause-stand : goal.returns-clause-stand
returns-clause-stand c = examples_stand

pub returns-clause-texts : goal.returns-clause-texts
returns-clause-texts c = (
  refl,
  (refl, (refl, (refl, (refl, (refl, (refl, (refl, (refl, (refl, (refl, (refl, (refl, tt)))))))))))),
)

pub returns-clause-depths : goal.returns-clause-depths
returns-clause-depths c = (
  refl,
  (refl, (refl, (refl, (refl, (refl, (refl, (refl, (refl, (refl, (refl, (refl, (refl, tt)))))))))))),
)

pub returns-clause-nodes : goal.returns-clause-nodes
returns-clause-nodes c = (
  refl,
  (refl, (refl, (refl, (refl, (refl, (refl, (refl, (refl, (refl, (refl, (refl, (refl, tt)))))))))))),
)

pub returns-clause-deep : goal.returns-clause-deep
returns-clause-deep c = (refl, (refl, (refl, (refl, (refl, (refl, tt))))))

pub returns-clause-large : goal.returns-clause-large
returns-clause-large c = (refl, (refl, (refl, (refl, (refl, (refl, tt))))))
