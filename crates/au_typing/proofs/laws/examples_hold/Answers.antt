use Rattle.std.proofs.Common.{refl}
use Rattle.au_types.specs.DeclaredNames.{names_in, numbered}
use Rattle.au_types.specs.Tables.{firsts}
use Rattle.au_names.specs.HeadsOf.{rows_from}
use Rattle.au_names.specs.Standing.{standing_from}
use Rattle.au_types.specs.Meant.{all_given, meant}
use Rattle.au_typing.proofs.laws.examples_hold.Goals as goal

pub returns-clause-calls : goal.returns-clause-calls
unfolding firsts numbered names_in rows_from meant all_given standing_from
returns-clause-calls c = (
  refl,
  (refl, (refl, (refl, (refl, (refl, (refl, (refl, (refl, (refl, (refl, (refl, (refl, (refl, tt))))))))))))),
)

pub returns-clause-constants : goal.returns-clause-constants
unfolding firsts numbered names_in rows_from meant all_given standing_from
returns-clause-constants c = (refl, (refl, (refl, (refl, tt))))

pub returns-clause-targets : goal.returns-clause-targets
unfolding firsts numbered names_in rows_from meant all_given standing_from
returns-clause-targets c = (refl, (refl, (refl, (refl, tt))))

pub returns-clause-fields : goal.returns-clause-fields
unfolding firsts numbered names_in rows_from meant all_given standing_from
returns-clause-fields c = (refl, (refl, (refl, (refl, (refl, (refl, (refl, tt)))))))

pub returns-clause-cases : goal.returns-clause-cases
unfolding firsts numbered names_in rows_from meant all_given standing_from
returns-clause-cases c = (refl, (refl, (refl, (refl, tt))))

pub returns-clause-class : goal.returns-clause-class
unfolding firsts numbered names_in rows_from meant all_given standing_from
returns-clause-class c = refl

pub returns-clause-no_class : goal.returns-clause-no_class
unfolding firsts numbered names_in rows_from meant all_given standing_from
returns-clause-no_class c = refl
