use Rattle.au_tables.proofs.FormLemmas.{all_declared, boxes_alone, buffers_alone, cases_alone, grants_alone}
use Rattle.au_tables.proofs.laws.forms_are_alone.Goals as goal

pub returns-clause-declared : goal.returns-clause-declared
returns-clause-declared c = λ program. all_declared program

pub returns-clause-alone : goal.returns-clause-alone
returns-clause-alone c = λ program shipped. (
  boxes_alone program shipped,
  buffers_alone program shipped,
  cases_alone program shipped,
  grants_alone program shipped,
)
