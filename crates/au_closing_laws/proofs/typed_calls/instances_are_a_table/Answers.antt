use Rattle.au_closing_laws.proofs.TableLemmas.{good_table}
use Rattle.au_closing_laws.proofs.typed_calls.instances_are_a_table.Goals as goal

pub returns : goal.returns
returns c = good_table
