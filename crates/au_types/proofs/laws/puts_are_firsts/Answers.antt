use Rattle.au_types.proofs.TableLemmas.{with_all-firsts, find-firsts}
use Rattle.au_types.proofs.laws.puts_are_firsts.Goals as goal

pub returns : goal.returns
returns g c = record {
  firsts = λ pairs. with_all-firsts pairs;
  found = λ pairs name. find-firsts name pairs;
}
