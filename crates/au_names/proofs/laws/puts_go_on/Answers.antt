use Rattle.au_names.proofs.PutLemmas.{with_all-append, firsts-put}
use Rattle.au_names.proofs.laws.puts_go_on.Goals as goal

pub returns : goal.returns
returns g c = record {
  turns = λ table pairs more. with_all-append table pairs more;
  firsts = λ table pairs. firsts-put table pairs;
}
