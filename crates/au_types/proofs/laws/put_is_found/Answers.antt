use Rattle.au_types.proofs.TableLemmas.{with_pair-old, find-with_pair, find-with_pair_other}
use Rattle.au_types.proofs.laws.put_is_found.Goals as goal

pub returns : goal.returns
returns g c = record {
  found = λ pairs name value h. find-with_pair pairs name value h;
  stays = λ pairs name value h. with_pair-old pairs name value h;
  others = λ pairs name value other h. find-with_pair_other pairs name value other h;
}
