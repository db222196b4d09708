use Rattle.au_graphs.proofs.FoundLemmas.{one_list}
use Rattle.au_graphs.proofs.laws.there_is_one_list.Goals as goal

pub returns : goal.returns
returns g c same next starts ks others tells these those = one_list same tells next starts ks others these those
