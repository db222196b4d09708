use Rattle.au_instances.proofs.PairLemmas.{holds_none, none_holds}
use Rattle.au_instances.proofs.laws.nothing_lacks_where_a_class_holds.Goals as goal

pub returns : goal.returns
returns c = λ rows heads scope known class t table.
    (none_holds rows heads scope known table t class, holds_none rows heads scope known table class t)
