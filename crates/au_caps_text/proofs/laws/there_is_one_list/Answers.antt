use Rattle.std.specs.Cmp.Lexicographic.{nat_list_cmp_total, slice_cmp}
use Rattle.std.specs.Ordering.{nat_cmp}
use Rattle.au_caps_text.proofs.ListLemmas.{one_list}
use Rattle.au_caps_text.proofs.laws.there_is_one_list.Goals as goal

pub returns : goal.returns
returns c texts one other a b =
    one_list (slice_cmp nat_cmp) nat_list_cmp_total one other a.ascends b.ascends (λ z is. b.all z (a.only z is))
    (λ z is. a.all z (b.only z is))
