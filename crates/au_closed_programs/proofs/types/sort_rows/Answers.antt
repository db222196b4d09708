use Rattle.std.proofs.Common.{is_lt, rules}
use Rattle.std.proofs.lemmas.List.Sorted.{IsPermutation-map, answers_always, ranks_by}
use Rattle.au_closed_programs.specs.Programs.{row_cmp}
use Rattle.au_closed_programs.specs.Views.{row_said}
use Rattle.au_closed_programs.proofs.ClosedLemmas.{rows_total}
use Rattle.au_closed_programs.proofs.OrderLemmas.{sorted_said}
use Rattle.au_closed_programs.proofs.types.sort_rows.Goals as goal

pub returns-clause-permutation : goal.returns-clause-permutation
returns-clause-permutation c = IsPermutation-map row_said _ _ c.sort_unstable_by.ensures.permutation

pub returns-clause-ordered : goal.returns-clause-ordered
returns-clause-ordered c =
    sorted_said row_said row_cmp _
    (c.sort_unstable_by.ensures.sorted (λ a b. is_lt (row_cmp (row_said a) (row_said b))) (ranks_by rows_total row_said)
    (answers_always _ _ _ (λ f a r g h. search rules)))
