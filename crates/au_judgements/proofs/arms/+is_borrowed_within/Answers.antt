use Rattle.std.proofs.Common.{arith}
use Rattle.au_types.proofs.TypeLemmas.{type_argument_means, region_argument_means, unit_means, truth_means}
use Rattle.au_types.proofs.TypeLemmas.{integer_means, text_means, parameter_means, named_means, reads_means}
use Rattle.au_types.proofs.TypeLemmas.{writes_means}
use Rattle.au_judgements.proofs.arms.+is_borrowed_within.Goals as goal

pub argument_borrowed_within-returns-in-Of : goal.argument_borrowed_within-returns-in-Of
argument_borrowed_within-returns-in-Of t c = grind (arith, type_argument_means)

pub argument_borrowed_within-returns-in-In : goal.argument_borrowed_within-returns-in-In
argument_borrowed_within-returns-in-In t c = grind (arith, region_argument_means)

pub is_borrowed_within-returns-in-Unit : goal.is_borrowed_within-returns-in-Unit
is_borrowed_within-returns-in-Unit t c = grind (arith, unit_means)

pub is_borrowed_within-returns-in-Bool : goal.is_borrowed_within-returns-in-Bool
is_borrowed_within-returns-in-Bool t c = grind (arith, truth_means)

pub is_borrowed_within-returns-in-Int : goal.is_borrowed_within-returns-in-Int
is_borrowed_within-returns-in-Int t c = grind (arith, integer_means)

pub is_borrowed_within-returns-in-Text : goal.is_borrowed_within-returns-in-Text
is_borrowed_within-returns-in-Text t c = grind (arith, text_means)

pub is_borrowed_within-returns-in-Param : goal.is_borrowed_within-returns-in-Param
is_borrowed_within-returns-in-Param t c = grind (arith, parameter_means)

pub is_borrowed_within-returns-in-Named : goal.is_borrowed_within-returns-in-Named
is_borrowed_within-returns-in-Named t c = grind (arith, named_means)

pub is_borrowed_within-returns-then-is_anonymous : goal.is_borrowed_within-returns-then-is_anonymous
is_borrowed_within-returns-then-is_anonymous t c = grind (arith, reads_means)

pub is_borrowed_within-returns-else-is_anonymous : goal.is_borrowed_within-returns-else-is_anonymous
is_borrowed_within-returns-else-is_anonymous t c = grind (arith, reads_means)

pub is_borrowed_within-returns-then-is_anonymous-2 : goal.is_borrowed_within-returns-then-is_anonymous-2
is_borrowed_within-returns-then-is_anonymous-2 t c = grind (arith, writes_means)

pub is_borrowed_within-returns-else-is_anonymous-2 : goal.is_borrowed_within-returns-else-is_anonymous-2
is_borrowed_within-returns-else-is_anonymous-2 t c = grind (arith, writes_means)
