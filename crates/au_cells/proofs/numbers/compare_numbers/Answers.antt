-- What is compared are the two numbers of the kind.
use Rattle.std.proofs.Common.{ap, ◌∙◌, rules, FitsSigned, to_z, of_z, to_z-of_z, ℤ}
use Rattle.std.specs.Int.{w128}
use Rattle.au_ints.specs.Orders.{truth_of}
use Rattle.au_effects.specs.Values.{truth}
use Rattle.au_effects.specs.Answers as answer
use Rattle.au_cells.proofs.CellLemmas.{truth_is}
use Rattle.au_cells.proofs.NumberLemmas.{both_there}
use Rattle.au_cells.proofs.numbers.compare_numbers.Goals as goal

pub returns : goal.returns
returns c =
    let order = c.args.order in
    let a = c.in-Some.a in
    let b = c.in-Some-number_of.b in
    let first : FitsSigned w128 a = search rules in
    let second : FitsSigned w128 b = search rules in
    ap answer.value (truth_is c.compare.result)
    ∙ ap (λ t. answer.value (truth t)) c.compare.ensures.value
    ∙ ap (λ (x : ℤ). answer.value (truth (truth_of order x (to_z w128 (of_z w128 b))))) (to_z-of_z first)
    ∙ ap (λ (y : ℤ). answer.value (truth (truth_of order a y))) (to_z-of_z second)
    ∙ both_there (λ x y. answer.value (truth
    (truth_of order x y))) _ _ a b c.in-Some.ensures.is c.in-Some-number_of.ensures.is
