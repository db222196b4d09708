use Rattle.std.proofs.Common.{[], ◌∷◌, refl, ap, sym, ◌∙◌}
use Rattle.std.specs.Option.{option_map}
use Rattle.au_low.specs.Machines.{ordered}
use Rattle.au_cells.specs.Cells.{low}
use Rattle.au_stores.specs.Stores.{cells_of}
use Rattle.au_runs.proofs.ArgumentLemmas.{three_ordered}
use Rattle.au_runs.proofs.arguing.in_order_of_three.Goals as goal

pub returns : goal.returns
returns c =
    three_ordered c.three_of.result (λ p. low p.0 ∷ low p.1 ∷ low p.2 ∷ []) c.args.order.now
    (low c.args.a ∷ low c.args.b ∷ low c.args.c ∷ []) c.in-Some.cells.items refl
    (ap (option_map cells_of) (sym c.in-Some.is) ∙ c.in_ok-cells.ensures
    ∙ ap (ordered c.args.order.now) c.in_ok-values.ensures)
    c.three_of.ensures
