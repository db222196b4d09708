use Rattle.std.proofs.Common.{List, [], ◌∷◌, ◌++◌, ap, sym, ◌∙◌}
use Rattle.au_low.specs.Machines.{Low}
use Rattle.au_cells.specs.Cells.{lows, lent}
use Rattle.au_cells.proofs.CellLemmas.{lows_push}
use Rattle.au_effects.specs.References.{referring, reference_along}
use Rattle.au_stores.proofs.CaseLemmas.{fields_next}
use Rattle.au_stores.proofs.cases.fields_behind.Goals as goal

pub loop-index-preserved : goal.loop-index-preserved
loop-index-preserved c =
    let before = c.loop-index.fields.items in
    let index = c.loop-index.index in
    let one = lent c.args.one.now in
    ap lows c.in_ok-push.ensures.items ∙ lows_push before c.in_ok-field.field
    ∙ ap (λ (value : Low). lows before ++ value ∷ []) c.in_ok-field.ensures
    ∙ ap (λ (values : List Low). values ++ referring (reference_along one (index ∷ [])) ∷ [])
    c.loop-index.invariant
    ∙ sym (fields_next one index)
