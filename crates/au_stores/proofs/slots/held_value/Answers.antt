use Rattle.std.proofs.Common.{Option, ap, sym, ◌∙◌}
use Rattle.std.specs.Option.{option_map}
use Rattle.au_effects.specs.Parts.{along}
use Rattle.au_cells.specs.declared.cells.Cell.{Cell}
use Rattle.au_cells.specs.Cells.{low}
use Rattle.au_stores.proofs.StoreLemmas.{held_get}
use Rattle.au_stores.proofs.slots.held_value.Goals as goal

pub returns-in-Some : goal.returns-in-Some
returns-in-Some c =
    ap (option_map low) c.as_ref.ensures.value
    ∙ ap (λ (found : Option (Option Cell)). along found (option_map low)) c.in-Some.ensures
    ∙ sym (held_get c.args.slots.now c.args.slot)

pub returns-in-None : goal.returns-in-None
returns-in-None c =
    ap (λ (found : Option (Option Cell)). along found (option_map low)) c.in-None.ensures
    ∙ sym (held_get c.args.slots.now c.args.slot)
