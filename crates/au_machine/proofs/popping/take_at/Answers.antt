use Rattle.std.proofs.Common.{Option, None, slice_set, ap, ◌∙◌}
use Rattle.std.specs.Option.{option_map}
use Rattle.std.proofs.lemmas.List.{map-set}
use Rattle.au_cells.specs.declared.cells.Cell.{Cell}
use Rattle.au_cells.specs.Cells.{low}
use Rattle.au_stores.specs.Stores.{slots_of}
use Rattle.au_machine.proofs.PoppingLemmas.{always}
use Rattle.au_machine.proofs.popping.take_at.Goals as goal

pub returns-clause-left : goal.returns-clause-left
returns-clause-left c =
    let left = c.args.left.now.items in
    always c.replace-held_value.result _ (ap
    (λ (held_value : Option Cell). slots_of (slice_set left c.args.index held_value)) c.replace-held_value.ensures.after
    ∙ map-set (option_map low) left c.args.index None)
