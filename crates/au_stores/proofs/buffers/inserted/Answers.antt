-- The elements are those before, and the new one.
use Rattle.std.proofs.Common.{List, Option, map, slice_set, ap, ◌∙◌}
use Rattle.au_effects.specs.Worlds as effect
use Rattle.au_low.specs.Machines.{Low}
use Rattle.au_cells.specs.declared.cells.Cell.{Cell}
use Rattle.au_cells.specs.Cells.{low, lows}
use Rattle.au_cells.proofs.CellLemmas.{lows_push}
use Rattle.au_stores.specs.Stores.{held_of, with_more}
use Rattle.au_stores.proofs.PutLemmas.{held_put}
use Rattle.au_stores.proofs.buffers.inserted.Goals as goal

pub returns-clause-births : goal.returns-clause-births
returns-clause-births c =
    let births = map held_of c.args.births.now in
    let cells = c.in-Some.cells.items in
    held_put births (map held_of c.take_elements.new.self) (map held_of c.put.new.self)
    c.args.id (effect.elements (lows c.push.new.self.items)) c.in-Some.ensures.births c.in_ok-put.ensures
    ∙ ap (λ (ones : List Cell). slice_set births c.args.id (effect.elements (lows ones)))
    c.in_ok-push.ensures.items
    ∙ ap (λ (values : List Low). slice_set births c.args.id (effect.elements values))
    (lows_push cells c.args.new)
    ∙ ap (λ (found : Option (List Low)). with_more c.args.id (low c.args.new) found births)
    c.in-Some.ensures.elements
