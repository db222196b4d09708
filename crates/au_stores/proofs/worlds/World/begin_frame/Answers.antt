use Rattle.std.proofs.Common.{◌≡◌, ◌++◌, ◌∷◌, List, Option, None, length, reverse, replicate, arith, ap, ◌∙◌}
use Rattle.au_cells.specs.declared.cells.Cell.{Cell}
use Rattle.au_stores.specs.Stores.{given_slots}
use Rattle.au_stores.proofs.FillLemmas.{frame_given}
use Rattle.au_stores.proofs.worlds.World.begin_frame.Goals as goal

pub returns-clause-world : goal.returns-clause-world
returns-clause-world c =
    let w = c.args.self.now in
    let cells = c.args.arguments.now in
    let count = c.len-count.result in
    let size : count ≡ length cells.items = omega (arith, cells.ok.0, c.len-count.ensures) in
    let Piles : Type 0 = List (Option Cell) × List (List (Option Cell)) in
    let given = c.in_ok-fill_given.ensures.piles
    ∙ ap (λ (piles : Piles). (given_slots (reverse cells.items), piles.1)) c.in_ok-begin.ensures.ok in
    frame_given w cells.items c.args.slots count c.fill_empty.new.piles size
    (c.in_ok-fill_empty.ensures
    ∙ ap (λ (piles : Piles). (piles.0 ++ replicate c.saturating_sub.result None, piles.1)) given
    ∙ ap (λ n. (given_slots (reverse cells.items) ++ replicate n None, w.slots.0 ∷ w.slots.1))
    c.saturating_sub.ensures)
