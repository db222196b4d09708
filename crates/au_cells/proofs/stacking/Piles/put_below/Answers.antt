-- The item lies in its pile.
use Rattle.std.proofs.Common.{◌≤◌, ◌+◌, length, get_or, reverse, arith, sym, ap, ◌∙◌}
use Rattle.std.proofs.lemmas.List.{length-reverse}
use Rattle.au_cells.proofs.PileLemmas.{pile_number, item_within, item_put, item_old}
use Rattle.au_cells.proofs.stacking.Piles.put_below.Goals as goal

pub start_of-start-requires : goal.start_of-start-requires
start_of-start-requires g c =
    let piles = c.self.inside in
    let number = pile_number piles.items.items
    (reverse piles.bases.items) piles.base c.args.pile c.args.self.now c.self.view_is c.requires.pile in
    omega (arith, number, length-reverse piles.bases.items, piles.bases.ok.0)

pub overflow_add-start : goal.overflow_add-start
overflow_add-start g c =
    let piles = c.self.inside in
    let low : piles.base ≤ length piles.items.items = omega (arith, piles.items.ok.0, c.self.invariant.0) in
    let within = item_within piles.items.items
    (reverse piles.bases.items) piles.base c.args.pile c.args.index c.start_of-start.result
    c.args.self.now
    c.start_of-start.ensures c.self.view_is low c.self.invariant.1 c.requires.pile c.requires.index in
    omega (arith, within, piles.items.ok.0)

pub index_mut-requires : goal.index_mut-requires
index_mut-requires g c =
    let piles = c.self.inside in
    let low : piles.base ≤ length piles.items.items = omega (arith, piles.items.ok.0, c.self.invariant.0) in
    let within = item_within piles.items.items
    (reverse piles.bases.items) piles.base c.args.pile c.args.index c.start_of-start.result
    c.args.self.now
    c.start_of-start.ensures c.self.view_is low c.self.invariant.1 c.requires.pile c.requires.index in
    omega (arith, within, piles.items.ok.0)

pub returns-clause-new : goal.returns-clause-new
returns-clause-new g c =
    let piles = c.self.inside in
    let low : piles.base ≤ length piles.items.items = omega (arith, piles.items.ok.0, c.self.invariant.0) in
    item_put piles.items.items
    (reverse piles.bases.items) piles.base c.args.pile c.args.index c.start_of-start.result
    c.replace.new.dest c.args.item c.args.self.now
    c.start_of-start.ensures c.replace.ensures.after c.self.view_is low c.self.invariant.1
    c.requires.pile c.requires.index

pub returns-clause-old : goal.returns-clause-old
returns-clause-old g c =
    let piles = c.self.inside in
    let low : piles.base ≤ length piles.items.items = omega (arith, piles.items.ok.0, c.self.invariant.0) in
    let read = c.replace.ensures.value ∙ c.index_mut.ensures.value
    ∙ ap (get_or piles.items.items (c.start_of-start.result + c.args.index))
    (sym c.replace.ensures.value) in
    item_old piles.items.items
    (reverse piles.bases.items) piles.base c.args.pile c.args.index c.start_of-start.result
    c.replace.result c.args.self.now
    c.start_of-start.ensures read c.self.view_is low c.self.invariant.1 c.requires.pile c.requires.index
