use Rattle.std.proofs.Common.{List, ℕ, Some, ◌++◌, ap, sym, ◌∙◌, drop, ◌+◌, get_or}
use Rattle.au_effects.specs.Parts.{along}
use Rattle.std.proofs.lemmas.List.{drop_all}
use Rattle.au_cells.specs.declared.cells.Cell.{Cell}
use Rattle.au_cells.specs.Cells.{low, lows}
use Rattle.au_cells.proofs.CellLemmas.{lows_push}
use Rattle.au_stores.specs.Stores.{slots_of}
use Rattle.au_low.specs.Machines.{Low, arguments_at}
use Rattle.au_machine.proofs.PoppingLemmas.{none_picked, last_picked, one_picked, none_there, begins_at}
use Rattle.au_machine.proofs.popping.picked.Goals as goal

pub loop-index-init : goal.loop-index-init
loop-index-init c =
    ap (λ (cells : List Cell). along (arguments_at c.args.order.now (slots_of c.args.left.items))
    (λ (more : List Low). Some (lows cells ++ more))) c.new-cells.ensures.items
    ∙ none_picked (arguments_at c.args.order.now (slots_of c.args.left.items))

pub returns-in-None : goal.returns-in-None
returns-in-None c =
    let order = c.args.order.now in
    let i = c.loop-index.index-index in
    let left = slots_of c.loop-index.left.items in
    let values = lows c.loop-index.cells.items in
    none_there (drop i order) (drop (i + 1) order) (get_or order i 0) left values
    (begins_at order i c.loop-index-test.true) c.in-None.ensures.old ∙ c.loop-index.invariant

pub loop-index-preserved : goal.loop-index-preserved
loop-index-preserved c =
    let order = c.args.order.now in
    let i = c.loop-index.index-index in
    let left = slots_of c.loop-index.left.items in
    let values = lows c.loop-index.cells.items in
    let new = slots_of c.take_at.new.left.items in
    let rest = drop (i + 1) order in
    ap (λ (cells : List Cell). along (arguments_at rest new)
    (λ (more : List Low). Some (lows cells ++ more))) c.in_ok-push-in-Some.ensures.items
    ∙ ap (λ (those : List Low). along (arguments_at rest new)
    (λ (more : List Low). Some (those ++ more))) (lows_push c.loop-index.cells.items c.in-Some.cell)
    ∙ one_picked (drop i order) rest (get_or order i 0) left new (low c.in-Some.cell) values
    (begins_at order i c.loop-index-test.true) c.in-Some.ensures.old c.in-Some.ensures.left
    ∙ c.loop-index.invariant

pub returns : goal.returns
returns c =
    let order = c.args.order.now in
    let i = c.loop-index.index-index in
    let left = slots_of c.loop-index.left.items in
    let values = lows c.loop-index.cells.items in
    last_picked values left
    ∙ ap (λ (those : List ℕ). along (arguments_at those left) (λ (more : List Low). Some (values ++ more)))
    (sym (drop_all i order c.loop-index-test.false))
    ∙ c.loop-index.invariant
