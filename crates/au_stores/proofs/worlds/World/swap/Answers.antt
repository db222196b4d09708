use Rattle.std.proofs.Common.{ℕ, List, Option, ap, sym, ◌∙◌}
use Rattle.au_effects.specs.Places.{exchanged}
use Rattle.au_cells.specs.Cells.{low, lent, base_of}
use Rattle.au_stores.specs.Stores.{world_of, came_out}
use Rattle.au_cells.specs.declared.cells.Cell.{Cell}
use Rattle.au_stores.proofs.CallLemmas.{swapped, swapped_none}
use Rattle.au_stores.proofs.worlds.World.swap.Goals as goal

pub returns-in-None-clause-does : goal.returns-in-None-clause-does
returns-in-None-clause-does c =
    let one = c.in-Some.one.now in
    swapped_none (low c.args.reference.now) (low c.args.new) (world_of c.args.self.now) (lent one)
    c.in-Some.ensures
    (ap (λ (o : Option Cell). came_out o c.exchange.new.self) (sym c.in-None.is)
    ∙ c.exchange.ensures.world
    ∙ ap (λ (path : List ℕ). exchanged (record { base = base_of one.start; path = path }) (low c.args.new)
    (world_of c.args.self.now)) c.as_slice.ensures)

pub returns-in_ok-tell_use-in-Some-exchange-clause-does : goal.returns-in_ok-tell_use-in-Some-exchange-clause-does
returns-in_ok-tell_use-in-Some-exchange-clause-does c =
    let one = c.in-Some.one.now in
    swapped (low c.args.reference.now) (low c.args.new) (world_of c.args.self.now) (lent one)
    c.in-Some.ensures (low c.in-Some-exchange.old) (world_of c.exchange.new.self) (world_of c.tell_use.new.self)
    (ap (λ (o : Option Cell). came_out o c.exchange.new.self) (sym c.in-Some-exchange.is)
    ∙ c.exchange.ensures.world
    ∙ ap (λ (path : List ℕ). exchanged (record { base = base_of one.start; path = path }) (low c.args.new)
    (world_of c.args.self.now)) c.as_slice.ensures)
    c.in_ok-tell_use-in-Some-exchange.ensures.world
