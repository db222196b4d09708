use Rattle.std.proofs.Common.{ap, sym, ◌∙◌}
use Rattle.std.proofs.lemmas.List.{length-map}
use Rattle.au_effects.specs.Answers as answer
use Rattle.au_low.specs.Machines.{Low}
use Rattle.au_cells.specs.Cells.{low}
use Rattle.au_cells.proofs.CellLemmas.{terminal_is}
use Rattle.au_stores.specs.Stores.{world_of, held_of}
use Rattle.au_stores.proofs.CallLemmas as calls
use Rattle.au_stores.proofs.worlds.World.acquire_terminal.Goals as goal

pub returns-clause-does : goal.returns-clause-does
returns-clause-does c =
    let after = world_of c.bear.new.self in
    let mid = c.tell_use.new.self in
    ap (λ (value : Low). answer.gives value after) (terminal_is c.in_ok-id.id)
    ∙ calls.terminal_is (low c.args.reference.now) (world_of c.args.self.now) (world_of mid) after c.args.of
    c.in-Some.borrow c.in-Some._root c.in_ok-id.id c.in-Some.ensures c.in_ok-tell_use.ensures.world
    (c.in_ok-id.ensures.id ∙ sym (length-map mid.births held_of)) c.in_ok-id.ensures.world
