use Rattle.std.proofs.Common.{ap, ◌∙◌}
use Rattle.au_effects.specs.Answers as answer
use Rattle.au_low.specs.Machines.{Low}
use Rattle.au_cells.specs.Cells.{low}
use Rattle.au_cells.proofs.CellLemmas.{index_is}
use Rattle.au_stores.specs.Stores.{world_of}
use Rattle.au_stores.proofs.CallLemmas.{length_is}
use Rattle.au_stores.proofs.worlds.World.length.Goals as goal

pub returns-clause-does : goal.returns-clause-does
returns-clause-does c =
    let after = world_of c.tell_use.new.self in
    let count = c.in-Some-element_count.count in
    ap (λ (value : Low). answer.gives value after) (index_is count)
    ∙ length_is (low c.args.reference.now) (world_of c.args.self.now) after c.in-Some.borrow c.in-Some.id
    count
    c.in-Some.ensures c.in-Some-element_count.ensures c.in_ok-tell_use.ensures.world
