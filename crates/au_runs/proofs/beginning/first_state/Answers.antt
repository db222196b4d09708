-- Nothing is there but the world.
use Rattle.au_stores.specs.Stores.{world_of, top_frame}
use Rattle.au_runs.proofs.BeginLemmas.{first_is}
use Rattle.au_runs.proofs.beginning.first_state.Goals as goal

pub returns : goal.returns
returns c =
    first_is c.new.result c.new-2.result _ (top_frame c.args.world) (world_of c.args.world) c.new.ensures
    c.new-2.ensures c.requires
