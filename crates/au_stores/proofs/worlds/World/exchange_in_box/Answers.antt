-- The content is exchanged where it is.
use Rattle.std.proofs.Common.{List, map, sym, ap, ◌∙◌}
use Rattle.au_effects.specs.Values.{content_of}
use Rattle.au_effects.specs.Worlds as effect
use Rattle.au_low.specs.Machines.{Low, LowWorld}
use Rattle.au_cells.specs.Cells.{low}
use Rattle.au_stores.specs.Stores.{world_of, held_of}
use Rattle.au_stores.proofs.PutLemmas.{content_exchanged, content_stays}
use Rattle.au_stores.proofs.worlds.World.exchange_in_box.Goals as goal

pub returns-clause-world : goal.returns-clause-world
returns-clause-world c =
    content_exchanged c.args.id c.args.path.now (low c.args.new) c.exchange_content.result (world_of c.args.self.now)
    (record c.args.self.now { births = c.exchange_content.new.self }) c.exchange_content.ensures.old
    (let Set : List (effect.Held _) → LowWorld = λ births. record (world_of c.args.self.now) { births = births } in
    ap Set c.exchange_content.ensures.births)

pub returns-clause-kept : goal.returns-clause-kept
returns-clause-kept c missing =
    let w = world_of c.args.self.now in
    let Set : List (effect.Held _) → LowWorld = λ births. record w { births = births } in
    ap Set (content_stays c.args.id c.args.path.now (low c.args.new) c.exchange_content.result w.births
    (map held_of c.exchange_content.new.self) c.exchange_content.ensures.old missing c.exchange_content.ensures.births)
