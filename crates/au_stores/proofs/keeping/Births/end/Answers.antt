use Rattle.std.proofs.Common.{nat_eq, None}
use Rattle.indexmap.specs.IndexMap.{get}
use Rattle.au_stores.proofs.BirthLemmas.{held_with}
use Rattle.au_stores.proofs.keeping.Births.end.Goals as goal

pub returns : goal.returns
returns c =
    held_with c.self.inside.count c.args.id None (get nat_eq c.self.inside.kept)
    (get nat_eq c.swap_remove-ended.new.self) c.args.self.now c.self.view_is c.swap_remove-ended.ensures.updates.0
