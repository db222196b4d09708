use Rattle.std.proofs.Common.{nat_eq, length, sym, ap, ◌∙◌}
use Rattle.indexmap.specs.IndexMap.{get}
use Rattle.au_stores.proofs.BirthLemmas.{listed_length}
use Rattle.au_stores.proofs.keeping.Births.count.Goals as goal

pub returns : goal.returns
returns c = sym (listed_length c.self.inside.count (get nat_eq c.self.inside.kept)) ∙ ap length c.self.view_is
