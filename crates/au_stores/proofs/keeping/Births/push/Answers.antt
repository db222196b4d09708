use Rattle.std.proofs.Common.{◌≡◌, ◌+◌, nat_eq, rules}
use Rattle.indexmap.specs.IndexMap.{get}
use Rattle.au_stores.proofs.BirthLemmas.{listed_more}
use Rattle.au_stores.proofs.keeping.Births.push.Goals as goal

pub returns-in_ok-insert-in_default : goal.returns-in_ok-insert-in_default
returns-in_ok-insert-in_default c =
    let next : c.in_ok-self-inside.field-0 ≡ c.self.inside.count + 1 = search rules in
    listed_more c.self.inside.count c.in_ok-self-inside.field-0 c.args.birth_held
    (get nat_eq c.self.inside.kept) (get nat_eq c.insert.new.self) c.args.self.now next c.self.view_is
    c.in_ok-insert-in_default.ensures.updates.0
