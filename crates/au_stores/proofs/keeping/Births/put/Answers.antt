use Rattle.std.proofs.Common.{Some, nat_eq, arith}
use Rattle.indexmap.specs.IndexMap.{get}
use Rattle.au_stores.specs.Stores.{held_of}
use Rattle.au_stores.proofs.BirthLemmas.{held_with, held_past}
use Rattle.au_stores.proofs.keeping.Births.put.Goals as goal

pub returns-then-self-id : goal.returns-then-self-id
returns-then-self-id c =
    held_past c.self.inside.count c.args.id (held_of c.args.birth_held) (get nat_eq c.self.inside.kept)
    c.args.self.now c.self.view_is (omega (arith, c.if-self-id.true))

pub returns : goal.returns
returns c =
    held_with c.self.inside.count c.args.id (Some c.args.birth_held) (get nat_eq c.self.inside.kept)
    (get nat_eq c.insert.new.self) c.args.self.now c.self.view_is c.in_ok-insert.ensures.updates.0

pub returns-in-Some : goal.returns-in-Some
returns-in-Some c =
    held_with c.self.inside.count c.args.id (Some c.args.birth_held) (get nat_eq c.self.inside.kept)
    (get nat_eq c.exchange_at.new.kept) c.args.self.now c.self.view_is c.exchange_at.ensures.new
