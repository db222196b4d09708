use Rattle.std.proofs.Common.{Some, nat_eq, sym, ap, ◌∙◌}
use Rattle.std.specs.Option.{option_copied}
use Rattle.indexmap.specs.IndexMap.{get}
use Rattle.au_stores.proofs.BirthLemmas.{there_kept}
use Rattle.au_stores.proofs.keeping.Births.get.Goals as goal

pub returns-in-Some : goal.returns-in-Some
returns-in-Some c =
    let kept = get nat_eq c.self.inside.kept in
    there_kept c.self.inside.count c.args.id kept c.args.self.now c.self.view_is c.self.invariant
    (Some c.in-Some.birth_held.now) (sym (ap kept (sym c.if-one-id.true) ∙ c.in-Some.ensures.value))

pub returns-in_default : goal.returns-in_default
returns-in_default c =
    there_kept c.self.inside.count c.args.id (get nat_eq c.self.inside.kept) c.args.self.now c.self.view_is
    c.self.invariant (option_copied c.get.result) c.get.ensures.value
