-- What stands at the place is of the birth.
use Rattle.std.proofs.Common.{ℕ, Some, nat_eq, sym, ap, ◌∙◌}
use Rattle.indexmap.specs.IndexMap.{get}
use Rattle.au_stores.proofs.keeping.newest_of.Goals as goal

pub returns-in-Some : goal.returns-in-Some
returns-in-Some c =
    let held = c.in-Some._held.now in (
      held,
      sym c.in-Some.ensures.entry ∙ ap (λ (id : ℕ). Some (id, held)) c.if-one-id.true,
      ap (get nat_eq c.args.kept.now) (sym c.if-one-id.true) ∙ c.in-Some.ensures.value,
    )
