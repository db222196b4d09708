-- What stands at the place is another, and the rest is as it was.
use Rattle.std.proofs.Common.{Some, nat_eq, sym, ap, ◌∙◌}
use Rattle.std.specs.Cmp.{nat_eq_equiv}
use Rattle.std.proofs.lemmas.Option.{same_Some}
use Rattle.indexmap.specs.IndexMap.{get}
use Rattle.indexmap.proofs.CallerLemmas.{updates-with_value_at}
use Rattle.au_stores.specs.declared.worlds.Held.{Held}
use Rattle.au_stores.specs.Births.{kept_with}
use Rattle.au_stores.proofs.keeping.exchange_at.Goals as goal

pub returns-clause-old : goal.returns-clause-old
returns-clause-old c =
    let pair = same_Some (c.pair_mut-there.result.0.now, c.pair_mut-there.result.1.now)
    (c.args.id, c.requires.0) (sym c.pair_mut-there.ensures.value ∙ c.requires.1) in
    ap (λ (one : Held). Some one) (c.replace.ensures.value ∙ ap (λ p. p.1) pair) ∙ sym c.requires.2

pub returns-clause-new : goal.returns-clause-new
returns-clause-new c other =
    (updates-with_value_at c.args.kept.now c.args.place c.replace.new.dest nat_eq_equiv
    c.pair_mut-there.ensures.unique c.args.id c.requires.0 c.requires.1).0 other
    ∙ ap (λ (one : Held). kept_with c.args.id (Some one) (get nat_eq c.args.kept.now) other) c.replace.ensures.after
