use Rattle.std.proofs.Common.{◌+◌, length, ap, refl, sym, drop, ◌∙◌, arith, get_or}
use Rattle.std.proofs.lemmas.List.{drop_all}
use Rattle.au_lives.specs.Lives.{held_from}
use Rattle.au_lives.specs.Paths.{bound_names}
use Rattle.au_clearing.specs.Seen.{seen_name, seen_binds}
use Rattle.au_clearing.specs.Deals.{seen_at}
use Rattle.au_clearing.proofs.SumLemmas.{forgotten_bind}
use Rattle.au_clearing.proofs.declaring.forget_binds.Goals as goal

pub loop-one-init : goal.loop-one-init
loop-one-init g c = record { seen = λ x free h. refl; returns = refl }

pub loop-one-preserved : goal.loop-one-preserved
loop-one-preserved g c = record {
  seen = λ x free h.
      forgotten_bind g.P.Phase c.loop-one.deals c.forget_name.new.deals c.deref-one-items.result.now
      c.loop-one.one-index c.one-item.result (seen_name g.P.Phase c.name_of_bind.result.now).name c.one-item.is
      c.loop-one-test.true (ap (λ n. n.name) c.name_of_bind.ensures) c.forget_name.ensures.seen x free h
      ∙ c.loop-one.invariant.seen x free h;
  returns = c.forget_name.ensures.returns ∙ c.loop-one.invariant.returns;
}

pub returns : goal.returns
returns g c = record {
  seen = λ x free h.
      sym (ap (λ l. seen_at c.loop-one.deals x free (held_from x (bound_names (seen_binds g.P.Phase l)) h))
      (drop_all c.loop-one.one-index c.deref-one-items.result.now c.loop-one-test.false))
      ∙ c.loop-one.invariant.seen x free h
      ∙ ap (λ l. seen_at c.args.deals.now x free (held_from x (bound_names (seen_binds g.P.Phase l)) h))
      c.deref-one-items.ensures.value;
  returns = c.loop-one.invariant.returns;
}
