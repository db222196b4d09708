use Rattle.std.proofs.Common.{Some, refl, ap, subst, ◌∙◌}
use Rattle.std.proofs.lemmas.Result.{on_ok_weaker}
use Rattle.au_clearing.specs.Dealings.{by_type, lend}
use Rattle.au_clearing.specs.Tables.{Changes}
use Rattle.au_clearing.proofs.CombiningLemmas.{lent_seen}
use Rattle.au_clearing.proofs.deals.lend.Goals as goal

pub returns : goal.returns
returns c =
    on_ok_weaker c.put.result
    (λ put. record {
      seen =
          lent_seen c.args.deals.now
          record { named = c.put.new.self; rest = c.args.deals.now.rest; returns = c.args.deals.now.returns }
          c.args.name.now c.args.access c.lend_both.result
          (λ free. c.lend_both.ensures free ∙ ap (λ d. lend c.args.access (by_type free d)) c.found_or-one.ensures)
          (subst (λ n. Changes c.args.deals.now.named c.put.new.self n (Some c.lend_both.result))
          c.in_ok-key.ensures.items put)
          refl;
      returns = refl;
    })
    c.put.ensures
