use Rattle.std.proofs.Common.{ℕ, ap, length, subst, sym, take, ◌∙◌}
use Rattle.std.specs.Prelude.{◌<◌, Contains}
use Rattle.au_modules.specs.Slots as slots
use Rattle.au_caps_lists.specs.Views.{bodies_said, body_said}
use Rattle.au_caps.specs.Views.{IsWebOf}
use Rattle.au_caps.proofs.GrowLemmas.{web_more, web_none}
use Rattle.au_caps.proofs.LoopLemmas.{before_long, body_listed, said_more}
use Rattle.au_caps.proofs.programs.web_of.Goals as goal

pub loop-own-init : goal.loop-own-init
loop-own-init c =
    let web = c.new-web.ensures in
    web_none (slots.modules c.args.program.now) c.args.reaching.now
    (length c.deref-one-items.result.now) c.new-web.result
    (web.count ∙ c.len.ensures ∙ c.args.bodies.now.ok.0
    ∙ ap (λ l. length l) (sym c.deref-one-items.ensures.value)) web.keys web.edges web.births

pub add_body-requires : goal.add_body-requires
add_body-requires c = record {
  place =
      c.requires (body_said c.one-item.result)
      (subst (λ l. Contains (bodies_said l) (body_said c.one-item.result)) c.deref-one-items.ensures.value
      (body_listed c.deref-one-items.result.now c.loop-own.own c.one-item.result c.loop-own-test.true
      c.one-item.is));
  params = c.in_ok-params.ensures;
  own = subst (λ (n : ℕ). c.loop-own.own < n) (sym c.loop-own.invariant.count) c.loop-own-test.true;
}

pub loop-own-preserved : goal.loop-own-preserved
loop-own-preserved c =
    let program = slots.modules c.args.program.now in
    let r = c.args.reaching.now in
    let items = c.deref-one-items.result.now in
    let i = c.loop-own.own in
    let one = c.one-item.result in
    subst (λ bs. IsWebOf program r (length items) bs c.add_body.new.web)
    (sym (said_more items i one c.loop-own-test.true c.one-item.is))
    (web_more program r (length items) (bodies_said (take i items))
    (body_said one) i c.loop-own.web c.add_body.new.web
    (before_long items i one c.loop-own-test.true c.one-item.is) c.loop-own.invariant
    c.in_ok-add_body.ensures)
