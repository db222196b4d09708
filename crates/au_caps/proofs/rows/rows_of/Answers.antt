use Rattle.std.proofs.Common.{◌+◌, ◌++◌, ◌∷◌, [], sym, subst, take, ◌∙◌, arith}
use Rattle.std.specs.Prelude.{Contains}
use Rattle.std.proofs.lemmas.List.{take_all}
use Rattle.au_modules.specs.Slots as slots
use Rattle.au_caps.specs.Reports.{AreRowsOf, no_rows}
use Rattle.au_caps_lists.specs.Views.{bodies_said, body_said}
use Rattle.au_caps.specs.Views.{AreLabelled}
use Rattle.au_caps.proofs.LoopLemmas.{body_at, body_listed, said_more}
use Rattle.au_caps.proofs.RowLemmas.{rows_push}
use Rattle.au_caps.proofs.rows.rows_of.Goals as goal

pub loop-own-init : goal.loop-own-init
loop-own-init c = λ noted labels.
    subst (λ rows. AreRowsOf (slots.modules c.args.program.now) noted [] rows)
    (sym c.new-rows.ensures.items) no_rows

pub row_of-requires : goal.row_of-requires
row_of-requires c = record {
  place =
      c.requires.within (body_said c.one-item.result)
      (subst (λ l. Contains (bodies_said l) (body_said c.one-item.result)) c.deref-one-items.ensures.value
      (body_listed c.deref-one-items.result.now c.loop-own.own c.one-item.result c.loop-own-test.true
      c.one-item.is));
  reached = c.requires.reached;
  params = c.in_ok-params.ensures;
}

pub loop-own-preserved : goal.loop-own-preserved
loop-own-preserved c = λ noted labels.
    let program = slots.modules c.args.program.now in
    let items = c.deref-one-items.result.now in
    let i = c.loop-own.own in
    let one = c.one-item.result in
    let row = c.in_ok-row.row in
    let before = c.loop-own.rows.items in
    let is = c.in_ok-row.ensures noted
    (labels i (body_said one) (body_at items i one c.loop-own-test.true c.one-item.is)) in
    subst (λ rows. AreRowsOf program noted (bodies_said (take (i + 1) items)) rows)
    (sym c.in_ok-push.ensures.items)
    (subst (λ bs. AreRowsOf program noted bs (before ++ row ∷ []))
    (sym (said_more items i one c.loop-own-test.true c.one-item.is))
    (rows_push program noted (bodies_said (take i items)) before (body_said one) row
    (c.loop-own.invariant noted labels)
    is))

pub returns : goal.returns
returns c = λ noted labels.
    let program = slots.modules c.args.program.now in
    let items = c.deref-one-items.result.now in
    let same = c.deref-one-items.ensures.value in
    subst (λ l. AreRowsOf program noted (bodies_said l) c.loop-own.rows.items)
    (take_all c.loop-own.own items (omega (arith, c.loop-own-test.false)) ∙ same)
    (c.loop-own.invariant noted
    (subst (λ l. AreLabelled program noted c.args.reaching.now (bodies_said l) c.args.made.now)
    (sym same) labels))
