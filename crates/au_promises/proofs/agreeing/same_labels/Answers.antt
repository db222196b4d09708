use Rattle.std.proofs.Common.{sym, ◌∙◌}
use Rattle.au_syntax.specs.contracts.parsed.ParsedPhase.TheImpl.{ghosts as parsed}
use Rattle.au_syntax.specs.Plain.{plain_labelled}
use Rattle.au_syntax.specs.Views.{labelled}
use Rattle.au_promises.specs.Agreeing.{same_labelled}
use Rattle.au_promises.specs.Written.{sight_in}
use Rattle.au_promises.proofs.AgreeingLemmas.{disagree, differ_at, agree_more, agree_all}
use Rattle.au_promises.proofs.agreeing.same_labels.Goals as goal

-- lists of two lengths
pub returns-then-len : goal.returns-then-len
returns-then-len c =
    let one = c.args.list.now in
    let other = c.args.others.now in
    sym (disagree (same_labelled (sight_in c.args.sight.now) c.args.scope.now c.args.outer.now)
    (plain_labelled parsed.name_bytes) (labelled parsed) one.items other.items
    (λ e. c.if-len.true (c.len.ensures ∙ one.ok.0 ∙ e ∙ sym other.ok.0 ∙ sym c.len-2.ensures)))

pub returns-then-not-branch : goal.returns-then-not-branch
returns-then-not-branch c =
    differ_at _ _ _ c.loop-index.invariant c.loop-index-test.true c.one-item.is c.index.ensures
    (sym c.in_ok-same_labelled.ensures ∙ c.if-not-branch.true) c.deref-one-items.ensures.value

pub loop-index-preserved : goal.loop-index-preserved
loop-index-preserved c =
    agree_more _ _ _ c.loop-index.invariant c.loop-index-test.true c.one-item.is c.index.ensures
    (sym c.in_ok-same_labelled.ensures ∙ c.if-not-branch.false)

pub returns : goal.returns
returns c =
    agree_all _ _ _ c.loop-index.invariant c.loop-index-test.false c.deref-one-items.ensures.value
