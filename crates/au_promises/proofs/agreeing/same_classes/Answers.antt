use Rattle.std.proofs.Common.{sym, ◌∙◌}
use Rattle.au_syntax.specs.contracts.parsed.ParsedPhase.TheImpl.{ghosts as parsed}
use Rattle.au_syntax.specs.Plain.{plain_name}
use Rattle.au_syntax.specs.Views.{placed}
use Rattle.au_promises.specs.Agreeing.{same_class}
use Rattle.au_promises.specs.Written.{sight_in}
use Rattle.au_promises.proofs.AgreeingLemmas.{disagree, differ_at, agree_more, agree_all}
use Rattle.au_promises.proofs.agreeing.same_classes.Goals as goal

-- lists of two lengths
pub returns-then-len : goal.returns-then-len
returns-then-len c =
    let one = c.args.list.now in
    let other = c.args.others.now in
    sym (disagree (same_class (sight_in c.args.sight.now)) (plain_name parsed.name_bytes)
    (placed parsed) one.items other.items
    (λ e. c.if-len.true (c.len.ensures ∙ one.ok.0 ∙ e ∙ sym other.ok.0 ∙ sym c.len-2.ensures)))

pub returns-then-not-same_class : goal.returns-then-not-same_class
returns-then-not-same_class c =
    differ_at _ _ _ c.loop-index.invariant c.loop-index-test.true c.one-item.is c.index.ensures
    (sym c.if-not-same_class.ensures) c.deref-one-items.ensures.value

pub loop-index-preserved : goal.loop-index-preserved
loop-index-preserved c =
    agree_more _ _ _ c.loop-index.invariant c.loop-index-test.true c.one-item.is c.index.ensures
    (sym c.if-not-same_class.ensures)

pub returns : goal.returns
returns c =
    agree_all _ _ _ c.loop-index.invariant c.loop-index-test.false c.deref-one-items.ensures.value
