use Rattle.std.proofs.Common.{sym, ◌∙◌}
use Rattle.au_syntax.specs.contracts.parsed.ParsedPhase.TheImpl.{ghosts as parsed}
use Rattle.au_syntax.specs.Plain.{plain_in_universe}
use Rattle.au_syntax.specs.Views.{in_universe}
use Rattle.au_promises.specs.Agreeing.{same_parameter}
use Rattle.au_promises.proofs.AgreeingLemmas.{disagree, differ_at, agree_more, agree_all}
use Rattle.au_promises.proofs.agreeing.same_parameters.Goals as goal

-- lists of two lengths
pub returns-then-len : goal.returns-then-len
returns-then-len c =
    let one = c.args.list.now in
    let other = c.args.others.now in
    sym (disagree same_parameter (plain_in_universe parsed.name_bytes)
    (in_universe parsed) one.items other.items
    (λ e. c.if-len.true (c.len.ensures ∙ one.ok.0 ∙ e ∙ sym other.ok.0 ∙ sym c.len-2.ensures)))

pub returns-then-not-same_parameter : goal.returns-then-not-same_parameter
returns-then-not-same_parameter c =
    differ_at _ _ _ c.loop-index.invariant c.loop-index-test.true c.one-item.is c.index.ensures
    (sym c.if-not-same_parameter.ensures) c.deref-one-items.ensures.value

pub loop-index-preserved : goal.loop-index-preserved
loop-index-preserved c =
    agree_more _ _ _ c.loop-index.invariant c.loop-index-test.true c.one-item.is c.index.ensures
    (sym c.if-not-same_parameter.ensures)

pub returns : goal.returns
returns c =
    agree_all _ _ _ c.loop-index.invariant c.loop-index-test.false c.deref-one-items.ensures.value
