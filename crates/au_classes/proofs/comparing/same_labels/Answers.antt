use Rattle.std.proofs.Common.{◌<◌, ◌≤◌, length, ap, sym, ◌∙◌, arith}
use Rattle.au_syntax.specs.contracts.parsed.ParsedPhase.TheImpl.{ghosts as parsed}
use Rattle.au_syntax.specs.Plain.{plain_labelled}
use Rattle.au_syntax.specs.Views.{labelled}
use Rattle.au_types.specs.WrittenViews.{meant_in}
use Rattle.au_promises.specs.Agreeing.{all_agree}
use Rattle.au_promises.specs.Written.{labels_of}
use Rattle.au_promises.proofs.AgreeingLemmas.{disagree, agree_next, agree_not, agree_end}
use Rattle.au_classes.specs.Methods.{same_labelled}
use Rattle.au_classes.specs.Views.{wanted_in}
use Rattle.au_classes.proofs.comparing.same_labels.Goals as goal

-- lists of two lengths
pub returns-then-len : goal.returns-then-len
returns-then-len c =
    let agree = same_labelled (wanted_in c.args.class.now c.args.s.now) (meant_in c.args.own.now) in
    let one = c.args.list.now in
    let other = c.args.others.now in
    sym (disagree agree (plain_labelled parsed.name_bytes) (labelled parsed) one.items other.items
    (λ e. c.if-len.true (c.len.ensures ∙ one.ok.0 ∙ e ∙ sym other.ok.0 ∙ sym c.len-2.ensures)))

pub returns-then-not-branch : goal.returns-then-not-branch
returns-then-not-branch c =
    let agree = same_labelled (wanted_in c.args.class.now c.args.s.now) (meant_in c.args.own.now) in
    let xs = c.deref-one-items.result.now in
    let ys = c.args.others.now.items in
    let within : c.loop-index.index < length ys =
    omega (arith, c.loop-index.invariant.lengths, c.loop-index-test.true) in
    agree_not agree (plain_labelled parsed.name_bytes) (labelled parsed) xs ys c.loop-index.index
    c.one-item.result c.index.result.now c.loop-index.invariant c.loop-index-test.true within c.one-item.is
    c.index.ensures (sym c.in_ok-same_labelled.ensures ∙ c.if-not-branch.true)
    ∙ ap (λ r. all_agree agree (labels_of r) (labels_of ys)) c.deref-one-items.ensures.value

pub loop-index-preserved : goal.loop-index-preserved
loop-index-preserved c =
    let agree = same_labelled (wanted_in c.args.class.now c.args.s.now) (meant_in c.args.own.now) in
    let xs = c.deref-one-items.result.now in
    let ys = c.args.others.now.items in
    let within : c.loop-index.index < length ys =
    omega (arith, c.loop-index.invariant.lengths, c.loop-index-test.true) in
    agree_next agree (plain_labelled parsed.name_bytes) (labelled parsed) xs ys c.loop-index.index
    c.one-item.result c.index.result.now c.loop-index.invariant c.loop-index-test.true within c.one-item.is
    c.index.ensures (sym c.in_ok-same_labelled.ensures ∙ c.if-not-branch.false)

pub returns : goal.returns
returns c =
    let agree = same_labelled (wanted_in c.args.class.now c.args.s.now) (meant_in c.args.own.now) in
    let xs = c.deref-one-items.result.now in
    let ys = c.args.others.now.items in
    let past : length ys ≤ c.loop-index.index =
    omega (arith, c.loop-index.invariant.lengths, c.loop-index-test.false) in
    agree_end agree (plain_labelled parsed.name_bytes) (labelled parsed) xs ys c.loop-index.index
    c.loop-index.invariant c.loop-index-test.false past
    ∙ ap (λ r. all_agree agree (labels_of r) (labels_of ys)) c.deref-one-items.ensures.value
