use Rattle.std.proofs.Common.{◌++◌, map, take, sym, ap, ◌∙◌, append_assoc}
use Rattle.std.proofs.lemmas.List.{append-nil}
use Rattle.au_sights.specs.contracts.noted.NotedPhase.TheImpl.{ghosts as noted}
use Rattle.au_syntax.specs.Plain.{Bytes}
use Rattle.au_syntax.specs.Types.{Labelled}
use Rattle.au_syntax.specs.Views.{labelled, written}
use Rattle.au_types.specs.WrittenViews.{sense_in}
use Rattle.au_caps_lists.specs.Mentions.{field_mentions, written_mentions}
use Rattle.au_caps_lists.specs.Views.{mentions_said}
use Rattle.au_caps_lists.proofs.LoopLemmas.{flat_more}
use Rattle.au_caps_lists.proofs.holding.push_parameters.Goals as goal

pub loop-one-init : goal.loop-one-init
loop-one-init c = sym (append-nil (mentions_said c.args.made.now.items))

pub loop-one-preserved : goal.loop-one-preserved
loop-one-preserved c =
    let sense = sense_in c.args.scope.now in
    let start = mentions_said c.args.made.now.items in
    let items = c.deref-one-items.result.now in
    let i = c.loop-one.one-index in
    let item = c.one-item.result in
    let more = written_mentions sense (written item.of) in
    c.in_ok-push_written.ensures
    ∙ ap (λ l. l ++ more) c.loop-one.invariant
    ∙ append_assoc start (field_mentions sense (map (labelled noted) (take i items))) more
    ∙ ap (λ l. start ++ l) (sym (flat_more items i item c.loop-one-test.true c.one-item.is (labelled noted)
    (λ (one : Labelled Bytes). written_mentions sense one.of)))
