use Rattle.std.proofs.Common.{◌++◌, map, take, ap, ◌∙◌, append_assoc, sym}
use Rattle.std.proofs.lemmas.List.{append-nil}
use Rattle.std.specs.Prelude.{option_to_list}
use Rattle.au_sights.specs.contracts.noted.NotedPhase.TheImpl.{ghosts as noted}
use Rattle.au_syntax.specs.Names.{Placed}
use Rattle.au_syntax.specs.Plain.{Bytes}
use Rattle.au_syntax.specs.Views.{placed}
use Rattle.au_types.specs.WrittenViews.{sense_in}
use Rattle.au_caps.specs.Making.{class_named, classes_named}
use Rattle.au_caps_lists.proofs.LoopLemmas.{kept_more}
use Rattle.au_caps.proofs.edges.push_classes.Goals as goal

pub loop-one-init : goal.loop-one-init
loop-one-init c =
    sym (append-nil c.args.made.now.items)

pub loop-one-preserved : goal.loop-one-preserved
loop-one-preserved c =
    let start = c.args.made.now.items in
    let sense = sense_in c.args.scope.now in
    let items = c.deref-one-items.result.now in
    let i = c.loop-one.one-index in
    let item = c.one-item.result in
    let found = class_named sense item.name in
    c.in_ok-push_found.ensures
    ∙ ap (λ o. c.loop-one.made.items ++ option_to_list o) c.class_named.ensures
    ∙ ap (λ l. l ++ option_to_list found) c.loop-one.invariant
    ∙ append_assoc start (classes_named sense (map (placed noted) (take i items))) (option_to_list found)
    ∙ ap (λ l. start ++ l) (sym (kept_more items i item c.loop-one-test.true c.one-item.is (placed noted)
    (λ (name : Placed Bytes). class_named sense name.name)))
