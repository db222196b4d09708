use Rattle.std.proofs.Common.{◌++◌, sym, ap, ◌∙◌}
use Rattle.std.proofs.lemmas.List.{append-nil}
use Rattle.au_sights.specs.contracts.noted.NotedPhase.TheImpl.{ghosts as noted}
use Rattle.au_syntax.specs.Views.{argument_all, expression}
use Rattle.au_typing.specs.Notes.{type_of}
use Rattle.au_closed_trees.proofs.LoopLemmas.{alone_behind, found_more}
use Rattle.au_closed_trees.proofs.SnocLemmas.{arguments_push, one_argument, snoc_arguments}
use Rattle.au_caps_lists.specs.Holding.{named_mention}
use Rattle.au_caps_lists.specs.Mentions.{mentions}
use Rattle.au_caps_lists.specs.Views.{mentions_said}
use Rattle.au_caps_lists.proofs.HandLemmas.{named_push}
use Rattle.au_caps_lists.proofs.handing.push_named_types.Goals as goal

pub loop-one-init : goal.loop-one-init
loop-one-init c = sym (append-nil (mentions_said c.args.made.now.items))

pub loop-one-preserved : goal.loop-one-preserved
loop-one-preserved c =
    let items = c.deref-one-items.result.now in
    let start = mentions_said c.loop-one.made.items in
    let grows = c.in_ok-push_type.ensures ∙ ap (λ t. start ++ mentions t) c.type_of.ensures in
    found_more (argument_all noted) snoc_arguments (one_argument noted) named_mention named_mention
    (arguments_push noted) named_push
    (mentions_said c.args.made.now.items) _ _ items c.loop-one.one-index
    c.one-item.result c.loop-one.invariant c.loop-one-test.true c.one-item.is
    (alone_behind start (mentions (type_of (expression noted c.one-item.result.value))) _ grows)
