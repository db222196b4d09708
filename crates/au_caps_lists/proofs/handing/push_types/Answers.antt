use Rattle.std.proofs.Common.{◌++◌, sym, ap, ◌∙◌}
use Rattle.std.proofs.lemmas.List.{append-nil}
use Rattle.au_sights.specs.contracts.noted.NotedPhase.TheImpl.{ghosts as noted}
use Rattle.au_syntax.specs.Views.{expression, expression_all}
use Rattle.au_typing.specs.Notes.{type_of}
use Rattle.au_closed_trees.proofs.LoopLemmas.{found_more}
use Rattle.au_closed_trees.proofs.SnocLemmas.{expressions_push, snoc_expressions}
use Rattle.au_caps_lists.specs.Holding.{types_mention}
use Rattle.au_caps_lists.specs.Mentions.{mentions}
use Rattle.au_caps_lists.specs.Views.{mentions_said}
use Rattle.au_caps_lists.proofs.HandLemmas.{types_push}
use Rattle.au_caps_lists.proofs.handing.push_types.Goals as goal

pub loop-one-init : goal.loop-one-init
loop-one-init c = sym (append-nil (mentions_said c.args.made.now.items))

pub loop-one-preserved : goal.loop-one-preserved
loop-one-preserved c =
    let items = c.deref-one-items.result.now in
    let start = mentions_said c.loop-one.made.items in
    let grows = c.in_ok-push_type.ensures ∙ ap (λ t. start ++ mentions t) c.type_of.ensures in
    found_more (expression_all noted) snoc_expressions (expression noted) types_mention
    (λ e. mentions (type_of e)) (expressions_push noted) types_push
    (mentions_said c.args.made.now.items) _ _ items c.loop-one.one-index
    c.one-item.result c.loop-one.invariant c.loop-one-test.true c.one-item.is
    grows
