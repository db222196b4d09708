use Rattle.std.proofs.Common.{◌++◌, take, sym, ap, ◌∙◌, append_assoc}
use Rattle.std.proofs.lemmas.List.{append-nil}
use Rattle.au_promises.specs.Mentions.{argument_mentions, type_mentions}
use Rattle.au_syntax.specs.Views.{written, written_all}
use Rattle.au_promises.proofs.MentionLemmas.{no_mentions, more_mentions}
use Rattle.au_promises.proofs.pushing.+push_type.Goals as goal

pub push_types-loop-one-init : goal.push_types-loop-one-init
push_types-loop-one-init t c =
    let start = c.args.list.now.items in
    sym (ap (λ r. start ++ r) no_mentions ∙ append-nil start)

pub push_types-loop-one-preserved : goal.push_types-loop-one-preserved
push_types-loop-one-preserved t c =
    let start = c.args.list.now.items in
    let items = c.deref-one-items.result.now in
    let i = c.loop-one.one-index in
    let item = c.one-item.result in
    c.in_ok-push_type.ensures
    ∙ ap (λ r. r ++ type_mentions (written item)) c.loop-one.invariant
    ∙ append_assoc start (argument_mentions (written_all (take i items))) (type_mentions (written item))
    ∙ ap (λ r. start ++ r) (sym (more_mentions items i item c.loop-one-test.true c.one-item.is))
