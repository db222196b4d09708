use Rattle.std.proofs.Common.{◌++◌, take, sym, ap, ◌∙◌, append_assoc}
use Rattle.std.proofs.lemmas.List.{append-nil}
use Rattle.au_syntax.specs.Views.{written, written_all}
use Rattle.au_types.specs.WrittenViews.{sense_in}
use Rattle.au_caps_lists.specs.Mentions.{all_written, written_mentions}
use Rattle.au_caps_lists.specs.Views.{mentions_said}
use Rattle.au_caps_lists.proofs.MentionLemmas.{in_no_types, more_written}
use Rattle.au_caps_lists.proofs.mentions.+push_written.Goals as goal

pub push_all_written-loop-one-init : goal.push_all_written-loop-one-init
push_all_written-loop-one-init t c =
    let start = mentions_said c.args.made.now.items in
    sym (ap (λ r. start ++ r) (in_no_types (sense_in c.args.scope.now)) ∙ append-nil start)

pub push_all_written-loop-one-preserved : goal.push_all_written-loop-one-preserved
push_all_written-loop-one-preserved t c =
    let start = mentions_said c.args.made.now.items in
    let sense = sense_in c.args.scope.now in
    let items = c.deref-one-items.result.now in
    let i = c.loop-one.one-index in
    let item = c.one-item.result in
    c.in_ok-push_written.ensures
    ∙ ap (λ r. r ++ written_mentions sense (written item)) c.loop-one.invariant
    ∙ append_assoc start (all_written sense (written_all (take i items)))
    (written_mentions sense (written item))
    ∙ ap (λ r. start ++ r) (sym (more_written sense items i item c.loop-one-test.true c.one-item.is))
