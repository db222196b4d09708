use Rattle.std.proofs.Common.{◌++◌, take, sym, ap, ◌∙◌, append_assoc}
use Rattle.std.proofs.lemmas.List.{append-nil}
use Rattle.au_syntax.specs.Views.{written, written_all}
use Rattle.au_formed.specs.Naming.{all_named, types_named}
use Rattle.au_formed.proofs.NamedLemmas.{none_named, more_named}
use Rattle.au_caps_types.specs.Naming.{no_holder}
use Rattle.au_types.specs.WrittenViews.{sense_in}
use Rattle.au_caps_types.proofs.naming.+push_named.Goals as goal

pub push_all-loop-one-init : goal.push_all-loop-one-init
push_all-loop-one-init t c =
    let start = c.args.list.now.items in
    let sense = sense_in c.args.scope.now in
    sym (ap (λ r. start ++ r) (none_named sense no_holder) ∙ append-nil start)

pub push_all-loop-one-preserved : goal.push_all-loop-one-preserved
push_all-loop-one-preserved t c =
    let start = c.args.list.now.items in
    let sense = sense_in c.args.scope.now in
    let items = c.deref-one-items.result.now in
    let i = c.loop-one.one-index in
    let item = c.one-item.result in
    c.in_ok-push_named.ensures
    ∙ ap (λ r. r ++ types_named sense no_holder (written item)) c.loop-one.invariant
    ∙ append_assoc start (all_named sense no_holder (written_all (take i items)))
    (types_named sense no_holder (written item))
    ∙ ap (λ r. start ++ r) (sym (more_named sense no_holder items i item c.loop-one-test.true c.one-item.is))
