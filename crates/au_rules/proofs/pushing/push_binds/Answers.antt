use Rattle.std.proofs.Common.{◌++◌, ◌∷◌, [], map, take, sym, ap, ◌∙◌, append_assoc}
use Rattle.au_syntax.specs.contracts.parsed.ParsedPhase.TheImpl.{ghosts as parsed}
use Rattle.au_syntax.specs.Plain.{plain_bound}
use Rattle.au_syntax.specs.Views.{bound}
use Rattle.au_rules.specs.Marks.{bound_mark}
use Rattle.au_rules.specs.Said.{binds_said}
use Rattle.au_rules.proofs.ListLemmas.{listed_next}
use Rattle.au_rules.proofs.pushing.push_binds.Goals as goal

pub loop-one-preserved : goal.loop-one-preserved
loop-one-preserved c =
    let start = c.args.list.now.items in
    let items = c.deref-one-items.result.now in
    let i = c.loop-one.one-index in
    let item = c.one-item.result in
    let mark = bound_mark (plain_bound parsed.name_bytes (bound parsed item)) in
    c.in_ok-push_bind.ensures
    ∙ ap (λ r. r ++ mark ∷ []) c.loop-one.invariant
    ∙ append_assoc start (map bound_mark (binds_said (take i items))) (mark ∷ [])
    ∙ ap (λ r. start ++ r) (sym (listed_next (bound parsed) (plain_bound parsed.name_bytes) bound_mark items i
    item c.loop-one-test.true c.one-item.is))
