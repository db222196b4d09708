use Rattle.std.proofs.Common.{sym, ap, ◌∙◌}
use Rattle.std.specs.Option.{option_or}
use Rattle.au_imports.specs.Choices.{where_so}
use Rattle.au_types.specs.Rows.{same_place}
use Rattle.au_formed.proofs.DeclarerLemmas.{declarer_more}
use Rattle.au_caps_types.proofs.declarers.first_declarers.Goals as goal

pub loop-index-preserved : goal.loop-index-preserved
loop-index-preserved c = λ a.
    let one = c.one-item.result in
    let i = c.loop-index.index in
    c.in_ok-put.ensures a
    ∙ ap (λ o. option_or o (where_so (same_place a one.of) c.loop-index.index)) (c.loop-index.invariant a)
    ∙ sym (declarer_more c.deref-one-items.result.now i one a c.loop-index-test.true c.one-item.is)
