use Rattle.std.proofs.Common.{take, refl, sym, ap, ◌∙◌}
use Rattle.std.specs.Option.{option_or}
use Rattle.au_rules.specs.Outside.{is_outside_of}
use Rattle.au_rules.specs.Scopes.{after, double_in, first_in}
use Rattle.au_rules.proofs.ScopeLemmas.{after_next, first_next, first_nothing}
use Rattle.au_rules.proofs.finding.judge_marks.Goals as goal

pub loop-mark-init : goal.loop-mark-init
loop-mark-init c = (sym (first_nothing (is_outside_of c.args.here.now) c.args.scopes.now), refl)

pub loop-mark-preserved : goal.loop-mark-preserved
loop-mark-preserved c =
    let foreign = is_outside_of c.args.here.now in
    let s = c.args.scopes.now in
    let items = c.deref-mark-items.result.now in
    let i = c.loop-mark.mark-index in
    let item = c.mark-item.result in
    let before = c.loop-mark.invariant in
    let found = c.in_ok-found.ensures.found ∙ ap (λ t. double_in foreign t item) before.1 in (
      c.or-first.ensures ∙ ap (λ o. option_or o c.in_ok-found.found) before.0
          ∙ ap (option_or (first_in foreign s (take i items))) found
          ∙ sym (first_next foreign s items i item c.loop-mark-test.true c.mark-item.is),
      c.in_ok-found.ensures.noted ∙ ap (λ t. after t item) before.1
          ∙ sym (after_next s items i item c.loop-mark-test.true c.mark-item.is),
    )
