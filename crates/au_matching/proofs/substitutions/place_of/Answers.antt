use Rattle.std.proofs.Common.{◌<◌, length, get_or, sym, ap, subst, ◌∙◌}
use Rattle.au_matching.proofs.ListedLemmas.{behind_here, behind_more}
use Rattle.au_matching.proofs.substitutions.place_of.Goals as goal

pub returns-then-is_before-clause-place : goal.returns-then-is_before-clause-place
returns-then-is_before-clause-place c =
    let xs = c.args.bindings.now.items in
    let i = c.loop-index.index in
    let x = c.one-item.result in
    let same = c.deref-one-items.ensures.value in
    behind_here c.args.name.now xs i x (subst (λ ys. i < length ys) same c.loop-index-test.true)
    (c.one-item.is ∙ ap (λ ys. get_or ys i x) same)
    (sym c.is_before.ensures ∙ c.if-is_before.true) c.loop-index.invariant

pub loop-index-preserved : goal.loop-index-preserved
loop-index-preserved c =
    let xs = c.args.bindings.now.items in
    let i = c.loop-index.index in
    let x = c.one-item.result in
    let same = c.deref-one-items.ensures.value in
    behind_more c.args.name.now xs i x (subst (λ ys. i < length ys) same c.loop-index-test.true)
    (c.one-item.is ∙ ap (λ ys. get_or ys i x) same)
    (sym c.is_before.ensures ∙ c.if-is_before.false) c.loop-index.invariant
