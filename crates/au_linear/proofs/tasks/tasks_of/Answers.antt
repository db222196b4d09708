use Rattle.std.proofs.Common.{◌≡◌, [], ◌∷◌, ◌++◌, drop, reverse, append_assoc, subst, sym, ap, ◌∙◌}
use Rattle.std.proofs.lemmas.List.{append-nil, nil_from_length, reverse-append}
use Rattle.au_linear.specs.Allotting.{Allots, Allotted}
use Rattle.au_linear.proofs.TellingLemmas.{allots_more}
use Rattle.au_linear.proofs.tasks.tasks_of.Goals as goal

pub loop-life-init : goal.loop-life-init
loop-life-init c = λ more h.
    subst (λ l. Allotted (reverse c.args.found.items) c.args.sorts.now (l ++ more)) (sym c.new-tasks.ensures.items) h

pub loop-life-preserved : goal.loop-life-preserved
loop-life-preserved c = λ more h.
    let behind = reverse c.pop.new.self.items in
    let sorts = drop c.loop-life.next c.args.sorts.now in
    let first = ap reverse c.in-Some.ensures.items ∙ reverse-append c.pop.new.self.items (c.in-Some.life ∷ []) in
    subst (λ l. Allotted (reverse c.args.found.items) c.args.sorts.now (l ++ more)) (sym c.in_ok-push.ensures.items)
    (allots_more c.in-Some.life behind sorts c.loop-life.tasks.items more c.task_of.result
    (reverse c.args.found.items) c.args.sorts.now
    (λ more given. c.loop-life.invariant more (subst (λ l. Allotted l sorts more) (sym first) given))
    (subst (λ s. Allots c.in-Some.life s c.task_of.result) c.sort_at.ensures c.task_of.ensures)
    (subst (λ l. Allotted behind l more) c.next_sort-next.ensures h))

pub returns : goal.returns
returns c =
    let none =
    nil_from_length c.loop-life.left.items (sym c.loop-life.left.ok.0 ∙ c.in_default.ensures.cases.0) in
    subst (Allotted (reverse c.args.found.items) c.args.sorts.now) (append-nil c.loop-life.tasks.items)
    (c.loop-life.invariant []
    (subst (λ l. Allotted (reverse l) (drop c.loop-life.next c.args.sorts.now) []) (sym none) tt))
