use Rattle.std.proofs.Common.{ℕ, ◌≤◌, Bool, List, length, take, subst}
use Rattle.std.specs.List.{All}
use Rattle.au_graphs.specs.Marks.{IsMarked}
use Rattle.au_graphs.proofs.MarkLemmas.{peeled_more}
use Rattle.au_graphs.proofs.PeelingLemmas.{all_passed}
use Rattle.au_graphs.proofs.peeling.go_on.Goals as goal

pub returns-then-passed-nodes-clause-peeled : goal.returns-then-passed-nodes-clause-peeled
returns-then-passed-nodes-clause-peeled c =
    let graph = c.args.graph.now in
    let done = c.args.done.now.items in
    let passed = c.passed_on-passed.result in
    let named = c.successors-nodes.ensures in
    let all = subst (λ (marks : List Bool). All (IsMarked marks) (take passed c.successors-nodes.result.now))
    c.deref.ensures.value c.passed_on-passed.ensures in
    let whole = subst (λ (xs : List ℕ). length xs ≤ passed) named c.if-passed-nodes.true in
    peeled_more graph done c.args.visit.node c.requires.peeled
    (all_passed done passed _ whole (subst (λ (xs : List ℕ). All (IsMarked done) (take passed xs)) named all))
