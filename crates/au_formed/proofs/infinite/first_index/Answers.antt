use Rattle.std.proofs.Common.{◌≡◌, ℕ, ◌∙◌, subst, IfOk, None, Some}
use Rattle.std.specs.Prelude.{◌↔◌}
use Rattle.au_graphs.specs.Cycles.{HasNoCycle, IsFirstOnCycle}
use Rattle.au_formed.specs.Graphs.{index_at}
use Rattle.au_formed.proofs.DeclarerLemmas.{graph_same}
use Rattle.au_formed.proofs.infinite.first_index.Goals as goal

pub returns-clause-found : goal.returns-clause-found
returns-clause-found c =
    let items = c.args.namings.now.items in
    let index = index_at c.in_ok-table.table in
    subst (λ g. IfOk c.first_on_cycle.result (λ first. (k : ℕ) → (first ≡ Some k) ↔ IsFirstOnCycle g k))
    (c.in_ok-graph.ensures
    ∙ graph_same index items items c.in_ok-table.ensures) c.first_on_cycle.ensures.found

pub returns-clause-none : goal.returns-clause-none
returns-clause-none c =
    let items = c.args.namings.now.items in
    let index = index_at c.in_ok-table.table in
    subst (λ g. IfOk c.first_on_cycle.result (λ first. (first ≡ None) ↔ HasNoCycle g))
    (c.in_ok-graph.ensures
    ∙ graph_same index items items c.in_ok-table.ensures) c.first_on_cycle.ensures.none
