use Rattle.std.proofs.Common.{ℕ, Bool, true, List, get_or, ap, sym, subst, ◌∙◌}
use Rattle.std.proofs.lemmas.List.{nil_from_length}
use Rattle.au_graphs.specs.Marks.{Entered}
use Rattle.au_graphs.proofs.SearchLemmas.{Searched, searched_start, searched_more, searched_end}
use Rattle.au_graphs.proofs.searching.is_on_cycle.Goals as goal

pub loop-next-init : goal.loop-next-init
loop-next-init c =
    let graph = c.args.graph.now in
    let done = c.args.done.now.items in
    let node = c.args.node in
    let start = searched_start graph done node c.requires.closed in
    subst (λ (seen : List Bool). Searched graph done node seen c.in_ok-work.work.items)
    (sym (c.in_ok-seen.ensures.items ∙ c.deref-2.ensures.value))
    (subst (λ (work : List ℕ). Searched graph done node done work) (sym c.in_ok-work.ensures.items) start)

pub loop-next-preserved : goal.loop-next-preserved
loop-next-preserved c =
    let graph = c.args.graph.now in
    let done = c.args.done.now.items in
    let node = c.args.node in
    let seen = c.loop-next.seen.items in
    let rest = c.pop.new.self.items in
    let now = c.enter_all.new.seen.items in
    let list = c.enter_all.new.work.items in
    let before = subst (λ (work : List ℕ). Searched graph done node seen work) c.in-Some.ensures.items
    c.loop-next.invariant in
    let step = subst (λ (nodes : List ℕ). Entered nodes seen rest now list) c.successors.ensures
    c.in_ok-enter_all.ensures in
    searched_more graph done node seen rest c.in-Some.next now list before step

pub returns : goal.returns
returns c =
    let work = c.loop-next.work in
    let node = c.args.node in
    let none = nil_from_length work.items (sym work.ok.0 ∙ c.in_default.ensures.cases.0) in
    let new = sym (ap (λ (marks : List Bool). get_or marks node true) c.deref.ensures.value)
    ∙ sym c.is_marked.ensures.marked ∙ c.if-is_marked.false in
    let found = c.is_marked-2.ensures.marked ∙ ap (λ (marks : List Bool). get_or marks node true)
    c.deref-3.ensures.value in
    searched_end c.args.graph.now c.args.done.now.items node c.loop-next.seen.items work.items
    c.is_marked-2.result c.loop-next.invariant none new found
