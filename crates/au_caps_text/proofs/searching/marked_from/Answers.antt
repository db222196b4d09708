use Rattle.std.proofs.Common.{ℕ, Bool, false, List, replicate, sym, subst, ◌∙◌}
use Rattle.std.proofs.lemmas.List.{nil_from_length}
use Rattle.au_graphs.specs.Marks.{Entered}
use Rattle.au_caps_text.proofs.SearchLemmas.{Searched, searched_start, searched_more, searched_end}
use Rattle.au_caps_text.proofs.searching.marked_from.Goals as goal

pub loop-next-init : goal.loop-next-init
loop-next-init c =
    let starts = c.args.starts.now in
    let n = c.node_count.result in
    let now = c.enter_all.new.seen.items in
    let list = c.enter_all.new.work.items in
    let first = subst (λ (seen : List Bool). Entered starts seen c.new-work.result.items now list) c.in_ok-seen.ensures
    c.in_ok-enter_all.ensures in
    let step = subst (λ (work : List ℕ). Entered starts (replicate n false) work now list) c.new-work.ensures.items first in
    searched_start c.args.graph.now starts n now list c.node_count.ensures step

pub loop-next-preserved : goal.loop-next-preserved
loop-next-preserved c =
    let graph = c.args.graph.now in
    let starts = c.args.starts.now in
    let seen = c.loop-next.seen.items in
    let rest = c.pop.new.self.items in
    let now = c.enter_all-in-Some.new.seen.items in
    let list = c.enter_all-in-Some.new.work.items in
    let before = subst (λ (work : List ℕ). Searched graph starts seen work) c.in-Some.ensures.items
    c.loop-next.invariant in
    let step = subst (λ (nodes : List ℕ). Entered nodes seen rest now list) c.successors.ensures
    c.in_ok-enter_all-2.ensures in
    searched_more graph starts seen rest c.in-Some.next now list before step

pub returns : goal.returns
returns c =
    let work = c.loop-next.work in
    let none = nil_from_length work.items (sym work.ok.0 ∙ c.in_default.ensures.cases.0) in
    λ a lt. searched_end c.args.graph.now c.args.starts.now c.loop-next.seen.items work.items c.loop-next.invariant none
    a lt
