use Rattle.std.proofs.Common.{◌≡◌, ◌++◌, length, get_or, set, ap, ◌∙◌, arith}
use Rattle.std.specs.Prelude.{option_to_list}
use Rattle.std.proofs.lemmas.List.{get_or_default, length-set}
use Rattle.au_graphs.specs.Cycles.{successors}
use Rattle.au_types.specs.declared.types.DeclAt.{DeclAt}
use Rattle.au_formed.specs.Graphs.{index_at}
use Rattle.au_formed.proofs.DeclarerLemmas.{edges_more}
use Rattle.au_caps_types.proofs.graphs.add_edges.Goals as goal

pub loop-one-preserved : goal.loop-one-preserved
loop-one-preserved c =
    let f = index_at c.args.table.now in
    let names = c.args.names.now in
    let i = c.loop-one.one-index in
    let from = c.args.from in
    let none : DeclAt = record { «module» = 0; decl = 0 } in
    let at = get_or names i none in
    let edges = successors c.loop-one.graph from ++ option_to_list (f at) in
    let long : length c.add_edge.new.graph ≡ length c.loop-one.graph =
    ap length c.in_ok-add_edge.ensures ∙ length-set c.loop-one.graph from edges in
    record {
      within = omega arith;
      graph =
          c.in_ok-add_edge.ensures
          ∙ ap (λ g. set g from (successors g from ++ option_to_list (f at))) c.loop-one.invariant.graph
          ∙ edges_more c.args.graph.now from f names i at c.requires c.loop-one-test.true
          (get_or_default names i none at c.loop-one-test.true);
    }
