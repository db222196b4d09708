use Rattle.std.proofs.Common.{Bool, false, List, length, ap, sym, subst, ◌∙◌}
use Rattle.std.proofs.lemmas.List.{length-replicate}
use Rattle.au_graphs.specs.Marks.{IsPeeled}
use Rattle.au_graphs.proofs.MarkLemmas.{peeled_none}
use Rattle.au_graphs.proofs.peeling.peel.Goals as goal

pub loop-start-init : goal.loop-start-init
loop-start-init c = record {
  sized = (
    ap length c.in_ok-seen.ensures ∙ length-replicate c.node_count.result false ∙ c.node_count.ensures,
    ap length c.in_ok-done.ensures ∙ length-replicate c.node_count-2.result false ∙ c.node_count-2.ensures,
  );
  peeled = subst (λ (marks : List Bool). IsPeeled c.args.graph.now marks) (sym c.in_ok-done.ensures)
      (peeled_none c.args.graph.now c.node_count-2.result c.node_count-2.ensures);
}
