use Rattle.std.proofs.Common.{◌+◌, ap, subst, sym, ◌∙◌}
use Rattle.std.specs.Prelude.{IfOk}
use Rattle.std.proofs.lemmas.List.{length-map}
use Rattle.au_graphs.specs.Finding.{numbers}
use Rattle.au_caps.specs.Webs.{IsGraphOf}
use Rattle.au_caps.proofs.webs.Web.graph.Goals as goal

pub returns-in-Some : goal.returns-in-Some
returns-in-Some c =
    let w = c.args.self.now in
    subst (λ n. IfOk c.graph_of.result (IsGraphOf n w.edges.items))
    (c.in-Some.ensures.1 ∙ ap (λ k. w.count + k) (c.len.ensures.len ∙ sym (length-map w.keys.keys numbers)))
    (subst (λ es. IfOk c.graph_of.result (IsGraphOf c.in-Some.nodes es)) c.as_slice.ensures.value
    c.graph_of.ensures)
