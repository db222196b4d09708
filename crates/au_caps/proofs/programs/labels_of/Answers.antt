use Rattle.std.proofs.Common.{length, sym}
use Rattle.std.proofs.lemmas.List.{length-map}
use Rattle.std.proofs.lemmas.Result.{IfOk-weaker}
use Rattle.au_modules.specs.Slots as slots
use Rattle.au_caps_text.specs.Spreading.{AreSpread}
use Rattle.au_caps_lists.specs.Views.{bodies_said, body_said}
use Rattle.au_caps.proofs.WebLemmas.{all_labelled}
use Rattle.au_caps.proofs.programs.labels_of.Goals as goal

pub returns : goal.returns
returns c =
    let program = slots.modules c.args.program.now in
    let r = c.args.reaching.now in
    let bodies = bodies_said c.args.bodies.now.items in
    let graph = c.in_ok-graph.graph in
    let labels = c.in_ok-labels.labels in
    IfOk-weaker c.spread.result (AreSpread graph labels) _
    (λ made spread noted same. all_labelled program noted bodies same r c.requires.reached c.in_ok-web.web
    (length c.args.bodies.now.items)
    c.in_ok-web.ensures (sym (length-map c.args.bodies.now.items body_said)) graph labels made
    c.in_ok-graph.ensures c.len.result c.len.ensures c.in_ok-labels.ensures spread)
    c.spread.ensures
