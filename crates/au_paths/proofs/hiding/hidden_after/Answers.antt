use Rattle.std.proofs.Common.{◌||◌, ap, sym, ◌∙◌}
use Rattle.au_paths.proofs.LendingLemmas.{beside}
use Rattle.au_paths.proofs.hiding.hidden_after.Goals as goal

pub returns-then-hidden : goal.returns-then-hidden
returns-then-hidden g c =
    let here = c.declares-here.result in
    beside c.args.x.now c.args.hidden c.args.hidden here
    (ap (λ b. b || here) c.if-hidden.true ∙ sym c.if-hidden.true) _ c.declares-here.ensures

pub returns-else-hidden : goal.returns-else-hidden
returns-else-hidden g c =
    let here = c.declares-here.result in
    beside c.args.x.now here c.args.hidden here (ap (λ b. b || here) c.if-hidden.false) _ c.declares-here.ensures
