use Rattle.std.proofs.Common.{◌∷◌, [], ◌||◌, ap, sym, ◌∙◌, if◌then◌else◌}
use Rattle.au_lives.specs.Lives.{hidden}
use Rattle.au_lives.specs.Paths.{declared}
use Rattle.au_paths.specs.Seen.{seen_name}
use Rattle.au_paths.proofs.LendingLemmas.{beside}
use Rattle.au_paths.proofs.hiding.hidden_beside.Goals as goal

pub returns-then-hidden : goal.returns-then-hidden
returns-then-hidden g c =
    let here = c.is_named-here.result in
    beside c.args.x.now c.args.hidden c.args.hidden here
    (ap (λ b. b || here) c.if-hidden.true ∙ sym c.if-hidden.true)
    (declared (seen_name g.P.Phase c.args.name.now).name ∷ [])
    (λ h. ap (λ b. if b then hidden else h) (sym c.is_named-here.ensures))

pub returns-else-hidden : goal.returns-else-hidden
returns-else-hidden g c =
    let here = c.is_named-here.result in
    beside c.args.x.now here c.args.hidden here (ap (λ b. b || here) c.if-hidden.false)
    (declared (seen_name g.P.Phase c.args.name.now).name ∷ [])
    (λ h. ap (λ b. if b then hidden else h) (sym c.is_named-here.ensures))
