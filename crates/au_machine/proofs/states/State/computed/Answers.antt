use Rattle.std.proofs.Common.{◌≡◌, ◌<◌, ◌≤◌, ◌-◌, List, length, get_or, subst, ◌∙◌, arith}
use Rattle.au_effects.specs.Numbers.{computed}
use Rattle.au_cells.specs.declared.cells.Cell.{Cell}
use Rattle.au_machine.proofs.NewestLemmas.{on_newest, none_newest}
use Rattle.au_machine.proofs.states.State.computed.Goals as goal

pub returns-then-cells-lt2 : goal.returns-then-cells-lt2
returns-then-cells-lt2 c =
    let few : length c.args.self.now.operands.0 < 2 = grind arith in
    none_newest c.args.self.now (computed c.args.op c.args.kind) few

pub returns : goal.returns
returns c =
    let cells = c.args.self.now.operands.0 in
    let many : 2 ≤ length cells = grind arith in
    let a = c.index-cells-cells.result in
    let b = c.index-cells-cells-2.result in
    c.compute_at.ensures
    ∙ on_newest c.args.self.now (computed c.args.op c.args.kind) a b many
    (subst (λ (all : List Cell). a ≡ get_or all (length all - 2) a) c.top-cells.ensures c.index-cells-cells.is)
    (subst (λ (all : List Cell). b ≡ get_or all (length all - 1) b) c.top-cells.ensures c.index-cells-cells-2.is)
