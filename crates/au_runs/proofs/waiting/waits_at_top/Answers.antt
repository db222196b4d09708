-- The newest operand stands last.
use Rattle.std.proofs.Common.{◌≡◌, ◌<◌, ◌-◌, List, length, get_or, subst, ◌∙◌, arith}
use Rattle.au_cells.specs.declared.cells.Cell.{Cell}
use Rattle.au_runs.proofs.WaitLemmas.{none_at_top, cell_at_top}
use Rattle.au_runs.proofs.waiting.waits_at_top.Goals as goal

pub returns-then-is_empty : goal.returns-then-is_empty
returns-then-is_empty c =
    let cells = c.args.state.now.operands.0 in
    let none : length cells ≡ 0 = grind arith in
    none_at_top c.args.state.now none

pub returns : goal.returns
returns c =
    let cells = c.args.state.now.operands.0 in
    let some : 0 < length cells = grind arith in
    c.waits_through.ensures
    ∙ cell_at_top c.args.state.now c.index-cells-cells.result some
    (subst (λ (all : List Cell). c.index-cells-cells.result ≡ get_or all (length all - 1) c.index-cells-cells.result)
    c.top-cells.ensures c.index-cells-cells.is)
