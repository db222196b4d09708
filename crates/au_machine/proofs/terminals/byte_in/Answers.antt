use Rattle.std.proofs.Common.{ap, sym, ◌∙◌}
use Rattle.au_base.specs.declared.kinds.IntKind.TheVariants.{Nat8}
use Rattle.au_effects.specs.Numbers.{number_of}
use Rattle.au_effects.specs.Calls.{natural_in}
use Rattle.au_cells.specs.Cells.{low}
use Rattle.au_cells.specs.declared.cells.Cell.{Cell}
use Rattle.au_machine.proofs.terminals.byte_in.Goals as goal
use Rattle.au_stores.proofs.FormLemmas.{byte_is, not_byte}

pub returns-in-Nat8 : goal.returns-in-Nat8
returns-in-Nat8 c = sym (ap (λ (one : Cell). natural_in (number_of Nat8 (low one))) c.in-Nat8.is
    ∙ byte_is c.in-Nat8.n)

pub returns-in_default : goal.returns-in_default
returns-in_default c = sym (not_byte c.args.cell.now c.in_default.not-Nat8)
