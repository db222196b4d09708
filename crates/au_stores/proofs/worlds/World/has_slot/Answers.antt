use Rattle.std.proofs.Common.{List, Option, nat_lt, length, ap, sym, ◌∙◌}
use Rattle.au_cells.specs.declared.cells.Cell.{Cell}
use Rattle.au_stores.proofs.FrameLemmas.{count_top}
use Rattle.au_stores.proofs.worlds.World.has_slot.Goals as goal

pub returns-clause-world : goal.returns-clause-world
returns-clause-world c =
    ap (λ (slots : List (Option Cell)). nat_lt c.args.slot (length slots)) c.top.ensures
    ∙ ap (nat_lt c.args.slot) (sym (count_top c.args.self.now))
