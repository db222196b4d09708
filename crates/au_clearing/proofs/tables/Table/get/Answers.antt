use Rattle.std.proofs.Common.{ap, sym, ◌∙◌}
use Rattle.au_clearing.specs.Tables.{find}
use Rattle.au_clearing.proofs.TableLemmas.{find_pairs}
use Rattle.au_clearing.proofs.tables.Table.get.Goals as goal

pub returns : goal.returns
returns g c =
    c.get.ensures.value
    ∙ sym (find_pairs (λ k. k.items) c.args.name.now c.self.inside.entries.entries)
    ∙ ap (find c.args.name.now) c.self.view_is
