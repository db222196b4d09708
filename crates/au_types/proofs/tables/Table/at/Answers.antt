use Rattle.std.proofs.Common.{ap, sym, ◌∙◌}
use Rattle.au_types.specs.Tables.{find}
use Rattle.au_types.proofs.TableLemmas.{find-pairs_by}
use Rattle.au_types.proofs.tables.Table.at.Goals as goal

pub returns-clause-found : goal.returns-clause-found
returns-clause-found g c =
    let there = rw c.unwrap.ensures at c.get_index.ensures.value in
    ap (λ name. find name c.args.self.now) c.as_slice.ensures.value
    ∙ sym (ap (find c.unwrap.result.0.now.items) c.self.view_is)
    ∙ find-pairs_by (λ k. k.items) c.unwrap.result.0.now.items c.self.inside.entries.entries
    ∙ there
