use Rattle.std.proofs.Common.{not, is_some, ap, sym, ◌∙◌}
use Rattle.au_types.specs.Tables.{pairs_by, has_name, with_pair}
use Rattle.au_types.proofs.TableLemmas.{find-pairs_by, with_pair-old, inserted-new}
use Rattle.au_types.proofs.tables.Table.put.Goals as goal

pub returns-then-contains_key-clause-fresh : goal.returns-then-contains_key-clause-fresh
returns-then-contains_key-clause-fresh g c =
    ap not (sym c.if-contains_key.true ∙ c.contains_key.ensures
    ∙ sym (ap is_some (find-pairs_by (λ k. k.items) c.args.name.now c.self.inside.entries.entries))
    ∙ ap (has_name c.args.name.now) c.self.view_is)

pub returns-then-contains_key-clause-pairs : goal.returns-then-contains_key-clause-pairs
returns-then-contains_key-clause-pairs g c =
    sym (with_pair-old c.args.self.now c.args.name.now c.args.value
    (ap (has_name c.args.name.now) (sym c.self.view_is)
    ∙ ap is_some (find-pairs_by (λ k. k.items) c.args.name.now c.self.inside.entries.entries)
    ∙ sym c.contains_key.ensures ∙ c.if-contains_key.true))

pub returns-clause-fresh : goal.returns-clause-fresh
returns-clause-fresh g c =
    ap not (sym c.if-contains_key.false ∙ c.contains_key.ensures
    ∙ sym (ap is_some (find-pairs_by (λ k. k.items) c.args.name.now c.self.inside.entries.entries))
    ∙ ap (has_name c.args.name.now) c.self.view_is)

pub returns-clause-pairs : goal.returns-clause-pairs
returns-clause-pairs g c =
    ap (λ es. pairs_by es (λ k. k.items)) c.in_ok-insert.ensures.entries
    ∙ inserted-new (λ k. k.items) c.self.inside.entries.entries c.in_ok-key.key c.args.value c.args.name.now
    c.in_ok-key.ensures.items (ap is_some
    (find-pairs_by (λ k. k.items) c.args.name.now c.self.inside.entries.entries)
    ∙ sym c.contains_key.ensures ∙ c.if-contains_key.false)
    ∙ ap (λ pairs. with_pair pairs c.args.name.now c.args.value) c.self.view_is
