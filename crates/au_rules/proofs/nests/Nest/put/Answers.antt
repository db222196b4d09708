use Rattle.std.proofs.Common.{not, is_some, reverse, ap, sym, ◌∙◌}
use Rattle.au_types.specs.Tables.{pairs_by, has_name, with_pair}
use Rattle.au_types.proofs.TableLemmas.{find-pairs_by, with_pair-old, inserted-new}
use Rattle.au_rules.proofs.nests.Nest.put.Goals as goal

pub returns-then-contains_key-clause-fresh : goal.returns-then-contains_key-clause-fresh
returns-then-contains_key-clause-fresh g c =
    ap not (sym c.if-contains_key.true ∙ c.contains_key.ensures
    ∙ sym (ap is_some (find-pairs_by (λ k. k.items) c.args.name.now c.self.inside.entries.entries))
    ∙ ap (λ v. has_name c.args.name.now v.0) c.self.view_is)

pub returns-then-contains_key-clause-ok : goal.returns-then-contains_key-clause-ok
returns-then-contains_key-clause-ok g c =
    ap (λ pairs. (pairs, c.args.self.now.1)) (sym (with_pair-old c.args.self.now.0 c.args.name.now
    c.args.value (ap (λ v. has_name c.args.name.now v.0) (sym c.self.view_is)
    ∙ ap is_some (find-pairs_by (λ k. k.items) c.args.name.now c.self.inside.entries.entries)
    ∙ sym c.contains_key.ensures ∙ c.if-contains_key.true)))

pub returns-clause-fresh : goal.returns-clause-fresh
returns-clause-fresh g c =
    ap not (sym c.if-contains_key.false ∙ c.contains_key.ensures
    ∙ sym (ap is_some (find-pairs_by (λ k. k.items) c.args.name.now c.self.inside.entries.entries))
    ∙ ap (λ v. has_name c.args.name.now v.0) c.self.view_is)

pub returns-clause-ok : goal.returns-clause-ok
returns-clause-ok g c =
    let begins = reverse c.self.inside.begins.items in
    ap (λ es. (pairs_by es (λ k. k.items), begins)) c.in_ok-insert.ensures.entries
    ∙ ap (λ pairs. (pairs, begins)) (inserted-new (λ k. k.items) c.self.inside.entries.entries c.in_ok-key.key
    c.args.value c.args.name.now c.in_ok-key.ensures.items
    (ap is_some (find-pairs_by (λ k. k.items) c.args.name.now c.self.inside.entries.entries)
    ∙ sym c.contains_key.ensures ∙ c.if-contains_key.false))
    ∙ ap (λ v. (with_pair v.0 c.args.name.now c.args.value, v.1)) c.self.view_is
