use Rattle.std.proofs.Common.{◌≡◌, sym, ap, subst, ◌∙◌}
use Rattle.au_types.specs.Views.{argument}
use Rattle.au_matching.specs.Bindings.{IsInOrder, with_pair}
use Rattle.au_matching.specs.Listed.{pairs}
use Rattle.au_matching.proofs.BindingLemmas.{in_order-with}
use Rattle.au_matching.proofs.ListedLemmas.{pairs_insert}
use Rattle.au_matching.proofs.substitutions.Substitution.put.Goals as goal

pub invariant_of-self-2 : goal.invariant_of-self-2
invariant_of-self-2 c =
    let before = c.self.inside.bindings.items in
    let value = argument c.args.value in
    let listed : pairs c.insert.new.self.items ≡ with_pair c.args.name value (pairs before) =
    ap pairs c.in_ok-insert.ensures.items
    ∙ pairs_insert before c.place_of-place.result (record { name = c.args.name; value = c.args.value })
    ∙ sym (c.place_of-place.ensures.place value)
    in
    subst IsInOrder (sym listed) (in_order-with c.args.name value (pairs before) c.self.invariant)

pub returns-clause-ok : goal.returns-clause-ok
returns-clause-ok c =
    let before = c.self.inside.bindings.items in
    let value = argument c.args.value in
    ap pairs c.in_ok-insert.ensures.items
    ∙ pairs_insert before c.place_of-place.result (record { name = c.args.name; value = c.args.value })
    ∙ sym (c.place_of-place.ensures.place value)
    ∙ ap (with_pair c.args.name value) c.self.view_is
