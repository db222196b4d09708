use Rattle.std.proofs.Common.{◌++◌, ◌∷◌, [], sym, ap, ◌∙◌, append_assoc, arith, take}
use Rattle.std.proofs.lemmas.List.{append-nil, map_push}
use Rattle.au_names.specs.Walks.{written, written_all}
use Rattle.au_formed.specs.Said.{spot_said, spots_said}
use Rattle.au_formed.specs.Text.{spots_from}
use Rattle.au_formed.proofs.TextLemmas.{spot, spots_more, spots_none}
use Rattle.au_formed.proofs.texts.push_declarations.Goals as goal

pub loop-decl-init : goal.loop-decl-init
loop-decl-init c =
    let old = spots_said c.args.list.now.items in
    record {
      number = omega arith;
      spots = sym (ap (λ r. old ++ r) (spots_none c.args.place c.args.part c.args.first) ∙ append-nil old);
    }

pub loop-decl-preserved : goal.loop-decl-preserved
loop-decl-preserved c =
    let old = spots_said c.args.list.now.items in
    let items = c.deref-decl-items.result.now in
    let i = c.loop-decl.decl-index in
    let place = c.args.place in
    let part = c.args.part in
    let first = c.args.first in
    let so_far = spots_from place part first (written_all (take i items)) in
    let d = written c.decl-item.result in
    record {
      number = omega arith;
      spots =
          ap spots_said c.in_ok-push.ensures.items
          ∙ map_push spot_said c.loop-decl.list.items _
          ∙ ap (λ l. l ++ spot place part c.loop-decl.number d ∷ []) c.loop-decl.invariant.spots
          ∙ append_assoc old so_far (spot place part c.loop-decl.number d ∷ [])
          ∙ ap (λ n. old ++ (so_far ++ spot place part n d ∷ [])) c.loop-decl.invariant.number
          ∙ ap (λ l. old ++ l)
          (sym (spots_more place part first items i c.decl-item.result c.loop-decl-test.true c.decl-item.is));
    }
