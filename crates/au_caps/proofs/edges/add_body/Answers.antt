use Rattle.std.proofs.Common.{[], ◌++◌, ap, subst, sym}
use Rattle.std.specs.List.{flat_map}
use Rattle.std.specs.Prelude.{◌<◌}
use Rattle.au_modules.specs.Slots as slots
use Rattle.au_types.specs.WrittenViews.{sense_in}
use Rattle.au_caps_lists.specs.Views.{body_said}
use Rattle.au_caps.specs.Webs.{birth_pairs, call_arcs, owner_arcs}
use Rattle.au_caps_lists.proofs.ListedLemmas.{sense_same}
use Rattle.au_caps.proofs.GrowLemmas.{grows_as, grows_then}
use Rattle.au_caps.proofs.edges.add_body.Goals as goal

pub add_callees-requires : goal.add_callees-requires
add_callees-requires c =
    subst (λ n. c.args.own < n) (sym c.in_ok-add_owner.ensures.count) c.requires.own

pub returns : goal.returns
returns c =
    let program = slots.modules c.args.program.now in
    let own = c.args.own in
    let b = body_said c.args.body.now in
    let sense = sense_in c.scope_of-scope.result in
    let is_sense = sense_same program b c.args.params.now sense c.requires.params c.scope_of-scope.ensures in
    grows_as _ _ _ _ _ _
    (λ i. owner_arcs (is_sense i) own b b.home ++ flat_map (call_arcs own) (c.in_ok-called.ensures i))
    (ap (flat_map (birth_pairs c.args.reaching.now own)) c.in_ok-called.ensures)
    (grows_then _ _ [] _ _ _ _ c.in_ok-add_owner.ensures c.in_ok-add_callees.ensures)
