use Rattle.std.proofs.Common.{◌+◌, [], ◌∷◌, get_or, refl, sym, take}
use Rattle.std.proofs.lemmas.List.{get_or_default}
use Rattle.au_types.specs.declared.types.DeclAt.{DeclAt}
use Rattle.au_caps.specs.Calls.{a_class, an_instance}
use Rattle.au_caps.specs.Webs.{Node, a_callee, constraint_arcs}
use Rattle.au_caps_lists.proofs.LoopLemmas.{mapped_more}
use Rattle.au_caps.proofs.GrowLemmas.{grows_as, grows_none, grows_then}
use Rattle.au_caps.proofs.edges.add_constraints.Goals as goal

pub loop-other-init : goal.loop-other-init
loop-other-init c =
    grows_none c.args.web.now

pub loop-other-preserved : goal.loop-other-preserved
loop-other-preserved c =
    let class = c.args.class in
    let one = c.args.one in
    let others = c.args.others.now in
    let i = c.loop-other.other-index in
    let none : DeclAt = record { «module» = 0; decl = 0 } in
    let other = get_or others i none in
    let arc : DeclAt → Node × Node = λ d. (a_callee (an_instance class one), a_callee (a_class d)) in
    grows_as _ (constraint_arcs class one (take (i + 1) others)) [] [] _ _
    (sym (mapped_more others i other c.loop-other-test.true
    (get_or_default others i none other c.loop-other-test.true) arc)) refl
    (grows_then (constraint_arcs class one (take i others)) (arc other ∷ []) [] [] _ _ _
    c.loop-other.invariant
    c.in_ok-add_constraint.ensures)
