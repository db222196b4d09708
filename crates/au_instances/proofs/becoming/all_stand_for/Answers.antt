use Rattle.std.proofs.Common.{◌≡◌, ◌<◌, ◌+◌, ◌&&◌, List, length, drop, Some, ap, refl, subst, sym, ◌∙◌}
use Rattle.std.specs.Prelude.{slice_get}
use Rattle.std.proofs.lemmas.Option.{slice_get_read}
use Rattle.au_types.specs.declared.types.Arg.{Arg}
use Rattle.au_types.specs.Views.{argument, argument_all}
use Rattle.au_instances.specs.Becoming.{all_stand_for, stands_for}
use Rattle.au_instances.specs.Forms.{name_of}
use Rattle.au_instances.proofs.WalkLemmas.{zip_step, zip_unequal}
use Rattle.au_instances.proofs.becoming.all_stand_for.Goals as goal

pub returns-then-len : goal.returns-then-len
returns-then-len c =
    let names = c.args.names.now in
    let args = c.args.args.now in
    let heads = c.args.heads.now in
    let scope = c.args.scope.now in
    let params = c.args.params.now in
    sym (zip_unequal (λ (ns xs : List Arg). all_stand_for heads scope params (argument_all ns)
    (argument_all xs)) (λ (n x : Arg). stands_for heads scope params (name_of (argument n)) (argument x))
    (λ x xs y ys. refl)
    (λ y ys. refl) (λ x xs. refl) names.items args.items
    (λ e. c.if-len.true (c.len.ensures ∙ names.ok.0 ∙ e ∙ sym args.ok.0 ∙ sym c.len-2.ensures)))

pub loop-index-preserved : goal.loop-index-preserved
loop-index-preserved c =
    let names = c.args.names.now.items in
    let args = c.args.args.now.items in
    let items = c.deref-one-items.result.now in
    let heads = c.args.heads.now in
    let scope = c.args.scope.now in
    let params = c.args.params.now in
    let i = c.loop-index.index in
    let inside : i < length names = subst (λ n. i < n) (sym c.loop-index.invariant.lengths)
    (subst (λ xs. i < length xs) c.deref-one-items.ensures.value c.loop-index-test.true) in
    let here : slice_get names i ≡ Some c.index.result.now = slice_get_read names (length names) i
    c.index.result.now refl inside c.index.ensures in
    record {
      lengths = c.loop-index.invariant.lengths;
      rest =
          zip_step (λ (ns xs : List Arg). all_stand_for heads scope params (argument_all ns)
          (argument_all xs)) (λ (n x : Arg). stands_for heads scope params (name_of (argument n))
          (argument x)) (λ x xs y ys. refl)
          names args items i c.index.result.now c.one-item.result c.loop-index.invariant.rest here
          c.deref-one-items.ensures.value c.loop-index-test.true c.one-item.is
          ∙ ap (λ b. b && all_stand_for heads scope params (argument_all (drop (i + 1) names))
          (argument_all (drop (i + 1) args))) (sym c.stands_for.ensures ∙ c.if-not-stands_for.false);
    }
