use Rattle.std.proofs.Common.{arith, ◌≡◌, ◌+◌, [], List, drop, Some, None, Option, ap, sym, ◌∙◌}
use Rattle.std.specs.Prelude.{slice_get, unwrap_or}
use Rattle.std.specs.List.{flat_map}
use Rattle.std.specs.Option.{option_copied, option_map, option_or}
use Rattle.std.specs.Borrow.{Bor}
use Rattle.au_types.specs.declared.parameters.Parameter.{Parameter}
use Rattle.au_types.specs.declared.types.DeclAt.{DeclAt}
use Rattle.au_types.specs.Views.{argument, argument_all, meaning}
use Rattle.au_judged_types.specs.Bounds.{classes_of, parameters}
use Rattle.au_instances.specs.Pairs.{named_with, wanted}
use Rattle.au_instances.specs.Rows.{row_said}
use Rattle.au_instances.proofs.LackingLemmas.{class_left, constraints_by, led_all, none_there, parameter_left}
use Rattle.au_instances.proofs.LackingLemmas.{place_left}
use Rattle.au_instances.proofs.PairLemmas.{lacking_with}
use Rattle.au_instances.proofs.lacking.+lacking.Goals as goal
use Rattle.au_instances.proofs.lacking.+lacking.Goals.{lacking_at-else-index-names-via-then-index-names+else-is_called}
use Rattle.au_instances.proofs.lacking.+lacking.Goals.{lacking_at-else-index-names-via-else-index-names}
use Rattle.std.proofs.Common.{get_or, if◌then◌else◌}
use Rattle.std.proofs.lemmas.List.{get_or_default}
use Rattle.au_instances.proofs.SizeLemmas.{item_size, named_size, of_size}
use Rattle.au_instances.proofs.LackingLemmas.{args_past, at_left, names_past, no_arguments_of, nothing_known}
use Rattle.au_instances.specs.Forms.{arguments_of}
use Rattle.au_instances.specs.Views.{lacking_among, lacking_of}

pub lacking_from-returns-in-Some : goal.lacking_from-returns-in-Some
lacking_from-returns-in-Some t c =
    let sight = c.args.sight.now in
    let names = argument_all c.args.names.now in
    let args = argument_all c.args.args.now.items in
    let name = c.args.name.now in
    let classes = c.args.classes.now in
    let i = c.loop-class.class-index in
    let rest = led_all sight names args (named_with name (drop (i + 1) classes)) in
    sym (c.loop-class.invariant
    ∙ class_left sight names args name classes i (get_or classes i (record { «module» = 0; decl = 0 }))
    c.loop-class-test.true (get_or_default classes i (record { «module» = 0; decl = 0 })
    (get_or classes i (record { «module» = 0; decl = 0 })) c.loop-class-test.true)
    ∙ ap (λ o. option_or o rest) (sym c.lacking_at.ensures ∙ ap (option_map wanted) c.in-Some.is))

pub lacking_from-loop-class-preserved : goal.lacking_from-loop-class-preserved
lacking_from-loop-class-preserved t c =
    let sight = c.args.sight.now in
    let names = argument_all c.args.names.now in
    let args = argument_all c.args.args.now.items in
    let name = c.args.name.now in
    let classes = c.args.classes.now in
    let i = c.loop-class.class-index in
    let rest = led_all sight names args (named_with name (drop (i + 1) classes)) in
    c.loop-class.invariant
    ∙ class_left sight names args name classes i (get_or classes i (record { «module» = 0; decl = 0 }))
    c.loop-class-test.true (get_or_default classes i (record { «module» = 0; decl = 0 })
    (get_or classes i (record { «module» = 0; decl = 0 })) c.loop-class-test.true)
    ∙ ap (λ o. option_or o rest) (sym c.lacking_at.ensures ∙ ap (option_map wanted) c.in_default.is)

pub lacking_at-lacking_of-requires : goal.lacking_at-lacking_of-requires
lacking_at-lacking_of-requires t c =
    omega (
      arith,
      item_size c.args.args.now.items c.deref-one-items.result.now c.loop-index.index
          c.one-item.result c.deref-one-items.ensures.value c.loop-index-test.true c.one-item.is,
    )

pub lacking_below-lacking_among-requires : goal.lacking_below-lacking_among-requires
lacking_below-lacking_among-requires t c =
    omega (arith, named_size c.args.of.now c.in-Named.of c.in-Named.args c.in-Named.is)

pub lacking_of-lacking_in-requires : goal.lacking_of-lacking_in-requires
lacking_of-lacking_in-requires t c = omega (arith, of_size c.args.one.now c.in-Of.of c.in-Of.is)

pub lacking_at-loop-index-preserved : goal.lacking_at-loop-index-preserved
lacking_at-loop-index-preserved t c =
    let sight = c.args.sight.now in
    let name = c.args.name.now in
    let class = c.args.class in
    let names = c.args.names.now in
    let args = c.args.args.now.items in
    let items = c.deref-one-items.result.now in
    let i = c.loop-index.index in
    elim c.else-index-names.branch [
      | lacking_at-else-index-names-via-then-index-names+else-is_called w ↦
          c.loop-index.invariant
          ∙ place_left sight name class names args items i w.index-names-index.result c.one-item.result
          w.if-index-names.true w.index-names-index.is c.deref-one-items.ensures.value
          c.loop-index-test.true c.one-item.is
          ∙ ap (λ b. if b then lacking_of sight class (argument c.one-item.result) else at_left sight name
          class (drop (i + 1) names) (drop (i + 1) args)) (sym w.is_called.ensures ∙ w.if-is_called.false)
      | lacking_at-else-index-names-via-else-index-names w ↦
          c.loop-index.invariant
          ∙ names_past sight name class names (drop i args) i w.if-index-names.false
          ∙ sym (names_past sight name class names (drop (i + 1) args) (i + 1) (omega arith))
    ]

pub lacking_at-returns : goal.lacking_at-returns
lacking_at-returns t c =
    sym (c.loop-index.invariant
    ∙ args_past c.args.sight.now c.args.name.now c.args.class c.args.names.now c.args.args.now.items
    c.deref-one-items.result.now c.loop-index.index c.deref-one-items.ensures.value c.loop-index-test.false)

pub lacking_below-returns-in_default : goal.lacking_below-returns-in_default
lacking_below-returns-in_default t c =
    let names = arguments_of (meaning c.args.row.now.head) in
    sym (ap (lacking_among c.args.sight.now c.args.row.now.generics names)
    (no_arguments_of c.args.of.now c.in_default.not-Named) ∙ nothing_known c.args.sight.now names
    c.args.row.now.generics)

pub lacking_in-returns-in-Some : goal.lacking_in-returns-in-Some
lacking_in-returns-in-Some t c =
    let sight = c.args.sight.now in
    c.lacking_below.ensures
    ∙ sym (lacking_with sight.instances.now sight.heads.now sight.scope.now sight.known.now c.args.class
    (meaning c.args.of.now) (row_said c.in-Some.row.now) (sym c.in-Some.ensures))

pub lacking_in-returns-in-None : goal.lacking_in-returns-in-None
lacking_in-returns-in-None t c = none_there c.args.sight.now c.args.class c.args.of.now c.in_default.not-Param
    c.in-None.ensures

-- the type parameter in this place, and those behind it
pub lacking_among-returns-in-Some-lacking_from : goal.lacking_among-returns-in-Some-lacking_from
lacking_among-returns-in-Some-lacking_from t c =
    let sight = c.args.sight.now in
    let generics = c.args.row.now.generics in
    let names = argument_all c.arguments_of-names.result.now in
    let args = argument_all c.args.args.now.items in
    let i = c.loop-index.index in
    let p = c.at.result.now in
    let here : slice_get (parameters generics) i ≡ Some p =
    sym (ap (λ (ps : List Parameter). slice_get ps i) c.params.ensures) ∙ c.at.ensures in
    let known : classes_of generics p.name ≡ Some c.in-Some.classes.now = sym c.classes_of.ensures
    ∙ ap (λ (o : Option (Bor (List DeclAt))). option_copied o) c.in-Some.is in
    let rest = led_all sight names args (flat_map (constraints_by sight names args generics) (drop (i + 1) generics)) in
    sym (ap (λ ns. lacking_among sight generics ns args) (sym c.arguments_of-names.ensures)
    ∙ c.loop-index.invariant
    ∙ parameter_left sight names args generics generics i p here
    ∙ ap (λ (o : Option (List DeclAt)). option_or
    (led_all sight names args (named_with p.name (unwrap_or o []))) rest) known
    ∙ ap (λ o. option_or o rest) (sym c.lacking_from.ensures ∙ ap (option_map wanted) c.in-Some-lacking_from.is))

pub lacking_among-loop-index-preserved : goal.lacking_among-loop-index-preserved
lacking_among-loop-index-preserved t c =
    let sight = c.args.sight.now in
    let generics = c.args.row.now.generics in
    let names = argument_all c.arguments_of-names.result.now in
    let args = argument_all c.args.args.now.items in
    let i = c.loop-index.index in
    let p = c.at.result.now in
    let here : slice_get (parameters generics) i ≡ Some p =
    sym (ap (λ (ps : List Parameter). slice_get ps i) c.params.ensures) ∙ c.at.ensures in
    let known : classes_of generics p.name ≡ Some c.in-Some.classes.now = sym c.classes_of.ensures
    ∙ ap (λ (o : Option (Bor (List DeclAt))). option_copied o) c.in-Some.is in
    let rest = led_all sight names args (flat_map (constraints_by sight names args generics) (drop (i + 1) generics)) in
    c.loop-index.invariant
    ∙ parameter_left sight names args generics generics i p here
    ∙ ap (λ (o : Option (List DeclAt)). option_or
    (led_all sight names args (named_with p.name (unwrap_or o []))) rest) known
    ∙ ap (λ o. option_or o rest) (sym c.lacking_from.ensures ∙ ap (option_map wanted) c.in_default-lacking_from.is)

pub lacking_among-loop-index-preserved-in_default : goal.lacking_among-loop-index-preserved-in_default
lacking_among-loop-index-preserved-in_default t c =
    let sight = c.args.sight.now in
    let generics = c.args.row.now.generics in
    let names = argument_all c.arguments_of-names.result.now in
    let args = argument_all c.args.args.now.items in
    let i = c.loop-index.index in
    let p = c.at.result.now in
    let here : slice_get (parameters generics) i ≡ Some p =
    sym (ap (λ (ps : List Parameter). slice_get ps i) c.params.ensures) ∙ c.at.ensures in
    let known : classes_of generics p.name ≡ None = sym c.classes_of.ensures
    ∙ ap (λ (o : Option (Bor (List DeclAt))). option_copied o) c.in_default.is in
    let rest = led_all sight names args (flat_map (constraints_by sight names args generics) (drop (i + 1) generics)) in
    c.loop-index.invariant
    ∙ parameter_left sight names args generics generics i p here
    ∙ ap (λ (o : Option (List DeclAt)). option_or
    (led_all sight names args (named_with p.name (unwrap_or o []))) rest) known
