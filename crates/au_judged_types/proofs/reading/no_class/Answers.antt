use Rattle.std.proofs.Common.{ℕ, List, ◌+◌, drop, refl, sym, ap, ◌∙◌}
use Rattle.std.specs.Option.{option_or}
use Rattle.au_syntax.specs.declared.names.Ident.{Ident}
use Rattle.au_syntax.specs.declared.parsed.Parsed.{Parsed}
use Rattle.au_judged_types.specs.Meanings.{name_misfit, no_class}
use Rattle.au_judged_types.specs.GenericViews.{class_within, name_said, names_said}
use Rattle.au_judged_types.proofs.MeaningLemmas.{found_from, none_of}
use Rattle.au_judged_types.proofs.reading.no_class.Goals as goal

pub returns-in-Some : goal.returns-in-Some
returns-in-Some c =
    let class_of = class_within c.args.scope.now in
    let items = c.deref-one-items.result.now in
    let first = λ (xs : List (Ident Parsed (List ℕ) (Unit {0}) (Unit {0}))). no_class class_of (names_said xs) in
    sym (found_from first (λ one. name_misfit class_of (name_said one)) (λ x rest. refl)
    c.args.names.now.items items c.loop-one.one-index c.one-item.result c.name_misfit.result
    c.loop-one.invariant c.deref-one-items.ensures.value c.loop-one-test.true c.one-item.is c.name_misfit.ensures
    ∙ ap (λ o. option_or o (first (drop (c.loop-one.one-index + 1) items))) c.in-Some.is)

pub loop-one-preserved : goal.loop-one-preserved
loop-one-preserved c =
    let class_of = class_within c.args.scope.now in
    let items = c.deref-one-items.result.now in
    let first = λ (xs : List (Ident Parsed (List ℕ) (Unit {0}) (Unit {0}))). no_class class_of (names_said xs) in
    found_from first (λ one. name_misfit class_of (name_said one)) (λ x rest. refl) items items
    c.loop-one.one-index c.one-item.result c.name_misfit.result
    c.loop-one.invariant refl c.loop-one-test.true c.one-item.is c.name_misfit.ensures
    ∙ ap (λ o. option_or o (first (drop (c.loop-one.one-index + 1) items)))
    (none_of c.name_misfit.result c.in_default.not-Some)
