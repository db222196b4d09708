use Rattle.std.proofs.Common.{[], ◌∷◌, ◌++◌, take, sym, ap, ◌∙◌, append_assoc}
use Rattle.std.proofs.lemmas.List.{append-nil}
use Rattle.std.proofs.lemmas.Result.{IfOk-weaker}
use Rattle.au_types.specs.Views.{argument, argument_all, meaning}
use Rattle.au_types.proofs.TypeLemmas.{integer_means, named_means, region_argument_means, text_means}
use Rattle.au_types.proofs.TypeLemmas.{truth_means}
use Rattle.au_types.proofs.TypeLemmas.{unit_means}
use Rattle.au_caps_lists.specs.Mentions.{declared, mentions, mentions_in, mentions_in_all}
use Rattle.au_caps_lists.specs.Views.{mentions_said}
use Rattle.au_caps_lists.proofs.MentionLemmas.{in_integer, in_named, in_none, in_region, in_text, in_truth}
use Rattle.au_caps_lists.proofs.MentionLemmas.{in_unit}
use Rattle.au_caps_lists.proofs.MentionLemmas.{more_arguments, nothing_more}
use Rattle.au_caps_lists.proofs.mentions.+push_type.Goals as goal

pub push_arguments-loop-one-init : goal.push_arguments-loop-one-init
push_arguments-loop-one-init t c =
    let start = mentions_said c.args.made.now.items in
    sym (ap (λ r. start ++ r) in_none ∙ append-nil start)

pub push_arguments-loop-one-preserved : goal.push_arguments-loop-one-preserved
push_arguments-loop-one-preserved t c =
    let start = mentions_said c.args.made.now.items in
    let items = c.deref-one-items.result.now in
    let i = c.loop-one.one-index in
    let item = c.one-item.result in
    c.in_ok-push_argument.ensures
    ∙ ap (λ r. r ++ mentions_in (argument item)) c.loop-one.invariant
    ∙ append_assoc start (mentions_in_all (argument_all (take i items))) (mentions_in (argument item))
    ∙ ap (λ r. start ++ r) (sym (more_arguments items i item c.loop-one-test.true c.one-item.is))

pub push_argument-returns-in-In : goal.push_argument-returns-in-In
push_argument-returns-in-In t c =
    nothing_more _ _
    (ap (λ x. mentions_in (argument x)) c.in-In.is ∙ ap mentions_in (region_argument_means c.in-In.field-0)
    ∙ in_region c.in-In.field-0)

pub push_type-returns-in-Unit : goal.push_type-returns-in-Unit
push_type-returns-in-Unit t c =
    nothing_more _ _ (ap (λ x. mentions (meaning x)) c.in-Unit.is ∙ ap mentions unit_means ∙ in_unit)

pub push_type-returns-in-Bool : goal.push_type-returns-in-Bool
push_type-returns-in-Bool t c =
    nothing_more _ _ (ap (λ x. mentions (meaning x)) c.in-Bool.is ∙ ap mentions truth_means ∙ in_truth)

pub push_type-returns-in-Int : goal.push_type-returns-in-Int
push_type-returns-in-Int t c =
    nothing_more _ _
    (ap (λ x. mentions (meaning x)) c.in-Int.is ∙ ap mentions (integer_means c.in-Int.field-0)
    ∙ in_integer c.in-Int.field-0)

pub push_type-returns-in-Text : goal.push_type-returns-in-Text
push_type-returns-in-Text t c =
    nothing_more _ _ (ap (λ x. mentions (meaning x)) c.in-Text.is ∙ ap mentions text_means ∙ in_text)

pub push_type-returns-in_ok-push_one-in-Named : goal.push_type-returns-in_ok-push_one-in-Named
push_type-returns-in_ok-push_one-in-Named t c =
    let start = mentions_said c.args.made.now.items in
    let at = c.in-Named.of in
    let rest = mentions_in_all (argument_all c.in-Named.args.items) in
    let all =
    ap (λ x. mentions (meaning x)) c.in-Named.is ∙ ap mentions (named_means at c.in-Named.args)
    ∙ in_named at (argument_all c.in-Named.args.items) in
    IfOk-weaker c.push_arguments.result _ _
    (λ u more. more ∙ ap (λ l. l ++ rest) c.in_ok-push_one-in-Named.ensures
    ∙ append_assoc start (declared at ∷ []) rest ∙ ap (λ l. start ++ l) (sym all)) c.push_arguments.ensures
