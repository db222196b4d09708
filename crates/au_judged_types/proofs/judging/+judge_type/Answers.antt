use Rattle.std.proofs.Common.{◌≡◌, IfOk, List, map, drop, ◌+◌, ap, subst, sym, ◌∙◌}
use Rattle.au_types.specs.declared.types.Arg.{Arg}
use Rattle.au_types.specs.Types as mean
use Rattle.au_types.specs.Views.{argument, argument_all, meaning}
use Rattle.au_types.proofs.MeantLemmas.{joined}
use Rattle.au_judged_types.specs.Judging.{arguments_judged}
use Rattle.au_judged_types.specs.Reasons.{kept, in_order}
use Rattle.au_judged_types.specs.Views.{given_in, outcome}
use Rattle.au_judged_types.proofs.JudgedLemmas.{finished, joined_more, joined_start, reference_is, stand_for, taken}
use Rattle.au_judged_types.proofs.judging.+judge_type.Goals as goal

pub judge_arguments-loop-index-init : goal.judge_arguments-loop-index-init
judge_arguments-loop-index-init t c =
    let all = arguments_judged c.args.expected.now (map (given_in c.args.scope.now) c.args.args.now.items) in
    record {
      lengths = c.requires;
      rest = sym (ap (λ found. kept (joined (argument_all found)) all) c.new-found.ensures.items ∙ joined_start all);
    }

pub judge_arguments-returns-in-Fails : goal.judge_arguments-returns-in-Fails
judge_arguments-returns-in-Fails t c =
    let f = given_in c.args.scope.now in
    let expected = c.args.expected.now in
    let args = c.args.args.now.items in
    let i = c.loop-index.index in
    let before = argument_all c.loop-index.found.items in
    let rest = arguments_judged (drop (i + 1) expected) (map f (drop (i + 1) args)) in
    sym (taken f expected args c.deref-one-items.result.now i c.at.result.now c.one-item.result before
    (outcome argument c.in_ok-arg.field-0)
    c.loop-index.invariant.rest c.at.ensures c.deref-one-items.ensures.value c.loop-index-test.true
    c.one-item.is c.in_ok-arg.ensures
    ∙ ap (λ o. kept (joined before) (in_order mean.arguments (outcome argument o) rest)) c.in-Fails.is)

pub judge_arguments-loop-index-preserved : goal.judge_arguments-loop-index-preserved
judge_arguments-loop-index-preserved t c =
    let f = given_in c.args.scope.now in
    let expected = c.args.expected.now in
    let args = c.args.args.now.items in
    let i = c.loop-index.index in
    let found = c.loop-index.found.items in
    let rest = arguments_judged (drop (i + 1) expected) (map f (drop (i + 1) args)) in
    record {
      lengths = c.loop-index.invariant.lengths;
      rest =
          taken f expected args c.deref-one-items.result.now i c.at.result.now c.one-item.result
          (argument_all found) (outcome argument c.in_ok-arg.field-0)
          c.loop-index.invariant.rest c.at.ensures c.deref-one-items.ensures.value c.loop-index-test.true
          c.one-item.is c.in_ok-arg.ensures
          ∙ ap (λ o. kept (joined (argument_all found)) (in_order mean.arguments (outcome argument o) rest))
          c.in-Means.is
          ∙ joined_more found c.in-Means.arg rest
          ∙ ap (λ xs. kept (joined (argument_all xs)) rest) (sym {A = List Arg} c.in_ok-push-in-Means.ensures.items);
    }

pub judge_arguments-returns : goal.judge_arguments-returns
judge_arguments-returns t c =
    finished (given_in c.args.scope.now) c.args.expected.now c.args.args.now.items
    c.deref-one-items.result.now c.loop-index.index (argument_all c.loop-index.found.items)
    c.loop-index.invariant.lengths c.loop-index.invariant.rest c.deref-one-items.ensures.value c.loop-index-test.false

pub judge_declared-fitted-requires : goal.judge_declared-fitted-requires
judge_declared-fitted-requires t c =
    let scope = c.args.scope.now in
    let args = c.args.args.now in
    stand_for scope.regions.now scope.params.now scope.names.now scope.heads.now c.args.expected.now
    args.items (argument_all c.in-Means.args.items)
    (sym args.ok.0 ∙ sym c.len.ensures ∙ c.if-len.false ∙ c.len-2.ensures)
    (ap (outcome (λ all. argument_all all.items)) (sym c.in-Means.is) ∙ c.in_ok-args.ensures)

pub judge_type-returns-in-Means : goal.judge_type-returns-in-Means
judge_type-returns-in-Means t c =
    let scope = c.args.scope.now in
    subst (λ judged. IfOk c.judge_reference.result (λ found. outcome meaning found ≡ judged))
    (reference_is scope.regions.now scope.params.now scope.names.now scope.heads.now c.args.node.now
    c.in-Reference.field-0 c.in-Reference.access c.in-Reference.target c.deref.result.now
    c.in-Reference.region
    (meaning c.in-Means.to) c.in-Reference.is c.deref.ensures
    (ap (outcome meaning) (sym c.in-Means.is) ∙ c.in_ok-to-in-Reference.ensures))
    c.judge_reference.ensures
