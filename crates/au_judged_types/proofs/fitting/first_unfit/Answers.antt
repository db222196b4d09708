use Rattle.std.proofs.Common.{drop, ◌+◌, ap, refl, sym, ◌∙◌}
use Rattle.std.specs.Option.{option_map, option_or}
use Rattle.au_types.specs.Views.{argument_all}
use Rattle.au_judged_types.specs.Judging.{first_unfit}
use Rattle.au_judged_types.specs.Views.{reason}
use Rattle.au_judged_types.proofs.FittingLemmas.{none_unfit, stand_lengths, step_parts, step_unfit}
use Rattle.au_judged_types.proofs.fitting.first_unfit.Goals as goal

pub loop-index-init : goal.loop-index-init
loop-index-init c =
    let scope = c.args.scope.now in
    record {
      lengths = stand_lengths scope.heads.now scope.params.now c.args.expected.now c.args.args.now.items c.requires;
      stand = c.requires;
      rest = refl;
    }

pub unfit-requires : goal.unfit-requires
unfit-requires c =
    let scope = c.args.scope.now in
    (step_parts scope.heads.now scope.params.now c.args.expected.now c.args.args.now.items
    c.deref-one-items.result.now c.loop-index.index c.at.result.now c.one-item.result
    c.loop-index.invariant.stand c.at.ensures c.deref-one-items.ensures.value c.loop-index-test.true c.one-item.is).0

pub returns-in-Some : goal.returns-in-Some
returns-in-Some c =
    let scope = c.args.scope.now in
    let expected = c.args.expected.now in
    let args = c.args.args.now.items in
    let i = c.loop-index.index in
    let rest = first_unfit scope.heads.now scope.params.now (drop (i + 1) expected)
    (argument_all (drop (i + 1) args)) in
    sym (step_unfit scope.heads.now scope.params.now expected args c.deref-one-items.result.now i
    c.at.result.now c.one-item.result (option_map reason c.in_ok-why.field-0)
    c.loop-index.invariant.rest c.at.ensures c.deref-one-items.ensures.value c.loop-index-test.true
    c.one-item.is c.in_ok-why.ensures
    ∙ ap (λ o. option_or (option_map reason o) rest) c.in-Some.is)

pub loop-index-preserved : goal.loop-index-preserved
loop-index-preserved c =
    let scope = c.args.scope.now in
    let expected = c.args.expected.now in
    let args = c.args.args.now.items in
    let i = c.loop-index.index in
    let rest = first_unfit scope.heads.now scope.params.now (drop (i + 1) expected)
    (argument_all (drop (i + 1) args)) in
    record {
      lengths = c.loop-index.invariant.lengths;
      stand =
          (step_parts scope.heads.now scope.params.now expected args c.deref-one-items.result.now i
          c.at.result.now c.one-item.result
          c.loop-index.invariant.stand c.at.ensures c.deref-one-items.ensures.value c.loop-index-test.true
          c.one-item.is).1;
      rest =
          step_unfit scope.heads.now scope.params.now expected args c.deref-one-items.result.now i
          c.at.result.now c.one-item.result (option_map reason c.in_ok-why.field-0)
          c.loop-index.invariant.rest c.at.ensures c.deref-one-items.ensures.value c.loop-index-test.true
          c.one-item.is c.in_ok-why.ensures
          ∙ ap (λ o. option_or (option_map reason o) rest) c.in-None.is;
    }

pub returns : goal.returns
returns c =
    let scope = c.args.scope.now in
    none_unfit scope.heads.now scope.params.now c.args.expected.now c.args.args.now.items
    c.deref-one-items.result.now c.loop-index.index
    c.loop-index.invariant.rest c.deref-one-items.ensures.value c.loop-index-test.false
