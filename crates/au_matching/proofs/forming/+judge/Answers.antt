use Rattle.std.proofs.Common.{drop, ◌+◌, Some, ap, sym, ◌∙◌}
use Rattle.au_types.specs.Views.{argument_all}
use Rattle.au_matching.specs.Fits.{asked, formed_arguments}
use Rattle.au_matching.proofs.FormedLemmas.{beside, beside_more, beside_start, finished_formed, taken_formed}
use Rattle.au_matching.proofs.FormedLemmas.{unequal_formed}
use Rattle.au_matching.proofs.forming.+judge.Goals as goal

pub judge_arguments-returns-then-len : goal.judge_arguments-returns-then-len
judge_arguments-returns-then-len t c =
    let args = c.args.args.now in
    sym (unequal_formed (asked c.args.fit c.args.heads.now c.args.scope.now) c.args.heads.now c.args.scope.now
    c.args.expected.now args.items
    (λ e. c.if-len.true (c.len.ensures ∙ args.ok.0 ∙ e ∙ sym c.len-2.ensures)))

pub judge_arguments-loop-index-init : goal.judge_arguments-loop-index-init
judge_arguments-loop-index-init t c =
    let args = c.args.args.now in
    record {
      lengths = sym args.ok.0 ∙ sym c.len.ensures ∙ c.if-len.false ∙ c.len-2.ensures;
      rest = beside_start (formed_arguments (asked c.args.fit c.args.heads.now c.args.scope.now)
          c.args.heads.now c.args.scope.now c.args.expected.now (argument_all args.items));
    }

pub judge_arguments-returns-in-None : goal.judge_arguments-returns-in-None
judge_arguments-returns-in-None t c =
    let test = asked c.args.fit c.args.heads.now c.args.scope.now in
    let rows = c.args.heads.now in
    let params = c.args.scope.now in
    let expected = c.args.expected.now in
    let args = c.args.args.now.items in
    let i = c.loop-index.index in
    let rest = formed_arguments test rows params (drop (i + 1) expected) (argument_all (drop (i + 1) args)) in
    sym (taken_formed test rows params expected args c.deref-one-items.result.now i c.at.result.now
    c.one-item.result c.loop-index.so_far c.judge_argument.result
    c.loop-index.invariant.rest c.at.ensures c.deref-one-items.ensures.value c.loop-index-test.true
    c.one-item.is c.judge_argument.ensures
    ∙ ap (λ o. beside (Some c.loop-index.so_far) (beside o rest)) c.in-None.is)

pub judge_arguments-loop-index-preserved : goal.judge_arguments-loop-index-preserved
judge_arguments-loop-index-preserved t c =
    let test = asked c.args.fit c.args.heads.now c.args.scope.now in
    let rows = c.args.heads.now in
    let params = c.args.scope.now in
    let expected = c.args.expected.now in
    let args = c.args.args.now.items in
    let i = c.loop-index.index in
    let rest = formed_arguments test rows params (drop (i + 1) expected) (argument_all (drop (i + 1) args)) in
    record {
      lengths = c.loop-index.invariant.lengths;
      rest =
          taken_formed test rows params expected args c.deref-one-items.result.now i c.at.result.now
          c.one-item.result c.loop-index.so_far c.judge_argument.result
          c.loop-index.invariant.rest c.at.ensures c.deref-one-items.ensures.value c.loop-index-test.true
          c.one-item.is c.judge_argument.ensures
          ∙ ap (λ o. beside (Some c.loop-index.so_far) (beside o rest)) c.in-Some.is
          ∙ beside_more c.loop-index.so_far c.in-Some.found rest
          ∙ ap (λ one. beside (Some one) rest) (sym c.joined-so_far.ensures);
    }

pub judge_arguments-returns : goal.judge_arguments-returns
judge_arguments-returns t c =
    finished_formed (asked c.args.fit c.args.heads.now c.args.scope.now) c.args.heads.now c.args.scope.now
    c.args.expected.now c.args.args.now.items c.deref-one-items.result.now c.loop-index.index
    c.loop-index.so_far
    c.loop-index.invariant.lengths c.loop-index.invariant.rest c.deref-one-items.ensures.value c.loop-index-test.false
