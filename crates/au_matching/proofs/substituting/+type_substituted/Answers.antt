use Rattle.std.proofs.Common.{ap, ◌∙◌}
use Rattle.au_types.specs.Views.{argument_all}
use Rattle.au_matching.proofs.SubstitutedLemmas.{all_substituted_more}
use Rattle.au_matching.proofs.substituting.+type_substituted.Goals as goal

pub arguments_substituted-loop-one-preserved : goal.arguments_substituted-loop-one-preserved
arguments_substituted-loop-one-preserved t c =
    ap argument_all c.in_ok-push.ensures.items
    ∙ all_substituted_more c.args.s.now c.deref-one-items.result.now c.loop-one.outcome.items
    c.loop-one.one-index c.one-item.result c.in_ok-given.given
    c.loop-one-test.true c.one-item.is c.in_ok-given.ensures c.loop-one.invariant
