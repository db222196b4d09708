use Rattle.std.proofs.Common.{arith}
use Rattle.std.proofs.lemmas.Grind.{common_steps}
use Rattle.au_lowering_statements.specs.Views.{starts_said}
use Rattle.au_lowering_statements.proofs.CaseLemmas.{labels_step}
use Rattle.au_lowering_statements.proofs.arms.labels_of.Goals as goal

pub loop-tag-preserved : goal.loop-tag-preserved
loop-tag-preserved c =
    labels_step c.loop-tag.tag c.start_of.result (starts_said c.args.starts.now.items) c.loop-tag.labels.items
    c.push.new.self.items c.loop-tag.invariant c.start_of.ensures (grind (arith, common_steps))
