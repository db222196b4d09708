use Rattle.std.proofs.lemmas.List.{map-set}
use Rattle.au_lowering_expressions.specs.Views.{draft_said}
use Rattle.au_lowering_expressions.proofs.drafts.patch.Goals as goal

pub returns-then-at-len : goal.returns-then-at-len
returns-then-at-len c = map-set draft_said c.args.out.now.items c.args.at _
