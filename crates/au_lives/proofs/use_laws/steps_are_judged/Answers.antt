use Rattle.au_lives.proofs.UseJudgingLemmas.{judged}
use Rattle.au_lives.proofs.use_laws.steps_are_judged.Goals as goal

pub returns : goal.returns
returns c h k spent = judged h k spent
