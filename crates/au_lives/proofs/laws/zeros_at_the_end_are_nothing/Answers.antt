use Rattle.std.proofs.Common.{[]}
use Rattle.au_lives.specs.Trimming.{without_zeros}
use Rattle.au_lives.proofs.TrimLemmas.{same_block, alike_trimmed}
use Rattle.au_lives.proofs.laws.zeros_at_the_end_are_nothing.Goals as goal

pub returns-clause-steps : goal.returns-clause-steps
returns-clause-steps c b choices = (same_block b [] (without_zeros choices) choices (alike_trimmed choices)).steps

pub returns-clause-taken : goal.returns-clause-taken
returns-clause-taken c b choices = (same_block b [] (without_zeros choices) choices (alike_trimmed choices)).taken
