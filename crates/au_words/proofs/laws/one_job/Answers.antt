use Rattle.au_words.proofs.JobLemmas.{one_job}
use Rattle.au_words.proofs.laws.one_job.Goals as goal

pub returns : goal.returns
returns c = one_job
