use Rattle.au_lives.proofs.WholeLemmas.{trimmed_bad}
use Rattle.au_lives.proofs.laws.a_no_keeps_a_bad_path.Goals as goal

pub returns : goal.returns
returns c x sort b e k h = trimmed_bad x sort b e k h
