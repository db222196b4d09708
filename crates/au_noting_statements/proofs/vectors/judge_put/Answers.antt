use Rattle.au_noting_statements.proofs.vectors.judge_put.Goals as goal

pub returns : goal.returns
returns c = rw (← c.as_slice.ensures.value) c.judge_put.ensures
