use Rattle.au_noting_statements.proofs.vectors.judge_binds.Goals as goal

pub returns : goal.returns
returns c = rw (← c.as_slice.ensures.value, ← c.as_slice-2.ensures.value) c.judge_binds.ensures
