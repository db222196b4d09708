use Rattle.au_names.proofs.seeing.table_seen.Goals as goal

pub returns-in-Ok : goal.returns-in-Ok
returns-in-Ok c = λ m here. c.in-Ok.ensures m here
