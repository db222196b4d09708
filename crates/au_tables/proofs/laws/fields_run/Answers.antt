use Rattle.au_tables.proofs.RunLemmas.{fields_running}
use Rattle.au_tables.proofs.laws.fields_run.Goals as goal

pub returns : goal.returns
returns c = λ program fit params s z at args tag of good well e.
    fields_running program s z fit params at args tag of good well e
