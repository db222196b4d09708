use Rattle.au_names.specs.Sources.{modules_of}
use Rattle.au_names.proofs.AlongLemmas.{along_none}
use Rattle.au_names.proofs.imports.put_imports.Goals as goal

pub put_each-requires-clause-done : goal.put_each-requires-clause-done
put_each-requires-clause-done c =
    along_none (modules_of c.args.source.now) c.new-done.result c.args.table.now c.new-done.ensures
