use Rattle.std.proofs.Common.{arith}
use Rattle.au_types.proofs.TableLemmas.{with_all-none}
use Rattle.au_names.proofs.imports.put_imported.Goals as goal

pub returns-in-None : goal.returns-in-None
returns-in-None c = grind (arith, with_all-none)
