use Rattle.au_names.specs.Methods.{methods_in}
use Rattle.au_names.specs.Walks.{written}
use Rattle.au_names.proofs.MethodLemmas.{methods_none}
use Rattle.au_names.proofs.methods.put_those_of.Goals as goal

pub returns-in-None : goal.returns-in-None
returns-in-None c = methods_none c.args.table.now (methods_in (written c.args.decl.now)) c.in-None.ensures
