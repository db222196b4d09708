use Rattle.au_laws.proofs.FunctionLemmas.{same_types}
use Rattle.au_laws.proofs.sort_laws.types_are_judged_alike.Goals as goal

pub returns : goal.returns
returns c program s generics h = same_types program s generics h
