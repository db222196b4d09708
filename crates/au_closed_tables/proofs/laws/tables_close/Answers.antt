use Rattle.std.specs.Prelude.{[]}
use Rattle.au_instances.proofs.ClosedLemmas.{universe_closed}
use Rattle.au_names.specs.HeadsOf.{heads_of}
use Rattle.au_closed_tables.proofs.CloseLemmas.{fields_closed}
use Rattle.au_closed_tables.proofs.laws.tables_close.Goals as goal

pub returns-clause-fields : goal.returns-clause-fields
returns-clause-fields c = λ program fit t closed_type tag of e f. fields_closed program fit t closed_type tag of e f

pub returns-clause-universes : goal.returns-clause-universes
returns-clause-universes c = λ program t closed_type e. universe_closed (heads_of program) [] t closed_type e
