use Rattle.au_parser.proofs.Places.{syntax_place, place_told}
use Rattle.au_parser.proofs.laws.faults_are_where_no_file_goes_on.Goals as goal

pub returns-clause-syntax : goal.returns-clause-syntax
returns-clause-syntax c = syntax_place

pub returns-clause-told : goal.returns-clause-told
returns-clause-told c = place_told
