use Rattle.au_parser.proofs.SameWords.{of_file}
use Rattle.au_parser.proofs.Certain.{files_agree}
use Rattle.au_parser.proofs.laws.words_measure_as_they_come.Goals as goal

pub returns-clause-words : goal.returns-clause-words
returns-clause-words c = of_file

pub returns-clause-behind : goal.returns-clause-behind
returns-clause-behind c = files_agree
