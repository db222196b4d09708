use Rattle.au_outcomes.proofs.AcceptedLemmas.{accepted_behind, asked_comes, behind_accepted, comes_asked}
use Rattle.au_outcomes.proofs.LaidLemmas.{comes_laid, laid_asked, laid_comes}
use Rattle.au_outcomes.proofs.laws.accepted_files_come_to_what_is_asked.Goals as goal

pub returns : goal.returns
returns c = record {
  behind = λ aim files names arisen judged comes. (
    behind_accepted aim files names arisen comes,
    accepted_behind aim files names arisen comes judged,
  );
  asked = λ aim files names all reads arisen judged good. (
    comes_asked aim files names all reads arisen judged good,
    asked_comes aim files names all reads arisen judged good,
  );
  laid = λ files names text. (comes_laid files names text, laid_comes files names text);
  laid_only = laid_asked;
}
