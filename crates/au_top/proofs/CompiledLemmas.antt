-- What is answered of the code of a program, and paid for it.
use Rattle.std.proofs.Common.{◌≡◌, false, List, Result, Ok, Err, subst}
use Rattle.au_base.specs.declared.names.Entry.{Entry}
use Rattle.au_base.specs.declared.statuses.Status.{Status}
use Rattle.au_typing.specs.Trees.{NotedParts}
use Rattle.au_outcomes.specs.NotingPrograms.Faults.{IsDerived}
use Rattle.au_running.specs.Answers.{ClosesWithin}
use Rattle.au_running.specs.Programs.{ClosedProgram}
use Rattle.au_low.specs.declared.code.Code.{Code}
use Rattle.au_running.specs.Closed.{is_too_long}
use Rattle.au_running.specs.Coded.{IsProgramCode, TellsNoLimit}
use Rattle.au_running.specs.declared.coding.Uncoded.{Uncoded}
use Rattle.au_top.specs.Ends.{PaysFor, TextAnswers}
use Rattle.au_top.specs.Runs.{Run, entry_of}
use Rattle.au_top.specs.Streams.{Streams}
use Rattle.au_top.specs.Texts.{IsCoded, coded_due}
use Rattle.au_top.specs.declared.saying.AnswerFault.{AnswerFault}
use Rattle.au_top.specs.declared.saying.AnswerFault.TheVariants as answer
use Rattle.au_top.proofs.RunLemmas.{from_entry}

module _ (run : Run) where
  -- no limit is told from an entry where none is passed
  ExactFrom : Result Code Uncoded → Entry → Type 0
  ExactFrom answered entry =
      (noted : List NotedParts) (c : ClosedProgram) → IsDerived run.program noted
      → ClosesWithin run.program noted entry.«module» entry.function c
      → is_too_long c ≡ false → TellsNoLimit answered

  -- what is answered of the code from an entry is answered of the run, if it is its entry
  pub is_coded : (entry : Entry) (answered : Result Code Uncoded) → entry ≡ entry_of run
      → ((noted : List NotedParts) × IsDerived run.program noted
      × IsProgramCode run.program noted entry.«module» entry.function answered)
      → ((noted : List NotedParts) (c : ClosedProgram) → IsDerived run.program noted
      → ClosesWithin run.program noted entry.«module» entry.function c
      → is_too_long c ≡ false → TellsNoLimit answered)
      → IsCoded run answered
  unfolding ExactFrom
  is_coded entry answered is code exact = record {
    code =
        from_entry run (λ program noted owner name. IsProgramCode program noted owner name answered) entry is
        code;
    exact = subst (ExactFrom answered) is exact;
  }

  -- what was paid for it
  pub text_answers : (s : Streams) (r : Result Status AnswerFault) (answered : Result Code Uncoded)
      → IsCoded run answered → PaysFor r (coded_due (entry_of run) answered) s → TextAnswers r s run
  text_answers s (Ok ends) answered coded pays = record { answer = answered; coded = coded; pays = pays }
  text_answers s (Err answer.Write) answered coded pays =
      record { answer = answered; coded = coded; pays = pays }
  text_answers s (Err answer.Memory) answered coded pays = pays
