-- What a run shows, by what the program means.
use Rattle.std.specs.Prelude.{◌≡◌, ℕ, ◌/◌, false, List, ◌++◌, Option, codes}
use Rattle.au_base.specs.Outside.{Adds}
use Rattle.au_effects.specs.Answers as answer
use Rattle.au_meaning.specs.Laws.{Begins, is_over}
use Rattle.au_meaning.specs.Worlds.{Fault, Outcome, exit, abort}
use Rattle.au_runs.specs.Calls.{Takes}
use Rattle.au_running.specs.declared.ran.Ran.{Ran}
use Rattle.au_running.specs.declared.ran.Ran.TheVariants as ran
use Rattle.au_syntax.specs.Plain.{Bytes}

-- the words in which an abort is told
abbrev pub fault_words : Fault → Bytes
fault_words answer.arithmetic = codes "arithmetic"
fault_words (answer.called text) = text
fault_words answer.not_empty = codes "buffer not empty"
fault_words answer.empty = codes "buffer empty"
fault_words answer.out_of_range = codes "out of range"

-- A run of the meaning wrote these bytes and left these of its input.
pub record IsSeen (meant : Outcome) (written left : List ℕ) : Type 0 where
  pub output : meant.world.output ≡ written
  pub input : meant.world.left ≡ left

-- The steps of a run were spent, of which there were so many: its meaning hasn't ended in an eighth as many
-- ticks, what was written goes on from what it writes in these, and what it writes in as many ticks goes on
-- from what was written.
pub record IsCutOff (meant : ℕ → Outcome) (limit : ℕ) (written : List ℕ) : Type 0 where
  pub still : is_over (meant (limit / 8)).ending ≡ false
  pub from : Begins (meant (limit / 8)).world.output written
  pub to : Begins written (meant limit).world.output

-- What an answer shows of the meaning. It is that of a run with so many steps, which had written these bytes
-- and left those of its input: it returned success or failure, or aborted for a cause that is told in these
-- words, and so does what is meant in as many ticks; or its steps were spent.
abbrev pub AnswerShows : Ran → (ℕ → Outcome) → ℕ → List ℕ → List ℕ → Type 0
AnswerShows (ran.Exit success) meant limit written left =
    ((meant limit).ending ≡ exit success) × IsSeen (meant limit) written left
AnswerShows (ran.Abort words) meant limit written left =
    ((fault : Fault) × ((meant limit).ending ≡ abort fault) × (fault_words fault ≡ words))
    × IsSeen (meant limit) written left
AnswerShows ran.Steps meant limit written left = IsCutOff meant limit written
AnswerShows other meant limit written left = ⊥

-- What a call shows of what is meant, by what it answers of a run with so many steps. It took these bytes
-- of its input and left the rest, and wrote these, as is told of its input and its output before and behind
-- it; and its answer, with these, shows what is meant on that input.
pub record CallShows (meant : List ℕ → ℕ → Outcome) (ran : Ran) (steps : ℕ)
    (told left out out' : Option (List ℕ)) : Type 0 where
  pub taken : List ℕ
  pub rest : List ℕ
  pub input : Takes told left taken rest
  pub written : List ℕ
  pub output : Adds out out' written
  pub shows : AnswerShows ran (meant (taken ++ rest)) steps written rest
