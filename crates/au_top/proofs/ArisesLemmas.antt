-- What words and files come to.
use Rattle.std.proofs.Common.{◌≡◌, true, Bool, ℕ, ◌<◌, List, String, Option}
use Rattle.std.proofs.Common.{length, map, ap, ◌∙◌, refl, subst, arith, inl, inr}
use Rattle.std.specs.Global.{Global}
use Rattle.std.specs.String.{string_bytes}
use Rattle.std.proofs.lemmas.List.{length-map}
use Rattle.au_base.specs.Outside.{Files, Counts, HasRisen}
use Rattle.au_words.proofs.JobLemmas.{one_job}
use Rattle.au_words.specs.Jobs.{Task, IsJob, task_of}
use Rattle.au_words.specs.declared.jobs.Job.{Job}
use Rattle.au_base.specs.declared.names.Entry.{Entry}
use Rattle.au_outcomes.specs.declared.halts.CheckFault.{CheckFault}
use Rattle.au_outcomes.specs.declared.halts.CheckFault.TheVariants as fault
use Rattle.au_outcomes.specs.Halts.{StopsIn, is_read}
use Rattle.au_outcomes.specs.declared.outcomes.Aim.{Aim}
use Rattle.au_top.specs.Jobs.{asked_of}
use Rattle.au_accepted.specs.Files.{most_files}
use Rattle.au_outcomes.specs.Outcomes.{Comes, is_outcome}
use Rattle.au_top.specs.Dues.{Arises, AsksForTooMany}
use Rattle.au_top.specs.Calls.{FailsBehind}
use Rattle.au_outcomes.proofs.NameLemmas.{comes_outcome}
use Rattle.au_outcomes.specs.declared.outcomes.Outcome.{Outcome}
use Rattle.au_outcomes.specs.declared.outcomes.Outcome.TheVariants as outcome

-- a job, and what its files come to
module _ (words names : List (List ℕ)) (task : Task) (files : Files) (aim : Aim) where
  pub arises_from : (arisen : Outcome) → IsJob words task → names ≡ task.files → aim ≡ asked_of task
      → Comes aim files names arisen → Arises words files names arisen
  arises_from outcome.NoJob job same built comes = elim comes [
    | inl many ↦ let e = many.1 in cc
    | inr few ↦ absurd few.1
  ]
  arises_from (outcome.Missing other) job same built comes =
      (task, job, same, subst (λ asked. Comes asked files names (outcome.Missing other)) built comes)
  arises_from (outcome.Passes limit) job same built comes =
      (task, job, same, subst (λ asked. Comes asked files names (outcome.Passes limit)) built comes)
  arises_from (outcome.Refused refusal) job same built comes =
      (task, job, same, subst (λ asked. Comes asked files names (outcome.Refused refusal)) built comes)
  arises_from outcome.Accepted job same built comes =
      (task, job, same, subst (λ asked. Comes asked files names outcome.Accepted) built comes)
  arises_from (outcome.Explained lives) job same built comes =
      (task, job, same, subst (λ asked. Comes asked files names (outcome.Explained lives)) built comes)
  arises_from (outcome.Laid text) job same built comes =
      (task, job, same, subst (λ asked. Comes asked files names (outcome.Laid text)) built comes)
  arises_from (outcome.Reported report) job same built comes =
      (task, job, same, subst (λ asked. Comes asked files names (outcome.Reported report)) built comes)
  arises_from (outcome.Runs program) job same built comes =
      (task, job, same, subst (λ asked. Comes asked files names (outcome.Runs program)) built comes)
  arises_from (outcome.Compiles program) job same built comes =
      (task, job, same, subst (λ asked. Comes asked files names (outcome.Compiles program)) built comes)

-- what a job says of a run is what the task of its words says
pub said_task : (words : List (List ℕ)) (job : Job) (task : Task) (entry : Option Entry) (steps : ℕ)
    (life : Bool) → IsJob words (task_of job) → IsJob words task → entry ≡ job.entry → steps ≡ job.steps
    → life ≡ job.life → (entry ≡ task.entry) × (steps ≡ task.steps) × (life ≡ task.life)
said_task words job task entry steps life asked other same_entry same_steps same_life =
    let one : task_of job ≡ task = one_job words (task_of job) task asked other in (
      same_entry ∙ ap (λ (t : Task). t.entry) one,
      same_steps ∙ ap (λ (t : Task). t.steps) one,
      same_life ∙ ap (λ (t : Task). t.life) one,
    )

-- what words and files come to is an outcome
pub arises_outcome : (words : List (List ℕ)) (files : Files) (names : List (List ℕ)) (arisen : Outcome)
    → Arises words files names arisen → is_outcome arisen ≡ true
arises_outcome words files names outcome.NoJob h = refl
arises_outcome words files names (outcome.Missing other) h = refl
arises_outcome words files names (outcome.Passes limit) h = refl
arises_outcome words files names (outcome.Refused refusal) h = comes_outcome (asked_of h.0) files names
    (outcome.Refused refusal) h.3
arises_outcome words files names outcome.Accepted h = refl
arises_outcome words files names (outcome.Explained lives) h = refl
arises_outcome words files names (outcome.Laid text) h = refl
arises_outcome words files names (outcome.Reported report) h = refl
arises_outcome words files names (outcome.Runs program) h = refl
arises_outcome words files names (outcome.Compiles program) h = refl

-- a job that asks for too many files
pub asks_many : (words : List (List ℕ)) (task : Task) (files : List (String Global)) → IsJob words task
    → map string_bytes files ≡ task.files → AsksForTooMany words → most_files < length files
asks_many words task files job same many =
    let one : task ≡ many.0 = one_job words task many.0 job many.1 in
    let names : length (map string_bytes files) ≡ length many.0.files = ap length
    (same ∙ ap (λ (t : Task). t.files) one) in
    omega (arith, length-map files string_bytes, many.2)

-- where the shelf failed behind files of a job
pub fails_behind : (words : List (List ℕ)) (told : Option Files) (task : Task)
    (files names : List (String Global)) → IsJob words task → map string_bytes files ≡ task.files
    → names ≡ files → StopsIn told (map string_bytes names) → FailsBehind words told
fails_behind words told task files names job same list stops = (
  task,
  job,
  subst (λ ns. StopsIn told ns) same
      (subst (λ (l : List (String Global)). StopsIn told (map string_bytes l)) list stops),
)

-- a read fault is one that was counted
pub read_risen : (e : CheckFault) (old new : ℕ) → e ≡ fault.Read → Counts (is_read e) old new
    → HasRisen old new
read_risen e old new is h = (subst (λ f. Counts (is_read f) old new) is h).1
