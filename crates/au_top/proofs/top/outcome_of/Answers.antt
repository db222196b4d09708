-- The words are no job, or they ask for files that were checked.
use Rattle.std.proofs.Common.{Err, List, String, map, ap, refl, subst}
use Rattle.std.specs.Global.{Global}
use Rattle.std.specs.String.{string_bytes}
use Rattle.std.proofs.lemmas.Result.{err_from_is_err_and}
use Rattle.au_words.specs.Jobs.{task_of}
use Rattle.au_outcomes.specs.Outcomes.{Comes}
use Rattle.au_outcomes.proofs.FetchLemmas.{told_files}
use Rattle.au_top.proofs.ArisesLemmas.{arises_from, asks_many, fails_behind, said_task}
use Rattle.au_top.proofs.top.outcome_of.Goals as goal

pub returns-in-Err-NoJob-clause-arises : goal.returns-in-Err-NoJob-clause-arises
returns-in-Err-NoJob-clause-arises g c =
    let told = told_files (g.S.Shelf.files c.args.shelf.now) in
    (told.0, told.1, c.in-Err-NoJob.ensures.no_job (ap Err c.in-Err-NoJob.field-0-is))

pub returns-in-Err-NoJob-clause-asked : goal.returns-in-Err-NoJob-clause-asked
returns-in-Err-NoJob-clause-asked g c = λ task job.
    absurd (c.in-Err-NoJob.ensures.no_job (ap Err c.in-Err-NoJob.field-0-is) task job)

pub returns-clause-arises : goal.returns-clause-arises
returns-clause-arises g c =
    let words = map string_bytes c.args.words.now in
    let comes = c.in_ok-outcome.ensures.comes in
    let found = subst (λ (l : List (String Global)). Comes c.asked_of-aim.result comes.0
    (map string_bytes l) c.in_ok-outcome.outcome) c.as_slice.ensures.value comes.2 in (
      comes.0,
      comes.1,
      arises_from words (map string_bytes c.in-Ok.job.files.items)
          (task_of c.in-Ok.job) comes.0 c.asked_of-aim.result c.in_ok-outcome.outcome c.in-Ok.ensures.job refl
          c.asked_of-aim.ensures found,
    )

pub returns-clause-asked : goal.returns-clause-asked
returns-clause-asked g c = λ task job.
    said_task (map string_bytes c.args.words.now) c.in-Ok.job task c.in-Ok.job.entry c.in-Ok.job.steps
    c.in-Ok.job.life c.in-Ok.ensures.job job refl refl refl

pub returns-clause-idle : goal.returns-clause-idle
returns-clause-idle g c = λ idle. absurd (idle (task_of c.in-Ok.job) c.in-Ok.ensures.job)

pub returns-in_err-outcome-clause-idle : goal.returns-in_err-outcome-clause-idle
returns-in_err-outcome-clause-idle g c = λ idle. absurd (idle (task_of c.in-Ok.job) c.in-Ok.ensures.job)

-- where the shelf failed
pub returns-in_err-outcome-clause-stops : goal.returns-in_err-outcome-clause-stops
returns-in_err-outcome-clause-stops g c =
    let p = err_from_is_err_and c.from_residual.result c.from_residual.ensures.1 in
    rw (p.1, p.2)
    (λ h. fails_behind (map string_bytes c.args.words.now) (g.S.Shelf.files c.args.shelf.now)
    (task_of c.in-Ok.job) c.in-Ok.job.files.items c.as_slice.result.now
    c.in-Ok.ensures.job refl c.as_slice.ensures.value (c.in_err-outcome.ensures.stops h))

-- where there are too many files
pub returns-in_err-outcome-clause-crowded : goal.returns-in_err-outcome-clause-crowded
returns-in_err-outcome-clause-crowded g c = λ many.
    let same = ap (map string_bytes) c.as_slice.ensures.value in
    c.in_err-outcome.ensures.crowded (asks_many (map string_bytes c.args.words.now)
    (task_of c.in-Ok.job) c.as_slice.result.now c.in-Ok.ensures.job same many)

pub returns-clause-crowded : goal.returns-clause-crowded
returns-clause-crowded g c = λ many.
    let same = ap (map string_bytes) c.as_slice.ensures.value in
    c.in_ok-outcome.ensures.crowded (asks_many (map string_bytes c.args.words.now)
    (task_of c.in-Ok.job) c.as_slice.result.now c.in-Ok.ensures.job same many)
