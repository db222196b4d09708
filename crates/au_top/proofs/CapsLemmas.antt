-- What is promised of a job `caps`.
use Rattle.std.proofs.Common.{◌≡◌, ℕ, List, ap, refl, subst, inl, inr}
use Rattle.std.specs.Prelude.{IsSomeAnd}
use Rattle.au_base.specs.declared.statuses.Status.TheVariants as status
use Rattle.au_base.specs.Outside.{Files}
use Rattle.au_words.specs.Jobs.{Task}
use Rattle.au_accepted.specs.Accepted.{Accepted, AreAcceptedAs}
use Rattle.au_accepted.specs.Programs.{program_modules}
use Rattle.au_accepted.specs.Trees.{ReadFile}
use Rattle.au_outcomes.specs.declared.outcomes.Aim.TheVariants as aims
use Rattle.au_outcomes.specs.declared.outcomes.Outcome.TheVariants as outcome
use Rattle.au_top.specs.Calls.{Call, HasPaid, IsDecided, PaysReport, Tells, is_decided}
use Rattle.au_top.specs.Dues.{IsCaps, due_of}
use Rattle.au_top.specs.Ends.{HasEnded}
use Rattle.au_top.specs.Jobs.{asked_by}
use Rattle.au_top.proofs.DueLemmas as due
use Rattle.au_top.proofs.EndLemmas as of

-- for a call
module _ (call : Call) where
  -- The report of accepted files is written.
  pub ended_reported : HasEnded call → (files : Files) (task : Task) (all : List (List ℕ)) (reads : List ReadFile)
      → Tells call files → IsCaps call.words task → IsDecided call
      → (accepted : AreAcceptedAs files task.files all reads)
      → PaysReport call (program_modules reads) accepted.noted
  ended_reported h files task all reads is job good accepted = elim (of.decided call h good) [
    | inl p ↦
        let told = due.caps_tells call.words files p.names all p.arisen task reads job
        (of.paid_arises call files is p) accepted in
        (told.0, told.1, subst (λ o. IsSomeAnd (due_of p.names o) (HasPaid call)) told.2 p.pays)
    | inr others ↦ elim others [
      | inl r ↦
          let told = due.caps_tells call.words files r.0.task.files all (outcome.Runs r.0.program) task reads job
          (of.whole_arises call files is r.0) accepted in
          absurd (let e : outcome.Runs r.0.program ≡ outcome.Reported told.0 = told.2 in cc)
      | inr t ↦
          let r = t.text.1 in
          let told = due.caps_tells call.words files r.task.files all (outcome.Compiles r.program) task reads job
          (of.text_arises call files is t) accepted in
          absurd (let e : outcome.Compiles r.program ≡ outcome.Reported told.0 = told.2 in cc)
    ]
  ]

  -- It is written only of files that are accepted.
  pub ended_reported_only : HasEnded call → (files : Files) (task : Task) → Tells call files
      → IsCaps call.words task → call.status ≡ status.Success → Accepted files task.files
  ended_reported_only h files task is job succeeds = elim (of.decided call h (ap is_decided succeeds)) [
    | inl p ↦ of.succeeded_accepted call files task aims.Caps is job.0 (ap asked_by job.1) refl p succeeds
    | inr others ↦ elim others [
      | inl r ↦ of.ran_accepted call files task is job.0 r.0
      | inr t ↦ of.text_accepted call files task is job.0 t
    ]
  ]
