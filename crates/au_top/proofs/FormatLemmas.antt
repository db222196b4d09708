-- What is promised of a job `format`.
use Rattle.std.proofs.Common.{◌≡◌, ◌≤◌, ℕ, true, false, List, [], ◌∷◌, ◌++◌, ap, ◌∙◌, sym, refl, subst, inl, inr}
use Rattle.std.proofs.Common.{arith}
use Rattle.std.specs.Prelude.{IsSomeAnd}
use Rattle.std.proofs.lemmas.List.{append-nil}
use Rattle.au_base.specs.declared.statuses.Status.TheVariants as status
use Rattle.au_base.specs.Outside.{Files}
use Rattle.au_format.specs.Layout.{IsLayout}
use Rattle.au_outcomes.specs.Layouts.{AreLaid}
use Rattle.au_accepted.specs.Files.{AreFiles}
use Rattle.au_outcomes.specs.Outcomes.{Comes, HasLayout}
use Rattle.au_accepted.specs.Trees.{AreRead, ReadFile}
use Rattle.au_outcomes.specs.declared.outcomes.Aim.TheVariants as aims
use Rattle.au_outcomes.specs.declared.outcomes.Outcome.{Outcome}
use Rattle.au_outcomes.specs.declared.outcomes.Outcome.TheVariants as outcome
use Rattle.au_outcomes.proofs.AcceptedLemmas.{behind_judges}
use Rattle.au_outcomes.proofs.LaidLemmas.{comes_laid, laid_comes}
use Rattle.au_outcomes.proofs.NameLemmas.{comes_same}
use Rattle.au_top.specs.Calls.{Call, HasPaid, IsDecided, Tells, is_decided}
use Rattle.au_top.specs.Dues.{Arises, due_of, laid_due}
use Rattle.au_top.specs.Ends.{HasEnded}
use Rattle.au_top.specs.Formatted.{HasLayoutOf, IsFormat}
use Rattle.au_top.specs.Jobs.{asked_by}
use Rattle.au_top.proofs.DueLemmas as due
use Rattle.au_top.proofs.EndLemmas as of

-- ---- one file

one_has : (files : Files) (name text : List ℕ) → HasLayoutOf files name text → HasLayout files (name ∷ []) text
one_has files name text laid = (
  omega arith,
  laid.bytes ∷ [],
  (laid.had, tt),
  (laid.one ∷ [], (laid.read, tt)),
  (text, [], laid.laid, refl, sym (append-nil text)),
)

has_one : (files : Files) (name text : List ℕ) (all : List (List ℕ)) (reads : List ReadFile)
    → AreFiles files (name ∷ []) all → AreRead 0 all reads → AreLaid all text → HasLayoutOf files name text
has_one files name text [] reads are read laid = absurd are
has_one files name text (bytes ∷ []) [] are read laid = absurd read
has_one files name text (bytes ∷ []) (one ∷ reads) are read laid =
    let same : text ≡ laid.0 = laid.4 ∙ ap (λ rest. laid.0 ++ rest) laid.3 ∙ append-nil laid.0 in
    record {
      bytes = bytes;
      had = are.0;
      one = one;
      read = read.0;
      laid = subst (IsLayout bytes) (sym same) laid.2;
    }
has_one files name text (bytes ∷ other ∷ all) reads are read laid = absurd are.1

-- what the file comes to
format_comes : (words : List (List ℕ)) (files : Files) (names : List (List ℕ)) (arisen : Outcome) (name : List ℕ)
    → IsFormat words name → Arises words files names arisen → Comes aims.Format files (name ∷ []) arisen
format_comes words files names arisen name job arises =
    subst (λ ns. Comes aims.Format files ns arisen) job.3
    (due.task_comes words files names arisen job.0 aims.Format job.1 (ap asked_by job.2) arises)

-- a file that has a layout comes to it
format_laid : (words : List (List ℕ)) (files : Files) (names : List (List ℕ)) (arisen : Outcome)
    (name text : List ℕ) → IsFormat words name → Arises words files names arisen → HasLayoutOf files name text
    → arisen ≡ outcome.Laid text
format_laid words files names arisen name text job arises laid =
    let one : outcome.Laid text ≡ arisen =
    comes_same aims.Format files (name ∷ []) (outcome.Laid text) arisen
    (laid_comes files (name ∷ []) text (one_has files name text laid))
    (format_comes words files names arisen name job arises) in
    sym one

-- ---- for a call

module _ (call : Call) where
  -- The layout of the file is written.
  pub ended_formatted : HasEnded call → (files : Files) (name text : List ℕ) → Tells call files
      → IsFormat call.words name → IsDecided call → HasLayoutOf files name text → HasPaid call (laid_due text)
  ended_formatted h files name text is job good laid = elim (of.decided call h good) [
    | inl p ↦
        subst (λ o. IsSomeAnd (due_of p.names o) (HasPaid call))
        (format_laid call.words files p.names p.arisen name text job (of.paid_arises call files is p) laid) p.pays
    | inr others ↦ elim others [
      | inl r ↦
          let same = format_laid call.words files r.0.task.files (outcome.Runs r.0.program) name text job
          (of.whole_arises call files is r.0) laid in
          absurd (let e : outcome.Runs r.0.program ≡ outcome.Laid text = same in cc)
      | inr t ↦
          let r = t.text.1 in
          let same = format_laid call.words files r.task.files (outcome.Compiles r.program) name text job
          (of.text_arises call files is t) laid in
          absurd (let e : outcome.Compiles r.program ≡ outcome.Laid text = same in cc)
    ]
  ]

  -- It is written only where the file has it.
  pub ended_formatted_only : HasEnded call → (files : Files) (name : List ℕ) → Tells call files
      → IsFormat call.words name → call.status ≡ status.Success → (text : List ℕ) × HasLayoutOf files name text
  ended_formatted_only h files name is job succeeds = elim (of.decided call h (ap is_decided succeeds)) [
    | inl p ↦
        let comes = format_comes call.words files p.names p.arisen name job (of.paid_arises call files is p) in
        elim (due.success_behind p.names call.status call.streams p.arisen p.pays succeeds) [
          | inl past ↦
              let judged = behind_judges aims.Format files (name ∷ []) p.arisen comes past in
              absurd (let e : false ≡ true = judged in cc)
          | inr laid ↦
              let has = comes_laid files (name ∷ []) laid.0
              (subst (λ o. Comes aims.Format files (name ∷ []) o) laid.1 comes) in
              (laid.0, has_one files name laid.0 has.1 has.3.0 has.2 has.3.1 has.4)
        ]
    | inr others ↦ elim others [
      | inl r ↦
          let comes = format_comes call.words files r.0.task.files (outcome.Runs r.0.program) name job
          (of.whole_arises call files is r.0) in
          absurd (due.format_runs files (name ∷ []) r.0.program comes)
      | inr t ↦
          let r = t.text.1 in
          let comes = format_comes call.words files r.task.files (outcome.Compiles r.program) name job
          (of.text_arises call files is t) in
          absurd (due.format_compiles files (name ∷ []) r.program comes)
    ]
  ]
