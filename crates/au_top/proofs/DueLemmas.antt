-- What words and files owe, and for which outcome it was paid.
use Rattle.std.proofs.Common.{◌≡◌, ℕ, Bool, true, false, List, length, Option, None, Some}
use Rattle.std.proofs.Common.{ap, ◌∙◌, sym, refl, subst, ◌⊎◌, inl, inr, slice_get, zero-add}
use Rattle.std.specs.Prelude.{IsSomeAnd}
use Rattle.au_base.specs.declared.statuses.Status.{Status}
use Rattle.au_base.specs.declared.statuses.Status.TheVariants as status
use Rattle.au_base.specs.Outside.{Files}
use Rattle.au_base.proofs.BoolLemmas.{never_both}
use Rattle.au_words.specs.Jobs.{Task, IsJob, IsNoJob}
use Rattle.au_words.specs.declared.jobs.Command.{Command}
use Rattle.au_words.specs.declared.jobs.Command.TheVariants as command
use Rattle.au_words.proofs.JobLemmas.{one_job}
use Rattle.au_modules.specs.declared.modules.Modules.{Modules}
use Rattle.au_modules.specs.Slots as slots
use Rattle.au_accepted.specs.Accepted.{Accepted, AreAcceptedAs}
use Rattle.au_outcomes.specs.Outcomes.{BytesCome, Comes, FewCome, is_behind, is_outcome, judges}
use Rattle.au_outcomes.specs.Halts.{is_missing}
use Rattle.au_accepted.specs.Files.{AreFiles}
use Rattle.au_accepted.specs.Programs.{program_modules}
use Rattle.au_outcomes.specs.Programs.{AreOne, CompileComes, RunComes, read_lives}
use Rattle.au_outcomes.specs.Report.{Report}
use Rattle.au_outcomes.specs.Reports.{IsReportOf}
use Rattle.au_accepted.specs.Trees.{IsRead, ReadFile}
use Rattle.au_outcomes.specs.Trees.{HasNoTree, HasTokens}
use Rattle.au_outcomes.specs.declared.outcomes.Aim.{Aim}
use Rattle.au_outcomes.specs.declared.outcomes.Aim.TheVariants as aims
use Rattle.au_outcomes.specs.declared.outcomes.Outcome.{Outcome}
use Rattle.au_outcomes.specs.declared.outcomes.Outcome.TheVariants as outcome
use Rattle.au_outcomes.proofs.AcceptedLemmas.{accepted_behind, behind_accepted, behind_judges, checked_accepted}
use Rattle.au_outcomes.proofs.AcceptedLemmas.{comes_asked}
use Rattle.au_outcomes.proofs.LaidLemmas.{laid_asked}
use Rattle.au_outcomes.proofs.FetchLemmas.{few_had}
use Rattle.au_outcomes.proofs.HaltLemmas.{IsHalt, first_halt, read_at, treeless}
use Rattle.au_outcomes.proofs.ReportLemmas.{report_come}
use Rattle.au_outcomes.proofs.NameLemmas.{comes_same, files_same, first_or_files, many_or_few}
use Rattle.au_top.specs.Calls.{HasPassed, HasSucceeded, IsMissingSo, IsRefusedSo, Pays}
use Rattle.au_top.specs.Dues.{Arises, Due, IsAcceptedJob, IsCaps, IsCheck, IsCompile, IsExplain, IsRun, IsUnread}
use Rattle.au_top.specs.Dues.{Owes}
use Rattle.au_top.specs.Dues.{due_of}
use Rattle.au_top.specs.Jobs.{asked_by, asked_of}
use Rattle.au_top.specs.Streams.{Streams}

-- ---- jobs

-- a job of words, with what it comes to
pub JobComes : List (List ℕ) → Files → List (List ℕ) → Outcome → Type 0
JobComes words files names arisen =
    (task : Task) × IsJob words task × (names ≡ task.files) × Comes (asked_of task) files names arisen

-- no job, or a job
is_arisen : (words : List (List ℕ)) (files : Files) (names : List (List ℕ)) (arisen : Outcome)
    → Arises words files names arisen
    → (IsNoJob words × (arisen ≡ outcome.NoJob)) ⊎ JobComes words files names arisen
unfolding JobComes
is_arisen words files names outcome.NoJob h = inl (h, refl)
is_arisen words files names (outcome.Missing name) h = inr h
is_arisen words files names (outcome.Passes limit) h = inr h
is_arisen words files names (outcome.Refused refusal) h = inr h
is_arisen words files names outcome.Accepted h = inr h
is_arisen words files names (outcome.Explained lives) h = inr h
is_arisen words files names (outcome.Laid text) h = inr h
is_arisen words files names (outcome.Reported report) h = inr h
is_arisen words files names (outcome.Runs program) h = inr h
is_arisen words files names (outcome.Compiles program) h = inr h

-- words that are a job come to something as one
pub job_arises : (words : List (List ℕ)) (files : Files) (names : List (List ℕ)) (arisen : Outcome)
    (task : Task)
    → IsJob words task → Arises words files names arisen → JobComes words files names arisen
job_arises words files names arisen task job arises = elim (is_arisen words files names arisen arises) [
  | inl p ↦ absurd (p.0 task job)
  | inr p ↦ p
]

-- what the files of a job come to, of which this is asked
job_comes : (words : List (List ℕ)) (files : Files) (names : List (List ℕ)) (arisen : Outcome) (task : Task)
    (aim : Aim) → IsJob words task → asked_of task ≡ aim → JobComes words files names arisen
    → (task.files ≡ names) × Comes aim files names arisen
unfolding JobComes
job_comes words files names arisen task aim job asked h =
    let same : h.0 ≡ task = one_job words h.0 task h.1 job in (
      ap (λ (t : Task). t.files) (sym same) ∙ sym h.2,
      subst (λ what. Comes what files names arisen) (ap asked_of same ∙ asked) h.3,
    )

-- the same of its names
pub task_comes : (words : List (List ℕ)) (files : Files) (names : List (List ℕ)) (arisen : Outcome)
    (task : Task)
    (aim : Aim) → IsJob words task → asked_of task ≡ aim → Arises words files names arisen
    → Comes aim files task.files arisen
task_comes words files names arisen task aim job asked arises =
    let comes =
    job_comes words files names arisen task aim job asked
    (job_arises words files names arisen task job arises) in
    subst (λ ns. Comes aim files ns arisen) (sym comes.0) comes.1

-- a run asks to run
pub run_asks : (words : List (List ℕ)) (task : Task) → IsRun words task → asked_of task ≡ aims.Run
run_asks words task job = ap asked_by job.1

-- and a `compile` to be compiled
pub compile_asks : (words : List (List ℕ)) (task : Task) → IsCompile words task
    → asked_of task ≡ aims.Compile
compile_asks words task job = ap asked_by job.1

-- ---- what is due is one thing

due_same : (names : List (List ℕ)) (x y : Outcome) → AreOne x y → due_of names x ≡ due_of names y
due_same names (outcome.Runs one) (outcome.Runs other) h = refl
due_same names (outcome.Compiles one) (outcome.Compiles other) h = refl
due_same names x y h = ap (due_of names) h

-- one thing is due for a job
same_due : (words : List (List ℕ)) (files : Files) (ns ms : List (List ℕ)) (x y : Outcome)
    → JobComes words files ns x → JobComes words files ms y → due_of ns x ≡ due_of ms y
unfolding JobComes
same_due words files ns ms x y a b =
    let task : a.0 ≡ b.0 = one_job words a.0 b.0 a.1 b.1 in
    let names : ns ≡ ms = a.2 ∙ ap (λ (t : Task). t.files) task ∙ sym b.2 in
    let comes : Comes (asked_of b.0) files ms x =
    subst (λ (t : Task). Comes (asked_of t) files ms x) task
    (subst (λ n. Comes (asked_of a.0) files n x) names a.3) in
    ap (λ n. due_of n x) names ∙ due_same ms x y (comes_same (asked_of b.0) files ms x y comes b.3)

-- One thing is due for words and files.
arises_due : (words : List (List ℕ)) (files : Files) (ns ms : List (List ℕ)) (x y : Outcome)
    → Arises words files ns x → Arises words files ms y → due_of ns x ≡ due_of ms y
unfolding JobComes
arises_due words files ns ms x y a b = elim (is_arisen words files ns x a) [
  | inl p ↦ elim (is_arisen words files ms y b) [
    | inl q ↦ ap (due_of ns) p.1 ∙ sym (ap (due_of ms) q.1)
    | inr q ↦ absurd (p.0 q.0 q.1)
  ]
  | inr p ↦ elim (is_arisen words files ms y b) [
    | inl q ↦ absurd (q.0 p.0 p.1)
    | inr q ↦ same_due words files ns ms x y p q
  ]
]

-- What is paid for an outcome to which words and files come is what they owe.
pub paid_owed : (words : List (List ℕ)) (files : Files) (names : List (List ℕ)) (arisen : Outcome) (due : Due)
    (P : Due → Type 0) → Arises words files names arisen → IsSomeAnd (due_of names arisen) P
    → Owes words files due → P due
paid_owed words files names arisen due P arises paid owes =
    subst (λ o. IsSomeAnd o P) (arises_due words files names owes.0 arisen owes.1 arises owes.2 ∙ owes.3) paid

-- what is due is something
pub some_due : (o : Option Due) (P : Due → Type 0) → IsSomeAnd o P → (due : Due) × (o ≡ Some due) × P due
some_due None P h = absurd h
some_due (Some due) P h = (due, refl, h)

-- what is due for all but a program that is to run or to be compiled
pub due_or_runs : (names : List (List ℕ)) (arisen : Outcome)
    → ((due : Due) × (due_of names arisen ≡ Some due))
    ⊎ (((program : Modules) × (arisen ≡ outcome.Runs program))
    ⊎ ((program : Modules) × (arisen ≡ outcome.Compiles program)))
due_or_runs names outcome.NoJob = inl (_, refl)
due_or_runs names (outcome.Missing name) = inl (_, refl)
due_or_runs names (outcome.Passes limit) = inl (_, refl)
due_or_runs names (outcome.Refused refusal) = inl (_, refl)
due_or_runs names outcome.Accepted = inl (_, refl)
due_or_runs names (outcome.Explained lives) = inl (_, refl)
due_or_runs names (outcome.Laid text) = inl (_, refl)
due_or_runs names (outcome.Reported report) = inl (_, refl)
due_or_runs names (outcome.Runs program) = inr (inl (program, refl))
due_or_runs names (outcome.Compiles program) = inr (inr (program, refl))

-- ---- by how the call ended

-- the statuses of what is due
abbrev pub is_owed : Status → Bool
is_owed status.Success = true
is_owed status.Refused = true
is_owed status.Limit = true
is_owed status.Missing = true
is_owed status.Words = true
is_owed other = false

-- for an outcome that was paid, and the status of the call
module _ (names : List (List ℕ)) (ends : Status) (s : Streams) where
  -- What is due for an outcome was paid.
  abbrev pub IsPaidFor : Outcome → Type 0
  IsPaidFor arisen = IsSomeAnd (due_of names arisen) (λ due. Pays due ends s)

  pub paid_ends : (arisen : Outcome) → IsPaidFor arisen → is_owed ends ≡ true
  paid_ends outcome.NoJob h = ap is_owed h.status
  paid_ends (outcome.Missing name) h = ap is_owed h.status
  paid_ends (outcome.Passes limit) h = ap is_owed h.status
  paid_ends (outcome.Refused refusal) h = ap is_owed h.status
  paid_ends outcome.Accepted h = ap is_owed h.status
  paid_ends (outcome.Explained lives) h = ap is_owed h.status
  paid_ends (outcome.Laid text) h = ap is_owed h.status
  paid_ends (outcome.Reported report) h = ap is_owed h.status
  paid_ends (outcome.Runs program) h = absurd h
  paid_ends (outcome.Compiles program) h = absurd h

  -- no other status is one of what is due
  pub not_paid : {T : Type 0} (arisen : Outcome) (other : Status) → IsPaidFor arisen → is_owed other ≡ false
      → ends ≡ other → T
  not_paid arisen other paid none is =
      never_both (is_owed ends) (paid_ends arisen paid) (ap is_owed is ∙ none)

  -- the line of a refusal was paid for a program that is refused
  pub refused_so : (arisen : Outcome) → is_outcome arisen ≡ true → IsPaidFor arisen → ends ≡ status.Refused
      → IsRefusedSo s names arisen
  refused_so outcome.NoJob good h is = absurd
      (let e : status.Words ≡ status.Refused = sym h.status ∙ is in cc)
  refused_so (outcome.Missing name) good h is = absurd
      (let e : status.Missing ≡ status.Refused = sym h.status ∙ is in cc)
  refused_so (outcome.Passes limit) good h is = absurd
      (let e : status.Limit ≡ status.Refused = sym h.status ∙ is in cc)
  refused_so (outcome.Refused refusal) good h is = (refusal, good, refl, h.err_bytes)
  refused_so outcome.Accepted good h is = absurd
      (let e : status.Success ≡ status.Refused = sym h.status ∙ is in cc)
  refused_so (outcome.Explained lives) good h is = absurd
      (let e : status.Success ≡ status.Refused = sym h.status ∙ is in cc)
  refused_so (outcome.Laid text) good h is = absurd
      (let e : status.Success ≡ status.Refused = sym h.status ∙ is in cc)
  refused_so (outcome.Reported report) good h is = absurd
      (let e : status.Success ≡ status.Refused = sym h.status ∙ is in cc)
  refused_so (outcome.Runs program) good h is = absurd h
  refused_so (outcome.Compiles program) good h is = absurd h

  -- the line of a limit was paid for a limit that is passed
  pub passed_so : (arisen : Outcome) → IsPaidFor arisen → ends ≡ status.Limit
      → HasPassed s names arisen
  passed_so outcome.NoJob h is = absurd (let e : status.Words ≡ status.Limit = sym h.status ∙ is in cc)
  passed_so (outcome.Missing name) h is = absurd
      (let e : status.Missing ≡ status.Limit = sym h.status ∙ is in cc)
  passed_so (outcome.Passes limit) h is = (limit, refl, h.err_bytes)
  passed_so (outcome.Refused refusal) h is = absurd
      (let e : status.Refused ≡ status.Limit = sym h.status ∙ is in cc)
  passed_so outcome.Accepted h is = absurd (let e : status.Success ≡ status.Limit = sym h.status ∙ is in cc)
  passed_so (outcome.Explained lives) h is = absurd
      (let e : status.Success ≡ status.Limit = sym h.status ∙ is in cc)
  passed_so (outcome.Laid text) h is = absurd
      (let e : status.Success ≡ status.Limit = sym h.status ∙ is in cc)
  passed_so (outcome.Reported report) h is = absurd
      (let e : status.Success ≡ status.Limit = sym h.status ∙ is in cc)
  passed_so (outcome.Runs program) h is = absurd h
  passed_so (outcome.Compiles program) h is = absurd h

  -- the line of a missing file was paid for a file that is missing
  pub missing_so : (arisen : Outcome) → IsPaidFor arisen → ends ≡ status.Missing
      → IsMissingSo s names arisen
  missing_so outcome.NoJob h is = absurd (let e : status.Words ≡ status.Missing = sym h.status ∙ is in cc)
  missing_so (outcome.Missing name) h is = (name, refl, h.err_bytes)
  missing_so (outcome.Passes limit) h is = absurd
      (let e : status.Limit ≡ status.Missing = sym h.status ∙ is in cc)
  missing_so (outcome.Refused refusal) h is = absurd
      (let e : status.Refused ≡ status.Missing = sym h.status ∙ is in cc)
  missing_so outcome.Accepted h is = absurd (let e : status.Success ≡ status.Missing = sym h.status ∙ is in
      cc)
  missing_so (outcome.Explained lives) h is = absurd
      (let e : status.Success ≡ status.Missing = sym h.status ∙ is in cc)
  missing_so (outcome.Laid text) h is = absurd
      (let e : status.Success ≡ status.Missing = sym h.status ∙ is in cc)
  missing_so (outcome.Reported report) h is = absurd
      (let e : status.Success ≡ status.Missing = sym h.status ∙ is in cc)
  missing_so (outcome.Runs program) h is = absurd h
  missing_so (outcome.Compiles program) h is = absurd h

  -- success was paid for files that are accepted, explained, reported on or laid out
  pub succeeded_so : (arisen : Outcome) → IsPaidFor arisen → ends ≡ status.Success
      → HasSucceeded s names arisen
  succeeded_so outcome.NoJob h is = absurd (let e : status.Words ≡ status.Success = sym h.status ∙ is in cc)
  succeeded_so (outcome.Missing name) h is = absurd
      (let e : status.Missing ≡ status.Success = sym h.status ∙ is in cc)
  succeeded_so (outcome.Passes limit) h is = absurd
      (let e : status.Limit ≡ status.Success = sym h.status ∙ is in cc)
  succeeded_so (outcome.Refused refusal) h is = absurd
      (let e : status.Refused ≡ status.Success = sym h.status ∙ is in cc)
  succeeded_so outcome.Accepted h is = inl (refl, h.out_bytes)
  succeeded_so (outcome.Explained lives) h is = inr (inl (lives, refl, h.out_bytes))
  succeeded_so (outcome.Laid text) h is = inr (inr (inr (text, refl, h.out_bytes)))
  succeeded_so (outcome.Reported report) h is = inr (inr (inl (report, refl, h.out_bytes)))
  succeeded_so (outcome.Runs program) h is = absurd h
  succeeded_so (outcome.Compiles program) h is = absurd h

  -- the words line was paid for words that are no job
  pub words_so : (words : List (List ℕ)) (files : Files) (arisen : Outcome) → Arises words files names arisen
      → IsPaidFor arisen → ends ≡ status.Words → IsNoJob words
  words_so words files outcome.NoJob arises h is = arises
  words_so words files (outcome.Missing name) arises h is = absurd
      (let e : status.Missing ≡ status.Words = sym h.status ∙ is in cc)
  words_so words files (outcome.Passes limit) arises h is = absurd
      (let e : status.Limit ≡ status.Words = sym h.status ∙ is in cc)
  words_so words files (outcome.Refused refusal) arises h is = absurd
      (let e : status.Refused ≡ status.Words = sym h.status ∙ is in cc)
  words_so words files outcome.Accepted arises h is = absurd
      (let e : status.Success ≡ status.Words = sym h.status ∙ is in cc)
  words_so words files (outcome.Explained lives) arises h is = absurd
      (let e : status.Success ≡ status.Words = sym h.status ∙ is in cc)
  words_so words files (outcome.Laid text) arises h is = absurd
      (let e : status.Success ≡ status.Words = sym h.status ∙ is in cc)
  words_so words files (outcome.Reported report) arises h is = absurd
      (let e : status.Success ≡ status.Words = sym h.status ∙ is in cc)
  words_so words files (outcome.Runs program) arises h is = absurd h
  words_so words files (outcome.Compiles program) arises h is = absurd h

  -- words that are no job end so
  pub no_job_so : (words : List (List ℕ)) (files : Files) (arisen : Outcome) → Arises words files names arisen
      → IsPaidFor arisen → IsNoJob words → ends ≡ status.Words
  unfolding JobComes
  no_job_so words files arisen arises h none = elim (is_arisen words files names arisen arises) [
    | inl p ↦
        let paid : Pays _ ends s =
        subst (λ o. IsSomeAnd (due_of names o) (λ due. Pays due ends s)) p.1 h in
        paid.status
    | inr p ↦ absurd (none p.0 p.1)
  ]

  -- a missing file is one that is told to be missing, and no other is
  pub missing_is : (arisen : Outcome) → IsPaidFor arisen → ends ≡ status.Missing → is_missing arisen ≡ true
  missing_is arisen h is = ap is_missing (missing_so arisen h is).1

  pub missing_no : (arisen : Outcome) → IsPaidFor arisen → (ends ≡ status.Missing → ⊥)
      → is_missing arisen ≡ false
  missing_no outcome.NoJob h other = refl
  missing_no (outcome.Missing name) h other = absurd (other h.status)
  missing_no (outcome.Passes limit) h other = refl
  missing_no (outcome.Refused refusal) h other = refl
  missing_no outcome.Accepted h other = refl
  missing_no (outcome.Explained lives) h other = refl
  missing_no (outcome.Laid text) h other = refl
  missing_no (outcome.Reported report) h other = refl
  missing_no (outcome.Runs program) h other = refl
  missing_no (outcome.Compiles program) h other = refl

  -- success comes behind, or with a layout
  pub success_behind : (arisen : Outcome) → IsPaidFor arisen → ends ≡ status.Success
      → (is_behind arisen ≡ true) ⊎ ((text : List ℕ) × (arisen ≡ outcome.Laid text))
  success_behind arisen h is = elim (succeeded_so arisen h is) [
    | inl p ↦ inl (ap is_behind p.0)
    | inr others ↦ elim others [
      | inl p ↦ inl (ap is_behind p.1)
      | inr more ↦ elim more [
        | inl p ↦ inl (ap is_behind p.1)
        | inr p ↦ inr (p.0, p.1)
      ]
    ]
  ]

  -- a refusal ends so, and a limit so
  pub halt_so : (arisen : Outcome) → IsPaidFor arisen → IsHalt arisen
      → (ends ≡ status.Refused) ⊎ (ends ≡ status.Limit)
  halt_so arisen paid h = elim h [
    | inl p ↦
        let one : Pays _ ends s =
        subst (λ o. IsSomeAnd (due_of names o) (λ due. Pays due ends s)) p.1 paid in
        inl one.status
    | inr p ↦
        let one : Pays _ ends s =
        subst (λ o. IsSomeAnd (due_of names o) (λ due. Pays due ends s)) p.1 paid in
        inr one.status
  ]

-- ---- files that have no tree

-- a file among those whose bytes come to something that has no tree
unread_bytes : (aim : Aim) (all : List (List ℕ)) (file : ℕ) (bytes : List ℕ) (x : Outcome)
    → slice_get all file ≡ Some bytes → HasTokens file bytes HasNoTree → BytesCome aim all x → IsHalt x
unread_bytes aim all file bytes x is none h = elim h [
  | inl p ↦ first_halt 0 all x p
  | inr p ↦
      let one = read_at 0 all p.0 file bytes p.1 is in
      absurd (treeless file bytes one.0 none (subst (λ f. IsRead f bytes one.0) (zero-add file) one.1))
]

unread_few : (aim : Aim) (files : Files) (names all : List (List ℕ)) (file : ℕ) (bytes : List ℕ) (x : Outcome)
    → AreFiles files names all → slice_get all file ≡ Some bytes → HasTokens file bytes HasNoTree
    → FewCome aim files names x → IsHalt x
unread_few aim files names all file bytes x are is none h = elim (few_had aim files names x h) [
  | inl p ↦ absurd (first_or_files files names all x p are)
  | inr p ↦
      unread_bytes aim all file bytes x is none
      (subst (λ a. BytesCome aim a x) (files_same files names p.0 all p.1 are) p.2)
]

-- A file that has no tree is refused, or a limit is told.
pub unread_halts : (words : List (List ℕ)) (files : Files) (names : List (List ℕ)) (x : Outcome)
    → IsUnread words files → Arises words files names x → IsHalt x
unread_halts words files names x unread arises =
    let aim = asked_of unread.0 in
    let comes = task_comes words files names x unread.0 aim unread.1 refl arises in
    elim comes [
      | inl p ↦ absurd (many_or_few (length unread.0.files) p.0 unread.2)
      | inr p ↦
          unread_few aim files unread.0.files unread.3 unread.5 unread.6 x unread.4 unread.7 unread.8 p.1
    ]

-- ---- accepted files

-- a job that comes to something behind is accepted
job_accepted : (words : List (List ℕ)) (files : Files) (names : List (List ℕ)) (arisen : Outcome)
    → JobComes words files names arisen → is_behind arisen ≡ true → IsAcceptedJob words files
unfolding JobComes
job_accepted words files names arisen h behind = (
  h.0,
  h.1,
  subst (Accepted files) h.2 (behind_accepted (asked_of h.0) files names arisen h.3 behind),
  behind_judges (asked_of h.0) files names arisen h.3 behind,
)

pub arises_accepted : (words : List (List ℕ)) (files : Files) (names : List (List ℕ)) (arisen : Outcome)
    → Arises words files names arisen → is_behind arisen ≡ true → IsAcceptedJob words files
arises_accepted words files names arisen arises past = elim (is_arisen words files names arisen arises) [
  | inl p ↦ never_both (is_behind arisen) past (ap is_behind p.1)
  | inr p ↦ job_accepted words files names arisen p past
]

-- an accepted job comes to something behind
pub arises_behind : (words : List (List ℕ)) (files : Files) (names : List (List ℕ)) (arisen : Outcome)
    → IsAcceptedJob words files → Arises words files names arisen → is_behind arisen ≡ true
arises_behind words files names arisen good arises =
    accepted_behind (asked_of good.0) files good.0.files arisen
    (task_comes words files names arisen good.0 (asked_of good.0) good.1 refl arises) good.3 good.2

-- a job whose files are judged, for which success was paid, is accepted
pub success_accepted : (words : List (List ℕ)) (files : Files) (names : List (List ℕ)) (arisen : Outcome)
    (task : Task) (aim : Aim) (ends : Status) (s : Streams) → IsJob words task → asked_of task ≡ aim
    → judges aim ≡ true → Arises words files names arisen → IsPaidFor names ends s arisen
    → ends ≡ status.Success → IsAcceptedJob words files
success_accepted words files names arisen task aim ends s job asked judged arises paid is =
    elim (success_behind names ends s arisen paid is) [
      | inl past ↦ arises_accepted words files names arisen arises past
      | inr laid ↦
          let comes = task_comes words files names arisen task aim job asked arises in
          let format = laid_asked aim files task.files laid.0
          (subst (λ o. Comes aim files task.files o) laid.1 comes) in
          absurd (let e : false ≡ true = ap judges (sym format) ∙ judged in cc)
    ]

-- the files of this job are accepted, where those of a job are
pub task_accepted : (words : List (List ℕ)) (files : Files) (task : Task) → IsJob words task
    → IsAcceptedJob words files → Accepted files task.files
task_accepted words files task job good =
    let one : good.0 ≡ task = one_job words good.0 task good.1 job in
    subst (Accepted files) (ap (λ (t : Task). t.files) one) good.2

-- a check that comes to something behind is told to be accepted
pub check_accepted : (words : List (List ℕ)) (files : Files) (names : List (List ℕ)) (arisen : Outcome)
    (task : Task)
    → IsCheck words task → Arises words files names arisen → is_behind arisen ≡ true
    → arisen ≡ outcome.Accepted
check_accepted words files names arisen task check arises past =
    checked_accepted files task.files arisen
    (task_comes words files names arisen task aims.Check check.0 (ap asked_by check.1) arises) past

-- accepted files that are explained come to the lives of their variables
pub explain_tells : (words : List (List ℕ)) (files : Files) (names all : List (List ℕ)) (arisen : Outcome)
    (task : Task) (reads : List ReadFile) → IsExplain words task → Arises words files names arisen
    → AreAcceptedAs files task.files all reads → arisen ≡ outcome.Explained (read_lives reads)
explain_tells words files names all arisen task reads job arises good =
    comes_asked aims.Explain files task.files all reads arisen refl good
    (task_comes words files names arisen task aims.Explain job.0 (ap asked_by job.1) arises)

-- accepted files of which it is asked what they can do with capabilities come to the report on that
pub caps_tells : (words : List (List ℕ)) (files : Files) (names all : List (List ℕ)) (arisen : Outcome)
    (task : Task) (reads : List ReadFile) → IsCaps words task → Arises words files names arisen
    → (good : AreAcceptedAs files task.files all reads)
    → (report : Report) × IsReportOf (program_modules reads) good.noted report × (arisen ≡ outcome.Reported report)
caps_tells words files names all arisen task reads job arises good =
    report_come (program_modules reads) good.noted arisen good.derives
    (comes_asked aims.Caps files task.files all reads arisen refl good
    (task_comes words files names arisen task aims.Caps job.0 (ap asked_by job.1) arises))

-- ---- programs that are to run

-- what isn't asked to run comes to no program to run
check_runs : (files : Files) (names : List (List ℕ)) (program : Modules)
    → Comes aims.Check files names (outcome.Runs program) → ⊥
check_runs files names program h =
    let e : outcome.Runs program ≡ outcome.Accepted = checked_accepted files names
    (outcome.Runs program) h refl in cc

explain_runs : (files : Files) (names : List (List ℕ)) (program : Modules)
    → Comes aims.Explain files names (outcome.Runs program) → ⊥
explain_runs files names program h =
    let good = behind_accepted aims.Explain files names (outcome.Runs program) h refl in
    let e : outcome.Runs program ≡ outcome.Explained (read_lives good.1) =
    comes_asked aims.Explain files names good.0 good.1 (outcome.Runs program) refl good.2 h in
    cc

caps_runs : (files : Files) (names : List (List ℕ)) (program : Modules)
    → Comes aims.Caps files names (outcome.Runs program) → ⊥
caps_runs files names program h =
    let good = behind_accepted aims.Caps files names (outcome.Runs program) h refl in
    comes_asked aims.Caps files names good.0 good.1 (outcome.Runs program) refl good.2 h

pub format_runs : (files : Files) (names : List (List ℕ)) (program : Modules)
    → Comes aims.Format files names (outcome.Runs program) → ⊥
format_runs files names program h =
    let e : false ≡ true = behind_judges aims.Format files names (outcome.Runs program) h refl in cc

compile_runs : (files : Files) (names : List (List ℕ)) (program : Modules)
    → Comes aims.Compile files names (outcome.Runs program) → ⊥
compile_runs files names program h =
    let good = behind_accepted aims.Compile files names (outcome.Runs program) h refl in
    comes_asked aims.Compile files names good.0 good.1 (outcome.Runs program) refl good.2 h

-- that it's a run is asked
RunAsked : Task → Files → List (List ℕ) → Modules → Type 0
RunAsked task files names program =
    (task.command ≡ command.Run) × Comes aims.Run files names (outcome.Runs program)

command_runs : (task : Task) (files : Files) (names : List (List ℕ)) (program : Modules) (c : Command)
    → task.command ≡ c → Comes (asked_by c) files names (outcome.Runs program)
    → RunAsked task files names program
unfolding RunAsked
command_runs task files names program command.Run is h = (is, h)
command_runs task files names program command.Compile is h =
    absurd (compile_runs files names program h)
command_runs task files names program command.Explain is h = absurd (explain_runs files names program h)
command_runs task files names program command.Check is h = absurd (check_runs files names program h)
command_runs task files names program command.Format is h = absurd (format_runs files names program h)
command_runs task files names program command.Caps is h = absurd (caps_runs files names program h)

-- a job whose files come to a program that is to run is a run
pub runs_run : (words : List (List ℕ)) (files : Files) (names : List (List ℕ)) (program : Modules)
    → Arises words files names (outcome.Runs program)
    → (task : Task) × IsRun words task × Comes aims.Run files task.files (outcome.Runs program)
unfolding RunAsked
runs_run words files names program h =
    let asked = command_runs h.0 files names program h.0.command refl h.3 in
    (h.0, (h.1, asked.0), subst (λ ns. Comes aims.Run files ns (outcome.Runs program)) h.2 asked.1)

-- what a run comes to whose files come to a program to run
pub run_arises : (words : List (List ℕ)) (files : Files) (task : Task) (program : Modules) → IsRun words task
    → Comes aims.Run files task.files (outcome.Runs program)
    → Arises words files task.files (outcome.Runs program)
run_arises words files task program job comes = (
  task,
  job.0,
  refl,
  subst (λ asked. Comes asked files task.files (outcome.Runs program))
      (sym (run_asks words task job)) comes,
)

-- nothing is due for it
pub run_owes : (words : List (List ℕ)) (files : Files) (due : Due) (names : List (List ℕ)) (program : Modules)
    → Arises words files names (outcome.Runs program) → Owes words files due → ⊥
run_owes words files due names program arises owes =
    let e : None ≡ Some due =
    arises_due words files names owes.0 (outcome.Runs program) owes.1 arises owes.2 ∙ owes.3 in
    cc

-- it's no refusal, and no limit
pub run_halts : (program : Modules) → IsHalt (outcome.Runs program) → ⊥
run_halts program h = elim h [
  | inl p ↦ let e : outcome.Runs program ≡ outcome.Refused p.0 = p.1 in cc
  | inr p ↦ let e : outcome.Runs program ≡ outcome.Passes p.0 = p.1 in cc
]

-- accepted files of a run come to nothing for which something is due
none_due : (names : List (List ℕ)) (reads : List ReadFile) (arisen : Outcome) (P : Due → Type 0)
    → RunComes reads arisen → IsSomeAnd (due_of names arisen) P → ⊥
none_due names reads (outcome.Runs program) P h paid = paid
none_due names reads other P h paid = h

pub run_unpaid : (words : List (List ℕ)) (files : Files) (names all : List (List ℕ)) (arisen : Outcome)
    (task : Task) (reads : List ReadFile) (P : Due → Type 0) → IsRun words task
    → AreAcceptedAs files task.files all reads
    → Arises words files names arisen → IsSomeAnd (due_of names arisen) P → ⊥
run_unpaid words files names all arisen task reads P job good arises paid =
    none_due names reads arisen P
    (comes_asked aims.Run files task.files all reads arisen refl good
    (task_comes words files names arisen task aims.Run job.0 (run_asks words task job) arises)) paid

-- the modules of the program are those of the files
pub run_modules : (files : Files) (names all : List (List ℕ)) (reads : List ReadFile) (program : Modules)
    → AreAcceptedAs files names all reads → Comes aims.Run files names (outcome.Runs program)
    → slots.modules program ≡ program_modules reads
run_modules files names all reads program good comes =
    comes_asked aims.Run files names all reads (outcome.Runs program) refl good comes

-- ---- programs that are to be compiled

-- what isn't asked to be compiled comes to no program to be compiled
check_compiles : (files : Files) (names : List (List ℕ)) (program : Modules)
    → Comes aims.Check files names (outcome.Compiles program) → ⊥
check_compiles files names program h =
    let e : outcome.Compiles program ≡ outcome.Accepted = checked_accepted files names
    (outcome.Compiles program) h refl in cc

explain_compiles : (files : Files) (names : List (List ℕ)) (program : Modules)
    → Comes aims.Explain files names (outcome.Compiles program) → ⊥
explain_compiles files names program h =
    let good = behind_accepted aims.Explain files names (outcome.Compiles program) h refl in
    let e : outcome.Compiles program ≡ outcome.Explained (read_lives good.1) =
    comes_asked aims.Explain files names good.0 good.1 (outcome.Compiles program) refl good.2 h in
    cc

run_compiles : (files : Files) (names : List (List ℕ)) (program : Modules)
    → Comes aims.Run files names (outcome.Compiles program) → ⊥
run_compiles files names program h =
    let good = behind_accepted aims.Run files names (outcome.Compiles program) h refl in
    comes_asked aims.Run files names good.0 good.1 (outcome.Compiles program) refl good.2 h

caps_compiles : (files : Files) (names : List (List ℕ)) (program : Modules)
    → Comes aims.Caps files names (outcome.Compiles program) → ⊥
caps_compiles files names program h =
    let good = behind_accepted aims.Caps files names (outcome.Compiles program) h refl in
    comes_asked aims.Caps files names good.0 good.1 (outcome.Compiles program) refl good.2 h

pub format_compiles : (files : Files) (names : List (List ℕ)) (program : Modules)
    → Comes aims.Format files names (outcome.Compiles program) → ⊥
format_compiles files names program h =
    let e : false ≡ true = behind_judges aims.Format files names (outcome.Compiles program) h refl in cc

-- that it's a `compile` is asked
CompileAsked : Task → Files → List (List ℕ) → Modules → Type 0
CompileAsked task files names program =
    (task.command ≡ command.Compile) × Comes aims.Compile files names (outcome.Compiles program)

command_compiles : (task : Task) (files : Files) (names : List (List ℕ)) (program : Modules) (c : Command)
    → task.command ≡ c → Comes (asked_by c) files names (outcome.Compiles program)
    → CompileAsked task files names program
unfolding CompileAsked
command_compiles task files names program command.Run is h = absurd (run_compiles files names program h)
command_compiles task files names program command.Compile is h = (is, h)
command_compiles task files names program command.Explain is h =
    absurd (explain_compiles files names program h)
command_compiles task files names program command.Check is h = absurd (check_compiles files names program h)
command_compiles task files names program command.Format is h = absurd (format_compiles files names program h)
command_compiles task files names program command.Caps is h = absurd (caps_compiles files names program h)

-- a job whose files come to a program that is to be compiled is a `compile`
pub compiles_compile : (words : List (List ℕ)) (files : Files) (names : List (List ℕ)) (program : Modules)
    → Arises words files names (outcome.Compiles program)
    → (task : Task) × IsCompile words task × Comes aims.Compile files task.files (outcome.Compiles program)
unfolding CompileAsked
compiles_compile words files names program h =
    let asked = command_compiles h.0 files names program h.0.command refl h.3 in (
      h.0,
      (h.1, asked.0),
      subst (λ ns. Comes aims.Compile files ns (outcome.Compiles program)) h.2 asked.1,
    )

-- what a `compile` comes to whose files come to a program to be compiled
pub compile_arises : (words : List (List ℕ)) (files : Files) (task : Task) (program : Modules)
    → IsCompile words task → Comes aims.Compile files task.files (outcome.Compiles program)
    → Arises words files task.files (outcome.Compiles program)
compile_arises words files task program job comes = (
  task,
  job.0,
  refl,
  subst (λ asked. Comes asked files task.files (outcome.Compiles program))
      (sym (compile_asks words task job)) comes,
)

-- nothing is due for it alone
pub compile_owes : (words : List (List ℕ)) (files : Files) (due : Due) (names : List (List ℕ))
    (program : Modules)
    → Arises words files names (outcome.Compiles program) → Owes words files due → ⊥
compile_owes words files due names program arises owes =
    let e : None ≡ Some due =
    arises_due words files names owes.0 (outcome.Compiles program) owes.1 arises owes.2 ∙ owes.3 in
    cc

-- it's no refusal, and no limit
pub compile_halts : (program : Modules) → IsHalt (outcome.Compiles program) → ⊥
compile_halts program h = elim h [
  | inl p ↦ let e : outcome.Compiles program ≡ outcome.Refused p.0 = p.1 in cc
  | inr p ↦ let e : outcome.Compiles program ≡ outcome.Passes p.0 = p.1 in cc
]

-- accepted files of a `compile` come to nothing for which something is due
no_text_due : (names : List (List ℕ)) (reads : List ReadFile) (arisen : Outcome) (P : Due → Type 0)
    → CompileComes reads arisen → IsSomeAnd (due_of names arisen) P → ⊥
no_text_due names reads (outcome.Compiles program) P h paid = paid
no_text_due names reads other P h paid = h

pub compile_unpaid : (words : List (List ℕ)) (files : Files) (names all : List (List ℕ)) (arisen : Outcome)
    (task : Task) (reads : List ReadFile) (P : Due → Type 0) → IsCompile words task
    → AreAcceptedAs files task.files all reads
    → Arises words files names arisen → IsSomeAnd (due_of names arisen) P → ⊥
compile_unpaid words files names all arisen task reads P job good arises paid =
    no_text_due names reads arisen P
    (comes_asked aims.Compile files task.files all reads arisen refl good
    (task_comes words files names arisen task aims.Compile job.0 (compile_asks words task job) arises)) paid

-- the modules of the program are those of the files
pub compile_modules : (files : Files) (names all : List (List ℕ)) (reads : List ReadFile) (program : Modules)
    → AreAcceptedAs files names all reads → Comes aims.Compile files names (outcome.Compiles program)
    → slots.modules program ≡ program_modules reads
compile_modules files names all reads program good comes =
    comes_asked aims.Compile files names all reads (outcome.Compiles program) refl good comes
