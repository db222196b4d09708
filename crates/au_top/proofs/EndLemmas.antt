-- What the ways in which a call ends say.
use Rattle.std.proofs.Common.{◌≡◌, ◌↔◌, ℕ, Bool, true, false, List, Option, Some, Result, Ok, Err}
use Rattle.std.proofs.Common.{ap, ◌∙◌, sym, refl, subst, ◌⊎◌, inl, inr}
use Rattle.std.specs.Prelude.{IsSomeAnd}
use Rattle.au_base.specs.declared.statuses.Status.{Status}
use Rattle.au_base.specs.declared.statuses.Status.TheVariants as status
use Rattle.au_base.specs.Outside.{Counts, Files, HasRisen}
use Rattle.au_base.proofs.BoolLemmas.{never_both}
use Rattle.au_base.specs.declared.limits.Limit.{Limit}
use Rattle.au_words.specs.Jobs.{Task, IsJob, IsNoJob}
use Rattle.au_words.specs.declared.jobs.Command.TheVariants as command
use Rattle.au_low.specs.declared.code.Code.{Code}
use Rattle.au_modules.specs.Slots as slots
use Rattle.au_outcomes.specs.Lines.{read_fault_line}
use Rattle.au_runs.specs.Calls.{Rose}
use Rattle.au_running.specs.Ran.{is_read_fault}
use Rattle.au_running.specs.declared.coding.Uncoded.{Uncoded}
use Rattle.au_running.specs.declared.coding.Uncoded.TheVariants as uncoded
use Rattle.au_running.specs.declared.ran.Ran.{Ran}
use Rattle.au_running.specs.declared.ran.Ran.TheVariants as how
use Rattle.au_accepted.specs.Accepted.{Accepted, AreAcceptedAs}
use Rattle.au_outcomes.specs.Outcomes.{Comes, judges}
use Rattle.au_outcomes.specs.Halts.{AreTold}
use Rattle.au_outcomes.specs.Programs.{read_lives}
use Rattle.au_accepted.specs.Trees.{ReadFile}
use Rattle.au_outcomes.specs.declared.outcomes.Aim.{Aim}
use Rattle.au_outcomes.specs.declared.outcomes.Aim.TheVariants as aims
use Rattle.au_outcomes.specs.declared.outcomes.Outcome.{Outcome}
use Rattle.au_outcomes.specs.declared.outcomes.Outcome.TheVariants as outcome
use Rattle.au_top.specs.Calls.{Aborts, Call, HasOutcome, ComesToRun, GoesBehind, HasRunItsProgram, HasPaid}
use Rattle.au_top.specs.Calls.{HasProgram, IsDecided, IsDone, IsPaid, IsRefused, LacksMemory, ReportsRun}
use Rattle.au_top.specs.Calls.{LosesSink, LosesSource, MissesFile, PassesLimit, ReportsText, ShelfMissedNone}
use Rattle.au_top.specs.Calls.{ShelfNeverFailed, Succeeds, Tells, is_decided}
use Rattle.au_top.specs.Dues.{Arises, Due, IsAcceptedJob, IsCheck, IsCompile, IsExplain, IsRun, IsUnread}
use Rattle.au_top.specs.Dues.{Owes}
use Rattle.au_top.specs.Dues.{accepted_due, due_line, due_of, explained_due}
use Rattle.au_top.specs.Ends.{HasComeToText, HasEnded, HasPaidAll, IsRunWhole}
use Rattle.au_top.specs.Entered.{IsToRun}
use Rattle.au_top.specs.Jobs.{asked_by, asked_of}
use Rattle.au_top.specs.Runs.{EndsAsRun, IsTold, Run, entry_of, run_of, run_status}
use Rattle.au_top.specs.Shown.{HasLives, IsAsMeant}
use Rattle.au_top.specs.Sound.{IsSafe}
use Rattle.au_top.specs.Streams.{AreQuiet, HasFailed, HasStayed, NeverFailed}
use Rattle.au_top.specs.Texts.{coded_due}
use Rattle.au_top.proofs.ArisesLemmas.{arises_outcome}
use Rattle.au_top.proofs.DueLemmas as due
use Rattle.au_top.proofs.RunLemmas as run
use Rattle.au_words.proofs.JobLemmas.{one_job}

-- the files that are told are these
pub told_same : (told : Option Files) (known files : Files) → told ≡ Some files → AreTold told known
    → known ≡ files
told_same told known files is are = subst (λ t. AreTold t known) is are

-- the statuses of a program that is compiled
abbrev pub is_text : Status → Bool
is_text status.Success = true
is_text status.Refused = true
is_text status.Limit = true
is_text other = false

-- something else of the same run
run_with : {P Q : Run → Type 0} (call : Call) (r : ComesToRun call P)
    → Q (run_of r.task (slots.modules r.program)) → ComesToRun call Q
run_with call r q = record {
  files = r.files;
  are_told = r.are_told;
  task = r.task;
  job = r.job;
  program = r.program;
  comes = r.comes;
  run = q;
}

-- the files of a run that are told came to the program that ran
pub run_comes : {P : Run → Type 0} (call : Call) (files : Files) (task : Task) → Tells call files
    → IsRun call.words task → (r : ComesToRun call P)
    → Comes aims.Run files task.files (outcome.Runs r.program)
run_comes call files task is job r =
    let one : r.task ≡ task = one_job call.words r.task task r.job.0 job.0 in
    subst (λ f. Comes aims.Run f task.files (outcome.Runs r.program))
    (told_same call.shelf.files r.files files is r.are_told)
    (subst (λ (t : Task). Comes aims.Run r.files t.files (outcome.Runs r.program)) one r.comes)

-- for a call
module _ (call : Call) where
  -- what they owe was paid
  abbrev pub Paid : Type 0
  Paid = HasPaidAll call

  -- a program ran, and no sink failed
  abbrev pub Whole : Type 0
  Whole = ComesToRun call (IsRunWhole call.status call.streams)

  -- what is due for the code of a program was paid
  abbrev pub Text : Type 0
  Text = HasComeToText call

  -- how the call ended
  abbrev pub Ending : Type 0
  Ending = HasEnded call

  -- what was due for an outcome was paid
  abbrev pub PaidFor : Due → Type 0
  PaidFor one = HasPaid call one

  -- words and files decided how it ended
  pub decided : Ending → IsDecided call
      → Paid ⊎ ((Whole × ShelfNeverFailed call × ShelfMissedNone call) ⊎ Text)
  decided h good = elim h [
    | inl p ↦ inl p
    | inr others ↦ elim others [
      | inl p ↦ never_both (is_decided call.status) good (ap is_decided p.ended)
      | inr others ↦ elim others [
        | inl p ↦ never_both (is_decided call.status) good (ap is_decided p.ended)
        | inr others ↦ elim others [
          | inl p ↦ never_both (is_decided call.status) good (ap is_decided p.pays.status)
          | inr others ↦ elim others [
            | inl p ↦ elim p.runs.run [
              | inl w ↦ inr (inl (run_with call p.runs w, p.read, p.missed))
              | inr broken ↦ elim broken [
                | inl c ↦ never_both (is_decided call.status) good (ap is_decided c.0)
                | inr c ↦ never_both (is_decided call.status) good (ap is_decided c.0)
              ]
            ]
            | inr t ↦ inr (inr t)
          ]
        ]
      ]
    ]
  ]

  -- ---- of what was paid

  paid_done : Paid → IsPaid call
  paid_done p =
      let one = due.some_due (due_of p.names p.arisen) PaidFor p.pays in
      (one.0, inl (p.files, p.are_told, inl (p.names, p.arisen, p.arises, one.1)), one.2)

  -- words and files came to an outcome, of which this holds
  paid_came : (P : List (List ℕ) → Outcome → Type 0) (p : Paid) → P p.names p.arisen → HasOutcome call P
  paid_came P p holds = (p.files, p.are_told, p.names, p.arisen, p.arises, holds)

  -- the same of the files that are told
  pub paid_arises : (files : Files) → Tells call files → (p : Paid) → Arises call.words files p.names p.arisen
  paid_arises files is p =
      subst (λ f. Arises call.words f p.names p.arisen)
      (told_same call.shelf.files p.files files is p.are_told) p.arises

  -- no other status is paid
  paid_not : {T : Type 0} (other : Status) → Paid → due.is_owed other ≡ false → call.status ≡ other → T
  paid_not other p none is =
      due.not_paid p.names call.status call.streams p.arisen other p.pays none is

  -- ---- of a program that ran

  -- the files that are told came to it
  pub whole_arises : (files : Files) → Tells call files → (r : Whole)
      → Arises call.words files r.task.files (outcome.Runs r.program)
  whole_arises files is r =
      subst (λ f. Arises call.words f r.task.files (outcome.Runs r.program))
      (told_same call.shelf.files r.files files is r.are_told)
      (due.run_arises call.words r.files r.task r.program r.job r.comes)

  whole_as : Whole → HasRunItsProgram call
  whole_as r =
      run_with call r (record { ran = r.run.ran; status = r.run.status; done = r.run.done })

  pub whole_to : (r : Whole) (ran : Ran) → r.run.ran ≡ ran → ReportsRun call ran
  whole_to r ran is =
      run_with call r
      (subst (λ one. IsTold (run_of r.task (slots.modules r.program)) call.streams one) is r.run.done)

  -- its status is one of a run
  whole_not : {T : Type 0} (other : Status) → Whole → run.is_run other ≡ false → call.status ≡ other → T
  whole_not other r none is =
      never_both (run.is_run call.status) (ap run.is_run r.run.status ∙ run.ran_ends r.run.ran)
      (ap run.is_run is ∙ none)

  -- how it ran, by the status
  whole_status : (r : Whole) (other : Status) → call.status ≡ other → run_status r.run.ran ≡ other
  whole_status r other is = sym r.run.status ∙ is

  -- ---- of a program that was compiled

  -- the files that are told came to it
  pub text_arises : (files : Files) → Tells call files → (t : Text)
      → Arises call.words files t.text.1.task.files (outcome.Compiles t.text.1.program)
  text_arises files is t =
      let r = t.text.1 in
      subst (λ f. Arises call.words f r.task.files (outcome.Compiles r.program))
      (told_same call.shelf.files r.files files is r.are_told)
      (due.compile_arises call.words r.files r.task r.program r.job r.comes)

  -- it paid what it owes
  text_done : Text → IsPaid call
  text_done t =
      let r = t.text.1 in
      let one = due.some_due (coded_due (entry_of (run_of r.task (slots.modules r.program))) t.text.0) PaidFor
      r.text.paid in (
        one.0,
        inl (
          r.files,
          r.are_told,
          inr (record {
            task = r.task;
            job = r.job;
            program = r.program;
            comes = r.comes;
            answer = t.text.0;
            coded = r.text.coded;
            is_due = one.1;
          }),
        ),
        one.2,
      )

  -- its status is that of code, of a refusal or of a limit
  pub text_ends : (answer : Result Code Uncoded) → ReportsText call answer → is_text call.status ≡ true
  text_ends (Ok code) r = ap is_text r.text.paid.status
  text_ends (Err uncoded.NoEntry) r = ap is_text r.text.paid.status
  text_ends (Err (uncoded.Limit limit)) r = ap is_text r.text.paid.status
  text_ends (Err uncoded.Memory) r = absurd r.text.paid

  text_not : {T : Type 0} (other : Status) → Text → is_text other ≡ false → call.status ≡ other → T
  text_not other t none is =
      never_both (is_text call.status) (text_ends t.text.0 t.text.1) (ap is_text is ∙ none)

  -- what was answered, by the status
  text_refused : (answer : Result Code Uncoded) → ReportsText call answer → call.status ≡ status.Refused
      → ReportsText call (Err uncoded.NoEntry)
  text_refused (Ok code) r is =
      absurd (let e : status.Success ≡ status.Refused = sym r.text.paid.status ∙ is in cc)
  text_refused (Err uncoded.NoEntry) r is = r
  text_refused (Err (uncoded.Limit limit)) r is =
      absurd (let e : status.Limit ≡ status.Refused = sym r.text.paid.status ∙ is in cc)
  text_refused (Err uncoded.Memory) r is = absurd r.text.paid

  text_limit : (answer : Result Code Uncoded) → ReportsText call answer → call.status ≡ status.Limit
      → (limit : Limit) × ReportsText call (Err (uncoded.Limit limit))
  text_limit (Ok code) r is =
      absurd (let e : status.Success ≡ status.Limit = sym r.text.paid.status ∙ is in cc)
  text_limit (Err uncoded.NoEntry) r is =
      absurd (let e : status.Refused ≡ status.Limit = sym r.text.paid.status ∙ is in cc)
  text_limit (Err (uncoded.Limit limit)) r is = (limit, r)
  text_limit (Err uncoded.Memory) r is = absurd r.text.paid

  pub text_success : (answer : Result Code Uncoded) → ReportsText call answer → call.status ≡ status.Success
      → (code : Code) × ReportsText call (Ok code)
  text_success (Ok code) r is = (code, r)
  text_success (Err uncoded.NoEntry) r is =
      absurd (let e : status.Refused ≡ status.Success = sym r.text.paid.status ∙ is in cc)
  text_success (Err (uncoded.Limit limit)) r is =
      absurd (let e : status.Limit ≡ status.Success = sym r.text.paid.status ∙ is in cc)
  text_success (Err uncoded.Memory) r is = absurd r.text.paid

  -- it's no run, and a run isn't it
  pub text_runs : {T : Type 0} (task : Task) → IsRun call.words task → Text → T
  text_runs task job t =
      let r = t.text.1 in
      let one : r.task ≡ task = one_job call.words r.task task r.job.0 job.0 in
      let e : command.Compile ≡ command.Run = sym r.job.1 ∙ ap (λ (t : Task). t.command) one ∙ job.1 in
      absurd cc

  pub whole_compiles : {T : Type 0} (task : Task) → IsCompile call.words task → Whole → T
  whole_compiles task job r =
      let one : r.task ≡ task = one_job call.words r.task task r.job.0 job.0 in
      let e : command.Run ≡ command.Compile = sym r.job.1 ∙ ap (λ (t : Task). t.command) one ∙ job.1 in
      absurd cc

  -- ---- what is due

  pub ended_done : Ending → (call.status ≡ status.WriteFault → ⊥) → (call.status ≡ status.Memory → ⊥)
      → IsDone call
  ended_done h no_write no_memory = elim h [
    | inl p ↦ inl (paid_done p)
    | inr others ↦ elim others [
      | inl p ↦ absurd (no_write p.ended)
      | inr others ↦ elim others [
        | inl p ↦ absurd (no_memory p.ended)
        | inr others ↦ elim others [
          | inl p ↦ inl (due_line status.ReadFault read_fault_line, inr (p.risen, refl), p.pays)
          | inr others ↦ elim others [
            | inl p ↦ elim p.runs.run [
              | inl w ↦ inr (whole_as (run_with call p.runs w))
              | inr broken ↦ elim broken [
                | inl c ↦ absurd (no_write c.0)
                | inr c ↦ absurd (no_memory c.0)
              ]
            ]
            | inr t ↦ inl (text_done t)
          ]
        ]
      ]
    ]
  ]

  pub ended_only : Ending → (files : Files) (one : Due) → Tells call files → Owes call.words files one
      → IsDecided call → PaidFor one
  ended_only h files one is owes good = elim (decided h good) [
    | inl p ↦ due.paid_owed call.words files p.names p.arisen one PaidFor (paid_arises files is p) p.pays owes
    | inr others ↦ elim others [
      | inl r ↦ absurd (due.run_owes call.words files one r.0.task.files r.0.program
          (whole_arises files is r.0) owes)
      | inr t ↦ absurd (due.compile_owes call.words files one t.text.1.task.files t.text.1.program
          (text_arises files is t) owes)
    ]
  ]

  pub ended_unread : Ending → (files : Files) → Tells call files → IsUnread call.words files
      → IsDecided call
      → (call.status ≡ status.Refused) ⊎ (call.status ≡ status.Limit)
  ended_unread h files is unread good = elim (decided h good) [
    | inl p ↦
        due.halt_so p.names call.status call.streams p.arisen p.pays
        (due.unread_halts call.words files p.names p.arisen unread (paid_arises files is p))
    | inr others ↦ elim others [
      | inl r ↦
          absurd (due.run_halts r.0.program
          (due.unread_halts call.words files r.0.task.files (outcome.Runs r.0.program) unread
          (whole_arises files is r.0)))
      | inr t ↦
          absurd (due.compile_halts t.text.1.program
          (due.unread_halts call.words files t.text.1.task.files (outcome.Compiles t.text.1.program) unread
          (text_arises files is t)))
    ]
  ]

  -- ---- accepted files

  -- Nothing is refused by the steps that judge whether files are accepted exactly where they are.
  pub ended_accepted : Ending → (files : Files) → Tells call files → IsDecided call
      → IsAcceptedJob call.words files ↔ GoesBehind call
  ended_accepted h files is good = (
    λ accepted. elim (decided h good) [
      | inl p ↦
          inl (paid_came _ p
          (due.arises_behind call.words files p.names p.arisen accepted (paid_arises files is p), p.pays))
      | inr others ↦ elim others [
        | inl r ↦ inr (inl (whole_as r.0))
        | inr t ↦ inr (inr t.text)
      ]
    ],
    λ behind. elim behind [
      | inl c ↦
          subst (IsAcceptedJob call.words) (told_same call.shelf.files c.0 files is c.1)
          (due.arises_accepted call.words c.0 c.2 c.3 c.4 c.5.0)
      | inr others ↦ elim others [
        | inl r ↦
            subst (IsAcceptedJob call.words) (told_same call.shelf.files r.files files is r.are_told)
            (due.arises_accepted call.words r.files r.task.files (outcome.Runs r.program)
            (due.run_arises call.words r.files r.task r.program r.job r.comes) refl)
        | inr t ↦
            let r = t.1 in
            subst (IsAcceptedJob call.words) (told_same call.shelf.files r.files files is r.are_told)
            (due.arises_accepted call.words r.files r.task.files (outcome.Compiles r.program)
            (due.compile_arises call.words r.files r.task r.program r.job r.comes) refl)
      ]
    ],
  )

  -- what ran, or was compiled, is accepted
  pub ran_accepted : (files : Files) (task : Task) → Tells call files → IsJob call.words task → Whole
      → Accepted files task.files
  ran_accepted files task is job r =
      due.task_accepted call.words files task job
      (due.arises_accepted call.words files r.task.files (outcome.Runs r.program) (whole_arises files is r)
      refl)

  pub text_accepted : (files : Files) (task : Task) → Tells call files → IsJob call.words task → Text
      → Accepted files task.files
  text_accepted files task is job t =
      due.task_accepted call.words files task job
      (due.arises_accepted call.words files t.text.1.task.files (outcome.Compiles t.text.1.program)
      (text_arises files is t) refl)

  -- Files that are checked are told to be accepted exactly where they are.
  pub ended_checked : Ending → (files : Files) (task : Task) → Tells call files → IsCheck call.words task
      → IsDecided call → Accepted files task.files ↔ PaidFor accepted_due
  ended_checked h files task is check good = (
    λ accepted.
        let asked : IsAcceptedJob call.words files =
        (task, check.0, accepted, ap judges (ap asked_by check.1)) in
        elim (decided h good) [
          | inl p ↦
              let arises = paid_arises files is p in
              let past = due.arises_behind call.words files p.names p.arisen asked arises in
              subst (λ o. IsSomeAnd (due_of p.names o) PaidFor)
              (due.check_accepted call.words files p.names p.arisen task check arises past) p.pays
          | inr others ↦ elim others [
            | inl r ↦
                let said = due.check_accepted call.words files r.0.task.files (outcome.Runs r.0.program) task
                check
                (whole_arises files is r.0) refl in
                absurd (let e : outcome.Runs r.0.program ≡ outcome.Accepted = said in cc)
            | inr t ↦
                let r = t.text.1 in
                let said = due.check_accepted call.words files r.task.files (outcome.Compiles r.program) task
                check (text_arises files is t) refl in
                absurd (let e : outcome.Compiles r.program ≡ outcome.Accepted = said in cc)
          ]
        ],
    λ pays. elim (decided h good) [
      | inl p ↦
          due.task_accepted call.words files task check.0
          (due.success_accepted call.words files p.names p.arisen task aims.Check call.status call.streams check.0
          (ap asked_by check.1) refl (paid_arises files is p) p.pays pays.status)
      | inr others ↦ elim others [
        | inl r ↦ ran_accepted files task is check.0 r.0
        | inr t ↦ text_accepted files task is check.0 t
      ]
    ],
  )

  -- The lives of the variables of files that are explained and accepted are told.
  pub ended_explained : Ending → (files : Files) (task : Task) (all : List (List ℕ)) (reads : List ReadFile)
      → Tells call files → IsExplain call.words task → IsDecided call
      → AreAcceptedAs files task.files all reads → PaidFor (explained_due (read_lives reads))
  ended_explained h files task all reads is job good accepted = elim (decided h good) [
    | inl p ↦
        subst (λ o. IsSomeAnd (due_of p.names o) PaidFor)
        (due.explain_tells call.words files p.names all p.arisen task reads job
        (paid_arises files is p) accepted) p.pays
    | inr others ↦ elim others [
      | inl r ↦
          let told_so = due.explain_tells call.words files r.0.task.files all
          (outcome.Runs r.0.program) task reads job (whole_arises files is r.0) accepted in
          absurd (let e : outcome.Runs r.0.program ≡ outcome.Explained (read_lives reads) = told_so in cc)
      | inr t ↦
          let r = t.text.1 in
          let told_so = due.explain_tells call.words files r.task.files all
          (outcome.Compiles r.program) task reads job (text_arises files is t) accepted in
          absurd (let e : outcome.Compiles r.program ≡ outcome.Explained (read_lives reads) = told_so in cc)
    ]
  ]

  -- what ended with success is accepted
  pub succeeded_accepted : (files : Files) (task : Task) (aim : Aim) → Tells call files → IsJob call.words task
      → asked_of task ≡ aim → judges aim ≡ true → Paid → call.status ≡ status.Success
      → Accepted files task.files
  succeeded_accepted files task aim is job asked judged p succeeds =
      due.task_accepted call.words files task job
      (due.success_accepted call.words files p.names p.arisen task aim call.status call.streams job asked judged
      (paid_arises files is p) p.pays succeeds)

  -- Only files that are accepted are explained with success.
  pub ended_explained_only : Ending → (files : Files) (task : Task) → Tells call files
      → IsExplain call.words task
      → call.status ≡ status.Success → Accepted files task.files
  ended_explained_only h files task is job succeeds = elim (decided h (ap is_decided succeeds)) [
    | inl p ↦ succeeded_accepted files task aims.Explain is job.0 (ap asked_by job.1) refl p succeeds
    | inr others ↦ elim others [
      | inl r ↦ ran_accepted files task is job.0 r.0
      | inr t ↦ text_accepted files task is job.0 t
    ]
  ]

  -- ---- runs

  -- The program of accepted files ran.
  pub ended_runs : Ending → (files : Files) (task : Task) → Tells call files → IsRun call.words task
      → IsDecided call → (run : Run) → IsToRun files task run → EndsAsRun run call.streams call.status
  unfolding whole_as run_with
  ended_runs h files task is job good run to = elim (decided h good) [
    | inl p ↦
        absurd (due.run_unpaid call.words files p.names to.all p.arisen task to.reads PaidFor job to.accepted
        (paid_arises files is p) p.pays)
    | inr others ↦ elim others [
      | inl r ↦
          let one : r.0.task ≡ task = one_job call.words r.0.task task r.0.job.0 job.0 in
          let whole = whole_as r.0 in
          let of_task =
          subst (λ (t : Task). EndsAsRun (run_of t (slots.modules r.0.program)) call.streams call.status) one
          whole.run in
          let comes = run_comes call files task is job r.0 in
          let of_files =
          subst (λ program. EndsAsRun (run_of task program) call.streams call.status)
          (due.run_modules files task.files to.all to.reads r.0.program to.accepted comes) of_task in
          subst (λ (one : Run). EndsAsRun one call.streams call.status) (sym to.is_run) of_files
      | inr t ↦ text_runs task job t
    ]
  ]

  -- What is seen of it is what it means.
  pub ended_shown : Ending → (files : Files) (task : Task) → Tells call files → IsRun call.words task
      → IsDecided call → (one : Run) → IsToRun files task one → IsSafe one.program
      → IsAsMeant one call.streams call.status
  ended_shown h files task is job good one to safe =
      run.run_shown one call.streams safe call.status (ended_runs h files task is job good one to)

  -- So are its events, where they are asked for.
  pub ended_lives : Ending → (files : Files) (task : Task) → Tells call files → IsRun call.words task
      → IsDecided call → (one : Run) → IsToRun files task one → IsSafe one.program → one.life ≡ true
      → HasLives one call.streams call.status
  ended_lives h files task is job good one to safe asked =
      run.run_lives one call.streams safe call.status (ended_runs h files task is job good one to) asked

  -- ---- by the status

  pub ended_words : Ending → call.status ≡ status.Words → IsNoJob call.words
  ended_words h is = elim (decided h (ap is_decided is)) [
    | inl p ↦
        due.words_so p.names call.status call.streams call.words p.files p.arisen p.arises p.pays is
    | inr others ↦ elim others [
      | inl r ↦ whole_not status.Words r.0 refl is
      | inr t ↦ text_not status.Words t refl is
    ]
  ]

  pub ended_no_job : Ending → IsNoJob call.words → IsDecided call → call.status ≡ status.Words
  ended_no_job h none good = elim (decided h good) [
    | inl p ↦
        due.no_job_so p.names call.status call.streams call.words p.files p.arisen p.arises p.pays none
    | inr others ↦ elim others [
      | inl r ↦ absurd (none r.0.task r.0.job.0)
      | inr t ↦ absurd (none t.text.1.task t.text.1.job.0)
    ]
  ]

  pub ended_refused : Ending → call.status ≡ status.Refused → IsRefused call
  ended_refused h is = elim (decided h (ap is_decided is)) [
    | inl p ↦
        inl (paid_came _ p (due.refused_so p.names call.status call.streams p.arisen
        (arises_outcome call.words p.files p.names p.arisen p.arises) p.pays is))
    | inr others ↦ elim others [
      | inl r ↦
          inr (inl (whole_to r.0 how.NoEntry (run.refused_ran r.0.run.ran (whole_status r.0 status.Refused is))))
      | inr t ↦ inr (inr (text_refused t.text.0 t.text.1 is))
    ]
  ]

  pub ended_limit : Ending → call.status ≡ status.Limit → PassesLimit call
  ended_limit h is = elim (decided h (ap is_decided is)) [
    | inl p ↦
        inl (paid_came _ p (due.passed_so p.names call.status call.streams p.arisen p.pays is))
    | inr others ↦ elim others [
      | inl r ↦
          let passed = run.limit_ran r.0.run.ran (whole_status r.0 status.Limit is) in
          inr (passed.0, inl (whole_to r.0 (how.Limit passed.0) passed.1))
      | inr t ↦
          let passed = text_limit t.text.0 t.text.1 is in
          inr (passed.0, inr passed.1)
    ]
  ]

  pub ended_missing_file : Ending → call.status ≡ status.Missing → MissesFile call
  ended_missing_file h is = elim (decided h (ap is_decided is)) [
    | inl p ↦ paid_came _ p (due.missing_so p.names call.status call.streams p.arisen p.pays is)
    | inr others ↦ elim others [
      | inl r ↦ whole_not status.Missing r.0 refl is
      | inr t ↦ text_not status.Missing t refl is
    ]
  ]

  pub ended_success : Ending → call.status ≡ status.Success → Succeeds call
  ended_success h is = elim (decided h (ap is_decided is)) [
    | inl p ↦
        inl (paid_came _ p (due.succeeded_so p.names call.status call.streams p.arisen p.pays is))
    | inr others ↦ elim others [
      | inl r ↦
          inr (inl (whole_to r.0 (how.Exit true) (run.exit_ran true r.0.run.ran
          (whole_status r.0 status.Success is))))
      | inr t ↦ inr (inr (text_success t.text.0 t.text.1 is))
    ]
  ]

  pub ended_failure : Ending → call.status ≡ status.Failure → ReportsRun call (how.Exit false)
  ended_failure h is = elim (decided h (ap is_decided is)) [
    | inl p ↦ paid_not status.Failure p refl is
    | inr others ↦ elim others [
      | inl r ↦
          whole_to r.0 (how.Exit false) (run.exit_ran false r.0.run.ran
          (whole_status r.0 status.Failure is))
      | inr t ↦ text_not status.Failure t refl is
    ]
  ]

  pub ended_abort : Ending → call.status ≡ status.Abort → Aborts call
  ended_abort h is = elim (decided h (ap is_decided is)) [
    | inl p ↦ paid_not status.Abort p refl is
    | inr others ↦ elim others [
      | inl r ↦
          let why = run.abort_ran r.0.run.ran (whole_status r.0 status.Abort is) in
          (why.0, whole_to r.0 (how.Abort why.0) why.1)
      | inr t ↦ text_not status.Abort t refl is
    ]
  ]

  pub ended_steps : Ending → call.status ≡ status.Steps → ReportsRun call how.Steps
  ended_steps h is = elim (decided h (ap is_decided is)) [
    | inl p ↦ paid_not status.Steps p refl is
    | inr others ↦ elim others [
      | inl r ↦ whole_to r.0 how.Steps (run.steps_ran r.0.run.ran (whole_status r.0 status.Steps is))
      | inr t ↦ text_not status.Steps t refl is
    ]
  ]

  pub ended_write : Ending → call.status ≡ status.WriteFault → LosesSink call
  ended_write h is = elim h [
    | inl p ↦ paid_not status.WriteFault p refl is
    | inr others ↦ elim others [
      | inl p ↦ inl (p.due, p.owed, p.cut)
      | inr others ↦ elim others [
        | inl p ↦ absurd (let e = sym p.ended ∙ is in cc)
        | inr others ↦ elim others [
          | inl p ↦ absurd (let e : status.ReadFault ≡ status.WriteFault = sym p.pays.status ∙ is in cc)
          | inr others ↦ elim others [
            | inl p ↦ elim p.runs.run [
              | inl w ↦ absurd (run.unwritten_ran w.ran w.written (sym w.status ∙ is))
              | inr broken ↦ elim broken [
                | inl c ↦ inr (run_with call p.runs c.1)
                | inr c ↦ absurd (let e = sym c.0 ∙ is in cc)
              ]
            ]
            | inr t ↦ text_not status.WriteFault t refl is
          ]
        ]
      ]
    ]
  ]

  pub ended_memory : Ending → call.status ≡ status.Memory
      → LacksMemory call
  ended_memory h is = elim h [
    | inl p ↦ paid_not status.Memory p refl is
    | inr others ↦ elim others [
      | inl p ↦ absurd (let e = sym p.ended ∙ is in cc)
      | inr others ↦ elim others [
        | inl p ↦ inl p.untouched
        | inr others ↦ elim others [
          | inl p ↦ absurd (let e : status.ReadFault ≡ status.Memory = sym p.pays.status ∙ is in cc)
          | inr others ↦ elim others [
            | inl p ↦ elim p.runs.run [
              | inl w ↦ whole_not status.Memory (run_with call p.runs w) refl is
              | inr broken ↦ elim broken [
                | inl c ↦ absurd (let e = sym c.0 ∙ is in cc)
                | inr c ↦ elim c.1 [
                  | inl none ↦ inl none
                  | inr stopped ↦ inr (run_with call p.runs stopped)
                ]
              ]
            ]
            | inr t ↦ text_not status.Memory t refl is
          ]
        ]
      ]
    ]
  ]

  -- the input failed while a program ran
  whole_read : (r : Whole) → call.status ≡ status.ReadFault
      → ReportsRun call how.ReadFault × HasFailed call.streams.input
  whole_read r is =
      let failed = run.read_ran r.run.ran (whole_status r status.ReadFault is) in (
        whole_to r how.ReadFault failed,
        subst (λ one. Rose (is_read_fault one) call.streams.input.old_faults call.streams.input.new_faults)
            failed r.run.rose,
      )

  pub ended_read : Ending → call.status ≡ status.ReadFault
      → LosesSource call × AreQuiet call.streams
  ended_read h is = elim h [
    | inl p ↦ paid_not status.ReadFault p refl is
    | inr others ↦ elim others [
      | inl p ↦ absurd (let e = sym p.ended ∙ is in cc)
      | inr others ↦ elim others [
        | inl p ↦ absurd (let e = sym p.ended ∙ is in cc)
        | inr others ↦ elim others [
          | inl p ↦ (inl (p.behind, p.risen), p.quiet)
          | inr others ↦ elim others [
            | inl p ↦ elim p.runs.run [
              | inl w ↦ (inr (whole_read (run_with call p.runs w) is), w.quiet)
              | inr broken ↦ elim broken [
                | inl c ↦ absurd (let e = sym c.0 ∙ is in cc)
                | inr c ↦ absurd (let e = sym c.0 ∙ is in cc)
              ]
            ]
            | inr t ↦ text_not status.ReadFault t refl is
          ]
        ]
      ]
    ]
  ]

  -- ---- counts, and the input

  pub ended_missing : Ending → call.status ≡ status.Missing → HasRisen call.shelf.old_misses
      call.shelf.new_misses
  ended_missing h is = elim (decided h (ap is_decided is)) [
    | inl p ↦
        let missed = due.missing_is p.names call.status call.streams p.arisen p.pays is in
        (subst (λ b. Counts b call.shelf.old_misses call.shelf.new_misses) missed p.missed).1
    | inr others ↦ elim others [
      | inl r ↦ whole_not status.Missing r.0 refl is
      | inr t ↦ text_not status.Missing t refl is
    ]
  ]

  pub ended_no_miss : Ending → IsDecided call → (call.status ≡ status.Missing → ⊥) → ShelfMissedNone call
  ended_no_miss h good other = elim (decided h good) [
    | inl p ↦
        let had = due.missing_no p.names call.status call.streams p.arisen p.pays other in
        (subst (λ b. Counts b call.shelf.old_misses call.shelf.new_misses) had p.missed).1
    | inr others ↦ elim others [
      | inl r ↦ r.2
      | inr t ↦ t.missed
    ]
  ]

  pub ended_quiet : Ending → IsDecided call
      → ShelfNeverFailed call × NeverFailed call.streams.input × AreQuiet call.streams
  ended_quiet h good = elim (decided h good) [
    | inl p ↦ (p.read, p.kept.1, p.quiet)
    | inr others ↦ elim others [
      | inl r ↦
          let read = run.decided_read r.0.run.ran (sym (ap is_decided r.0.run.status) ∙ good) in (
            r.1,
            subst (λ b. Rose b call.streams.input.old_faults call.streams.input.new_faults) read r.0.run.rose,
            r.0.run.quiet,
          )
      | inr t ↦ (t.read, t.kept.1, t.quiet)
    ]
  ]

  -- what a program ran that is to run
  runs_program : {P : Run → Type 0} → ComesToRun call P → HasProgram call
  runs_program r = (
    r.files,
    r.are_told,
    r.task.files,
    outcome.Runs r.program,
    due.run_arises call.words r.files r.task r.program r.job r.comes,
    (r.program, refl),
  )

  pub ended_input : Ending → HasStayed call.streams.input ⊎ HasProgram call
  ended_input h = elim h [
    | inl p ↦ inl p.kept
    | inr others ↦ elim others [
      | inl p ↦ inl p.kept
      | inr others ↦ elim others [
        | inl p ↦ inl p.kept
        | inr others ↦ elim others [
          | inl p ↦ inl p.kept
          | inr others ↦ elim others [
            | inl p ↦ inr (runs_program p.runs)
            | inr t ↦ inl t.kept
          ]
        ]
      ]
    ]
  ]
