-- What the ways in which a call ends say of a `compile`.
use Rattle.std.proofs.Common.{◌≡◌, ◌↔◌, ℕ, true, List, Result, Ok, Err, ap, ◌∙◌, sym, refl, subst, inl}
use Rattle.std.proofs.Common.{inr}
use Rattle.au_base.specs.declared.statuses.Status.{Status}
use Rattle.au_base.specs.declared.statuses.Status.TheVariants as status
use Rattle.au_base.specs.Outside.{Files}
use Rattle.au_syntax.specs.Plain.{Bytes}
use Rattle.au_words.specs.Jobs.{Task}
use Rattle.au_words.proofs.JobLemmas.{one_job}
use Rattle.au_modules.specs.Programs.{ModuleParts}
use Rattle.au_modules.specs.Slots as slots
use Rattle.au_typing.specs.Outsides.{outside_of}
use Rattle.au_typing.specs.Trees.{NotedParts}
use Rattle.au_typing.proofs.ProgramLemmas.{two_are_one}
use Rattle.au_outcomes.specs.NotingPrograms.Faults.{IsDerived}
use Rattle.au_running.specs.Answers.{ClosesWithin}
use Rattle.au_running.specs.Programs.{ClosedProgram, Closes}
use Rattle.au_running.proofs.ClosedPrograms.ClosedLemmas.{one_program}
use Rattle.au_low.specs.declared.code.Code.{Code}
use Rattle.au_running.specs.Closed.{code_of}
use Rattle.au_running.specs.Ran.{HasNoEntry, IsLowered}
use Rattle.au_running.specs.declared.coding.Uncoded.{Uncoded}
use Rattle.au_running.specs.declared.coding.Uncoded.TheVariants as uncoded
use Rattle.au_accepted.specs.Accepted.{Accepted, AreAcceptedAs}
use Rattle.au_outcomes.specs.Outcomes.{Comes, is_behind}
use Rattle.au_accepted.specs.Programs.{program_modules}
use Rattle.au_outcomes.specs.Programs.{CompileComes}
use Rattle.au_accepted.specs.Trees.{ReadFile}
use Rattle.au_outcomes.specs.declared.outcomes.Aim.TheVariants as aims
use Rattle.au_outcomes.specs.declared.outcomes.Outcome.{Outcome}
use Rattle.au_outcomes.specs.declared.outcomes.Outcome.TheVariants as outcome
use Rattle.au_outcomes.proofs.AcceptedLemmas.{behind_accepted, comes_asked}
use Rattle.au_outcomes.proofs.LaidLemmas.{laid_asked}
use Rattle.au_top.specs.Calls.{Call, ComesToText, HasPaid, HasSucceeded, IsDecided, PaysText, ReportsText}
use Rattle.au_top.specs.Calls.{Tells, is_decided}
use Rattle.au_top.specs.Dues.{Arises, IsCompile}
use Rattle.au_top.specs.Ends.{HasEnded, HasPaidAll}
use Rattle.au_top.specs.Entered.{CanCompile, CanRun, IsToRun}
use Rattle.au_top.specs.Promises.{CompilePromises}
use Rattle.au_top.specs.Runs.{Run, entry_for, run_of}
use Rattle.au_top.specs.Streams.{Streams}
use Rattle.au_top.specs.Texts.{text_due}
use Rattle.au_top.proofs.DueLemmas as due
use Rattle.au_top.proofs.EndLemmas as of

-- ---- one code

module _ (program : List ModuleParts) (noted other : List NotedParts) (owner name : Bytes) where
  -- what is lowered from an entry, with any notes of the program, is lowered to one code
  one_code : IsDerived program noted → IsDerived program other → (c : ClosedProgram)
      → Closes program other owner name c → (it : IsLowered program noted owner name) → it.c ≡ c
  one_code derived derives c closes it =
      let notes : noted ≡ other = two_are_one (outside_of program) program noted other derived derives in
      one_program program other owner name it.c c
      (subst (λ n. Closes program n owner name it.c) notes it.closes.closes) closes

  -- it closes with those notes
  closes_with : IsDerived program noted → IsDerived program other → (it : IsLowered program noted owner name)
      → ClosesWithin program other owner name it.c
  closes_with derived derives it =
      let notes : noted ≡ other = two_are_one (outside_of program) program noted other derived derives in
      subst (λ n. ClosesWithin program n owner name it.c) notes it.closes

  -- what closes from its entry has that entry
  has_entry : (c : ClosedProgram) → Closes program other owner name c → HasNoEntry program noted owner name
      → ⊥
  has_entry c closes none = elim none [
    | inl missing ↦ let e = sym missing ∙ closes.begins_there in cc
    | inr found ↦ let e = sym found.1 ∙ closes.begins_there in cc
  ]

-- ---- by the status

-- a status of what is compiled is one that is owed
text_owed : (ends : Status) → of.is_text ends ≡ true → due.is_owed ends ≡ true
text_owed status.Success h = refl
text_owed status.Refused h = refl
text_owed status.Limit h = refl
text_owed status.Failure h = absurd cc
text_owed status.Abort h = absurd cc
text_owed status.Steps h = absurd cc
text_owed status.ReadFault h = absurd cc
text_owed status.WriteFault h = absurd cc
text_owed status.Memory h = absurd cc
text_owed status.Missing h = absurd cc
text_owed status.Words h = absurd cc

-- one that is owed and none of the others is 2
owed_refused : (ends : Status) → due.is_owed ends ≡ true → (ends ≡ status.Limit → ⊥)
    → (ends ≡ status.Missing → ⊥) → (ends ≡ status.Words → ⊥) → (ends ≡ status.Success → ⊥)
    → ends ≡ status.Refused
owed_refused status.Success h limit missing words success = absurd (success refl)
owed_refused status.Refused h limit missing words success = refl
owed_refused status.Limit h limit missing words success = absurd (limit refl)
owed_refused status.Missing h limit missing words success = absurd (missing refl)
owed_refused status.Words h limit missing words success = absurd (words refl)
owed_refused status.Failure h limit missing words success = absurd cc
owed_refused status.Abort h limit missing words success = absurd cc
owed_refused status.Steps h limit missing words success = absurd cc
owed_refused status.ReadFault h limit missing words success = absurd cc
owed_refused status.WriteFault h limit missing words success = absurd cc
owed_refused status.Memory h limit missing words success = absurd cc

-- ---- jobs

-- the files of a `compile`, where they are accepted, come to nothing that isn't what a `compile` comes to
none_behind : (files : Files) (names : List (List ℕ)) (arisen other : Outcome) → arisen ≡ other
    → is_behind other ≡ true
    → ((reads : List ReadFile) → CompileComes reads other → ⊥)
    → Comes aims.Compile files names arisen → ⊥
none_behind files names arisen other same behind none comes =
    let good = behind_accepted aims.Compile files names arisen comes (ap is_behind same ∙ behind) in
    none good.1 (subst (λ o. CompileComes good.1 o) same
    (comes_asked aims.Compile files names good.0 good.1 arisen refl good.2 comes))

-- The files of a `compile` come neither to that they are accepted, nor to the lives of their variables, nor to
-- a report on capabilities, nor to a layout.
compile_succeeds : (words : List (List ℕ)) (files : Files) (names : List (List ℕ)) (arisen : Outcome)
    (task : Task) (s : Streams) → IsCompile words task → Arises words files names arisen
    → HasSucceeded s names arisen → ⊥
compile_succeeds words files names arisen task s job arises succeeded =
    let comes =
    due.task_comes words files names arisen task aims.Compile job.0 (due.compile_asks words task job) arises in
    elim succeeded [
      | inl p ↦ none_behind files task.files arisen outcome.Accepted p.0 refl (λ reads h. h) comes
      | inr others ↦ elim others [
        | inl p ↦ none_behind files task.files arisen (outcome.Explained p.0) p.1 refl (λ reads h. h) comes
        | inr more ↦ elim more [
          | inl p ↦ none_behind files task.files arisen (outcome.Reported p.0) p.1 refl (λ reads h. h) comes
          | inr p ↦
              let e : aims.Compile ≡ aims.Format =
              laid_asked aims.Compile files task.files p.0
              (subst (λ o. Comes aims.Compile files task.files o) p.1 comes) in
              cc
        ]
      ]
    ]

-- for a call whose words are a `compile`, and its files, which are told
module _ (call : Call) (files : Files) (task : Task) (is : Tells call files)
    (job : IsCompile call.words task) where
  -- the files that are told came to the program that was compiled
  text_comes : {P : Run → Type 0} (r : ComesToText call P)
      → Comes aims.Compile files task.files (outcome.Compiles r.program)
  text_comes r =
      let one : r.task ≡ task = one_job call.words r.task task r.job.0 job.0 in
      subst (λ f. Comes aims.Compile f task.files (outcome.Compiles r.program))
      (of.told_same call.shelf.files r.files files is r.are_told)
      (subst (λ (t : Task). Comes aims.Compile r.files t.files (outcome.Compiles r.program)) one r.comes)

  -- what holds of the run that would be of it holds of that of the files
  text_of : {P : Run → Type 0} (all : List (List ℕ)) (reads : List ReadFile)
      → AreAcceptedAs files task.files all reads → ComesToText call P
      → P (run_of task (program_modules reads))
  text_of {P} all reads accepted r =
      let one : r.task ≡ task = one_job call.words r.task task r.job.0 job.0 in
      subst (λ program. P (run_of task program))
      (due.compile_modules files task.files all reads r.program accepted (text_comes r))
      (subst (λ (t : Task). P (run_of t (slots.modules r.program))) one r.text)

  -- the code of a program that can be compiled, by what was answered of it
  text_paid : (can : CanCompile files task) (answer : Result Code Uncoded)
      → PaysText call (run_of task (program_modules can.reads)) answer
      → HasPaid call (text_due (code_of can.c))
  text_paid can (Ok code) paid =
      let program = program_modules can.reads in
      let entry = entry_for task.entry program in
      let it = paid.coded.code.done in
      let same = one_code program paid.coded.code.noted can.accepted.noted entry.«module» entry.function
      paid.coded.code.derived can.accepted.derives can.c can.closes.closes it.0 in
      subst (λ (code : Code). HasPaid call (text_due code)) (it.1 ∙ ap code_of same) paid.paid
  text_paid can (Err uncoded.NoEntry) paid =
      let program = program_modules can.reads in
      let entry = entry_for task.entry program in
      absurd (has_entry program paid.coded.code.noted can.accepted.noted entry.«module» entry.function
      can.c can.closes.closes paid.coded.code.done)
  text_paid can (Err (uncoded.Limit limit)) paid =
      absurd (paid.coded.exact can.accepted.noted can.c can.accepted.derives can.closes can.short)
  text_paid can (Err uncoded.Memory) paid = absurd paid.paid

  -- a program of which code was written can be compiled
  text_can : (code : Code) → ReportsText call (Ok code) → CanCompile files task
  text_can code r =
      let good : Accepted files task.files =
      behind_accepted aims.Compile files task.files (outcome.Compiles r.program) (text_comes r) refl in
      let program = program_modules good.1 in
      let entry = entry_for task.entry program in
      let paid : PaysText call (run_of task program) (Ok code) = text_of good.0 good.1 good.2 r in
      let it = paid.coded.code.done.0 in
      record {
        all = good.0;
        reads = good.1;
        accepted = good.2;
        c = it.c;
        closes =
            closes_with program paid.coded.code.noted good.2.noted entry.«module» entry.function
            paid.coded.code.derived good.2.derives it;
        short = it.short;
      }

-- ---- by the ways in which a call ends

module _ (call : Call) (h : HasEnded call) (files : Files) (is : Tells call files) (task : Task)
    (job : IsCompile call.words task) where
  -- what accepted files owe is not paid without their code
  unpaid : {T : Type 0} (all : List (List ℕ)) (reads : List ReadFile)
      → AreAcceptedAs files task.files all reads → HasPaidAll call → T
  unpaid all reads accepted p =
      absurd (due.compile_unpaid call.words files p.names all p.arisen task reads (HasPaid call) job accepted
      (of.paid_arises call files is p) p.pays)

  -- What is due for what was answered of the code was paid.
  compile_answered : IsDecided call → (run : Run) → IsToRun files task run
      → (answer : Result Code Uncoded) × PaysText call run answer
  compile_answered good run to = elim (of.decided call h good) [
    | inl p ↦ unpaid to.all to.reads to.accepted p
    | inr others ↦ elim others [
      | inl r ↦ of.whole_compiles call task job r.0
      | inr t ↦ (
        t.text.0,
        subst (λ (one : Run). PaysText call one t.text.0) (sym to.is_run)
            (text_of call files task is job to.all to.reads to.accepted t.text.1),
      )
    ]
  ]

  -- That is the C text of its code, where its program can be compiled.
  compile_compiled : IsDecided call → (can : CanCompile files task)
      → HasPaid call (text_due (code_of can.c))
  compile_compiled good can =
      let answered = compile_answered good (run_of task (program_modules can.reads)) (record {
        all = can.all;
        reads = can.reads;
        accepted = can.accepted;
        is_run = refl;
      }) in
      text_paid call files task is job can answered.0 answered.1

  -- Only then it ends with 0.
  compile_only : call.status ≡ status.Success → CanCompile files task
  compile_only succeeds = elim (of.decided call h (ap is_decided succeeds)) [
    | inl p ↦
        absurd (compile_succeeds call.words files p.names p.arisen task call.streams job
        (of.paid_arises call files is p)
        (due.succeeded_so p.names call.status call.streams p.arisen p.pays succeeds))
    | inr others ↦ elim others [
      | inl r ↦ of.whole_compiles call task job r.0
      | inr t ↦
          let code = of.text_success call t.text.0 t.text.1 succeeds in
          text_can call files task is job code.0 code.1
    ]
  ]

  -- a program that can run ends with 0, by what was answered of its code
  ran_paid : (can : CanRun files task) → (call.status ≡ status.Limit → ⊥) → (answer : Result Code Uncoded)
      → PaysText call (run_of task (program_modules can.reads)) answer → call.status ≡ status.Success
  ran_paid can no_limit (Ok code) paid = paid.paid.status
  ran_paid can no_limit (Err uncoded.NoEntry) paid = absurd (can.entry paid.coded.code.done)
  ran_paid can no_limit (Err (uncoded.Limit limit)) paid = absurd (no_limit paid.paid.status)
  ran_paid can no_limit (Err uncoded.Memory) paid = absurd paid.paid

  -- what can be compiled can run
  can_run : CanCompile files task → CanRun files task
  can_run can =
      let program = program_modules can.reads in
      let entry = entry_for task.entry program in
      record {
        all = can.all;
        reads = can.reads;
        accepted = can.accepted;
        entry = has_entry program can.accepted.noted can.accepted.noted entry.«module» entry.function can.c
            can.closes.closes;
      }

  -- Unless a limit is passed it ends with 0 exactly where its program can run.
  compile_entered : IsDecided call → (call.status ≡ status.Limit → ⊥)
      → CanRun files task ↔ (call.status ≡ status.Success)
  compile_entered good no_limit = (
    λ can.
        let answered = compile_answered good (run_of task (program_modules can.reads)) (record {
          all = can.all;
          reads = can.reads;
          accepted = can.accepted;
          is_run = refl;
        }) in
        ran_paid can no_limit answered.0 answered.1,
    λ succeeds. can_run (compile_only succeeds),
  )

  -- it ends with a status that is owed
  compile_owed : IsDecided call → due.is_owed call.status ≡ true
  compile_owed good = elim (of.decided call h good) [
    | inl p ↦ due.paid_ends p.names call.status call.streams p.arisen p.pays
    | inr others ↦ elim others [
      | inl r ↦ of.whole_compiles call task job r.0
      | inr t ↦ text_owed call.status (of.text_ends call t.text.0 t.text.1)
    ]
  ]

  -- With 2 it ends exactly where its program can't, unless a file is missing besides.
  compile_not_entered : IsDecided call → (call.status ≡ status.Limit → ⊥)
      → (call.status ≡ status.Missing → ⊥)
      → (CanRun files task → ⊥) ↔ (call.status ≡ status.Refused)
  compile_not_entered good no_limit no_missing = (
    λ cannot. owed_refused call.status (compile_owed good) no_limit no_missing
        (λ none. of.ended_words call h none task job.0)
        (λ succeeds. cannot (can_run (compile_only succeeds))),
    λ refused can.
        let e : status.Success ≡ status.Refused = sym ((compile_entered good no_limit).0 can) ∙ refused in cc,
  )

  pub compile_promises : CompilePromises call files task
  compile_promises = record {
    answered = compile_answered;
    compiled = compile_compiled;
    compiled_only = compile_only;
    entered = compile_entered;
    not_entered = compile_not_entered;
  }
