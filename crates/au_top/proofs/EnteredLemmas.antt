-- Which runs are entered, by the ways in which a call ends.
use Rattle.std.proofs.Common.{◌≡◌, ◌↔◌, ℕ, Bool, true, false, List, Option}
use Rattle.std.proofs.Common.{ap, ◌∙◌, sym, refl, subst, ◌⊎◌, inl, inr}
use Rattle.au_base.specs.declared.statuses.Status.{Status}
use Rattle.au_base.specs.declared.statuses.Status.TheVariants as status
use Rattle.au_base.specs.Outside.{Files}
use Rattle.au_syntax.specs.Plain.{Bytes}
use Rattle.au_words.specs.Jobs.{IsNoJob, Task}
use Rattle.au_words.proofs.JobLemmas.{one_job}
use Rattle.au_modules.specs.Programs.{ModuleParts}
use Rattle.au_modules.specs.Slots as slots
use Rattle.au_typing.specs.Trees.{NotedParts}
use Rattle.au_running.specs.Programs.{ClosedProgram, Closes}
use Rattle.au_judged_programs.specs.Sound.{AcceptedProgramsAreSound}
use Rattle.au_running.specs.Follows.{LoweredProgramsKeepStep}
use Rattle.au_running.specs.Ran.{HasNoEntry, ProgramEnds}
use Rattle.au_running.specs.declared.ran.Ran.{Ran}
use Rattle.au_running.specs.declared.ran.Ran.TheVariants as how
use Rattle.au_accepted.specs.Accepted.{Accepted}
use Rattle.au_outcomes.specs.Outcomes.{Comes, is_behind}
use Rattle.au_accepted.specs.Programs.{program_modules}
use Rattle.au_outcomes.specs.Programs.{RunComes}
use Rattle.au_accepted.specs.Trees.{ReadFile}
use Rattle.au_outcomes.specs.declared.outcomes.Aim.TheVariants as aims
use Rattle.au_outcomes.specs.declared.outcomes.Outcome.{Outcome}
use Rattle.au_outcomes.specs.declared.outcomes.Outcome.TheVariants as outcome
use Rattle.au_outcomes.proofs.AcceptedLemmas.{behind_accepted, comes_asked}
use Rattle.au_outcomes.proofs.LaidLemmas.{laid_asked}
use Rattle.au_top.specs.Calls.{Call, ComesToRun, HasSucceeded, IsDecided, IsRunEnd}
use Rattle.au_top.specs.Calls.{ShelfMissedNone}
use Rattle.au_top.specs.Calls.{ShelfNeverFailed, Tells, is_decided, is_run_end}
use Rattle.au_top.specs.Dues.{Arises, AsksForTooMany, IsRun}
use Rattle.au_top.specs.Ends.{HasEnded, HasPaidAll, IsRunWhole}
use Rattle.au_top.specs.Entered.{CanRun, HasEntry, IsToRun}
use Rattle.au_top.specs.Promises.{FilePromises, Promises, RunPromises}
use Rattle.au_top.specs.Runs.{Run, run_status}
use Rattle.au_top.specs.Sound.{IsSafe}
use Rattle.au_top.specs.Streams.{Streams}
use Rattle.au_top.proofs.DueLemmas as due
use Rattle.au_top.proofs.EndLemmas as of
use Rattle.au_top.proofs.SoundLemmas.{accepted_safe, safe_in_step}
use Rattle.au_top.proofs.CapsLemmas.{ended_reported, ended_reported_only}
use Rattle.au_top.proofs.FormatLemmas.{ended_formatted, ended_formatted_only}
use Rattle.au_top.proofs.TextLemmas.{compile_promises}

-- ---- by how it ran

-- for a program with notes, and the entry and the most steps of its run
module _ (program : List ModuleParts) (noted : List NotedParts) (owner name : Bytes) (life : Bool)
    (lines : Bytes) (steps : ℕ) where
  -- what closes to functions from its entry has that entry
  closes_entry : (c : ClosedProgram) → Closes program noted owner name c
      → HasNoEntry program noted owner name → ⊥
  closes_entry c closes none = elim none [
    | inl missing ↦ let e = sym missing ∙ closes.begins_there in cc
    | inr other ↦ let e = sym other.1 ∙ closes.begins_there in cc
  ]

  -- what ran to an end of its own has its entry
  end_entry : (ran : Ran) (told left out out' : Option (List ℕ)) → is_run_end (run_status ran) ≡ true
      → ProgramEnds program noted owner name life ran lines steps told left out out'
      → HasNoEntry program noted owner name → ⊥
  end_entry how.NoEntry told left out out' end h none = cc
  end_entry (how.Limit limit) told left out out' end h none = cc
  end_entry (how.Exit success) told left out out' end h none = closes_entry h.0.c h.0.closes.closes none
  end_entry (how.Abort words) told left out out' end h none = closes_entry h.0.c h.0.closes.closes none
  end_entry how.Steps told left out out' end h none = closes_entry h.0.c h.0.closes.closes none
  end_entry how.ReadFault told left out out' end h none = cc
  end_entry how.WriteFault told left out out' end h none = cc

  -- what has its entry, and ran without a limit that is passed, and without a failure, ended so
  entry_ends : (ran : Ran) (told left out out' : Option (List ℕ)) → is_decided (run_status ran) ≡ true
      → (run_status ran ≡ status.Limit → ⊥)
      → ProgramEnds program noted owner name life ran lines steps told left out out'
      → (HasNoEntry program noted owner name → ⊥)
      → is_run_end (run_status ran) ≡ true
  entry_ends how.NoEntry told left out out' good no_limit h has = absurd (has h.0)
  entry_ends (how.Limit limit) told left out out' good no_limit h has = absurd (no_limit refl)
  entry_ends (how.Exit true) told left out out' good no_limit h has = refl
  entry_ends (how.Exit false) told left out out' good no_limit h has = refl
  entry_ends (how.Abort words) told left out out' good no_limit h has = refl
  entry_ends how.Steps told left out out' good no_limit h has = refl
  entry_ends how.ReadFault told left out out' good no_limit h has = absurd cc
  entry_ends how.WriteFault told left out out' good no_limit h has = absurd cc

-- ---- by the status

-- a status that words and files decide, which is none of these others, is that of a run
end_else : (ends : Status) → is_decided ends ≡ true → (ends ≡ status.Limit → ⊥)
    → (ends ≡ status.Missing → ⊥) → (ends ≡ status.Words → ⊥) → (ends ≡ status.Refused → ⊥)
    → is_run_end ends ≡ true
end_else status.Success good limit missing words refused = refl
end_else status.Failure good limit missing words refused = refl
end_else status.Refused good limit missing words refused = absurd (refused refl)
end_else status.Abort good limit missing words refused = refl
end_else status.Steps good limit missing words refused = refl
end_else status.ReadFault good limit missing words refused = absurd cc
end_else status.WriteFault good limit missing words refused = absurd cc
end_else status.Memory good limit missing words refused = absurd cc
end_else status.Limit good limit missing words refused = absurd (limit refl)
end_else status.Missing good limit missing words refused = absurd (missing refl)
end_else status.Words good limit missing words refused = absurd (words refl)

-- the end of a run that has begun is success, or none that is paid
run_end_success : (ended : Status) → is_run_end ended ≡ true → due.is_owed ended ≡ true
    → ended ≡ status.Success
run_end_success status.Success a b = refl
run_end_success status.Failure a b = absurd cc
run_end_success status.Refused a b = absurd cc
run_end_success status.Abort a b = absurd cc
run_end_success status.Steps a b = absurd cc
run_end_success status.ReadFault a b = absurd cc
run_end_success status.WriteFault a b = absurd cc
run_end_success status.Memory a b = absurd cc
run_end_success status.Limit a b = absurd cc
run_end_success status.Missing a b = absurd cc
run_end_success status.Words a b = absurd cc

-- a status of its own is one that words and files decide
run_end_decided : (ended : Status) → is_run_end ended ≡ true → is_decided ended ≡ true
run_end_decided status.Success a = refl
run_end_decided status.Failure a = refl
run_end_decided status.Refused a = absurd cc
run_end_decided status.Abort a = refl
run_end_decided status.Steps a = refl
run_end_decided status.ReadFault a = absurd cc
run_end_decided status.WriteFault a = absurd cc
run_end_decided status.Memory a = absurd cc
run_end_decided status.Limit a = absurd cc
run_end_decided status.Missing a = absurd cc
run_end_decided status.Words a = absurd cc

-- ---- jobs

-- the files of a run, where they are accepted, come to nothing that isn't what a run comes to
none_behind : (files : Files) (names : List (List ℕ)) (arisen other : Outcome) → arisen ≡ other
    → is_behind other ≡ true → ((reads : List ReadFile) → RunComes reads other → ⊥)
    → Comes aims.Run files names arisen → ⊥
none_behind files names arisen other same behind none comes =
    let good = behind_accepted aims.Run files names arisen comes (ap is_behind same ∙ behind) in
    none good.1 (subst (λ o. RunComes good.1 o) same
    (comes_asked aims.Run files names good.0 good.1 arisen refl good.2 comes))

-- The files of a run come neither to that they are accepted nor to the lives of their variables nor to a report
-- on capabilities nor to their layout.
run_succeeds : (words : List (List ℕ)) (files : Files) (names : List (List ℕ)) (arisen : Outcome)
    (task : Task) (s : Streams) → IsRun words task → Arises words files names arisen
    → HasSucceeded s names arisen → ⊥
run_succeeds words files names arisen task s job arises succeeded =
    let comes =
    due.task_comes words files names arisen task aims.Run job.0 (due.run_asks words task job) arises in
    elim succeeded [
      | inl p ↦ none_behind files task.files arisen outcome.Accepted p.0 refl (λ reads h. h) comes
      | inr others ↦ elim others [
        | inl p ↦ none_behind files task.files arisen (outcome.Explained p.0) p.1 refl (λ reads h. h) comes
        | inr more ↦ elim more [
          | inl p ↦ none_behind files task.files arisen (outcome.Reported p.0) p.1 refl (λ reads h. h) comes
          | inr p ↦
              let asked = laid_asked aims.Run files task.files p.0
              (subst (λ o. Comes aims.Run files task.files o) p.1 comes) in
              absurd (let e : aims.Run ≡ aims.Format = asked in cc)
        ]
      ]
    ]

-- for a call whose words are a run, and its files, which are told
module _ (call : Call) (files : Files) (task : Task) (is : Tells call files)
    (job : IsRun call.words task) where
  -- a program that ran can run, where it has its entry
  ran_can : {P : Run → Type 0} (r : ComesToRun call P)
      → ((noted : List NotedParts) → HasEntry r.task.entry (slots.modules r.program) noted)
      → CanRun files task
  ran_can r has =
      let one : r.task ≡ task = one_job call.words r.task task r.job.0 job.0 in
      let comes = of.run_comes call files task is job r in
      let good : Accepted files task.files =
      behind_accepted aims.Run files task.files (outcome.Runs r.program) comes refl in
      let run : RunComes good.1 (outcome.Runs r.program) =
      comes_asked aims.Run files task.files good.0 good.1 (outcome.Runs r.program) refl good.2 comes in
      record {
        all = good.0;
        reads = good.1;
        accepted = good.2;
        entry =
            subst (λ program. HasEntry task.entry program good.2.noted) run
            (subst (λ (t : Task). HasEntry t.entry (slots.modules r.program) good.2.noted) one
            (has good.2.noted));
      }

  -- the entry of a program that can run is that of what ran
  can_ran : {P : Run → Type 0} (r : ComesToRun call P) → (can : CanRun files task)
      → HasEntry r.task.entry (slots.modules r.program) can.accepted.noted
  can_ran r can =
      let one : r.task ≡ task = one_job call.words r.task task r.job.0 job.0 in
      let same = due.run_modules files task.files can.all can.reads r.program can.accepted
      (of.run_comes call files task is job r) in
      subst (λ program. HasEntry r.task.entry program can.accepted.noted) (sym same)
      (subst (λ (t : Task). HasEntry t.entry (program_modules can.reads) can.accepted.noted) (sym one)
      can.entry)

  -- a program can run that ran to an end of its own
  whole_can : ComesToRun call (IsRunWhole call.status call.streams) → IsRunEnd call → CanRun files task
  whole_can r end =
      let runs = r.run.done.runs in
      ran_can r (λ noted. end_entry (slots.modules r.program) runs.noted _ _ r.task.life r.run.done.lines
      r.task.steps r.run.ran
      call.streams.input.old call.streams.input.new call.streams.out.old call.streams.out.new
      (sym (ap is_run_end r.run.status) ∙ end) runs.done)

-- ---- by the ways in which a call ends

module _ (call : Call) where
  -- how the call ended
  abbrev pub Ending : Type 0
  Ending = HasEnded call

  -- no line is paid for it that it succeeded
  paid_run : {T : Type 0} (files : Files) (task : Task) → Tells call files → IsRun call.words task
      → (p : HasPaidAll call) → IsRunEnd call → T
  paid_run files task is job p end =
      let success = run_end_success call.status end
      (due.paid_ends p.names call.status call.streams p.arisen p.pays) in
      absurd (run_succeeds call.words files p.names p.arisen task call.streams job
      (of.paid_arises call files is p)
      (due.succeeded_so p.names call.status call.streams p.arisen p.pays success))

  -- A run ends so only where its program can run.
  pub ended_runs_only : Ending → (files : Files) (task : Task) → Tells call files
      → IsRun call.words task → IsRunEnd call → CanRun files task
  ended_runs_only h files task is job end =
      elim (of.decided call h (run_end_decided call.status end)) [
        | inl p ↦ paid_run files task is job p end
        | inr others ↦ elim others [
          | inl r ↦ whole_can call files task is job r.0 end
          | inr t ↦ of.text_runs call task job t
        ]
      ]

  -- a program that can run, and ran, ended so
  whole_enters : (files : Files) (task : Task) → Tells call files → IsRun call.words task
      → IsDecided call → (call.status ≡ status.Limit → ⊥) → CanRun files task
      → ComesToRun call (IsRunWhole call.status call.streams) → IsRunEnd call
  whole_enters files task is job good no_limit can r =
      let runs = r.run.done.runs in
      let entry = can_ran call files task is job r can in
      ap is_run_end r.run.status
      ∙ entry_ends (slots.modules r.program) runs.noted _ _ r.task.life r.run.done.lines r.task.steps r.run.ran
      call.streams.input.old call.streams.input.new call.streams.out.old call.streams.out.new
      (sym (ap is_decided r.run.status) ∙ good) (λ limit. no_limit (r.run.status ∙ limit)) runs.done entry

  -- A run ends so exactly where its program can run, unless a limit is passed.
  pub ended_entered : Ending → (files : Files) (task : Task) → Tells call files
      → IsRun call.words task → IsDecided call → (call.status ≡ status.Limit → ⊥)
      → CanRun files task ↔ IsRunEnd call
  ended_entered h files task is job good no_limit = (
    λ can. elim (of.decided call h good) [
      | inl p ↦
          absurd (due.run_unpaid call.words files p.names can.all p.arisen task can.reads (of.PaidFor call)
          job
          can.accepted (of.paid_arises call files is p) p.pays)
      | inr others ↦ elim others [
        | inl r ↦ whole_enters files task is job good no_limit can r.0
        | inr t ↦ of.text_runs call task job t
      ]
    ],
    λ end. ended_runs_only h files task is job end,
  )

  -- It isn't refused exactly where its program can run, unless a file is missing besides.
  pub ended_accepts : Ending → (files : Files) (task : Task) → Tells call files
      → IsRun call.words task → IsDecided call → (call.status ≡ status.Limit → ⊥)
      → (call.status ≡ status.Missing → ⊥) → CanRun files task ↔ (call.status ≡ status.Refused → ⊥)
  ended_accepts h files task is job good no_limit no_missing = (
    λ can refused.
        let end : is_run_end call.status ≡ true = (ended_entered h files task is job good no_limit).0 can in
        let e : false ≡ true = sym (ap is_run_end refused) ∙ end in
        cc,
    λ allowed.
        ended_runs_only h files task is job
        (end_else call.status good no_limit no_missing (λ none. of.ended_words call h none task job.0) allowed),
  )

  -- ---- what is promised of the call

  -- the program of a run of files is safe to run
  to_run_safe : AcceptedProgramsAreSound → (files : Files) (task : Task) (run : Run) → IsToRun files task run
      → IsSafe run.program
  to_run_safe law files task run to =
      subst (λ (it : Run). IsSafe it.program) (sym to.is_run)
      (accepted_safe law files task.files to.all to.reads to.accepted)

  run_promises : AcceptedProgramsAreSound → LoweredProgramsKeepStep → Ending → (files : Files) → Tells call files
      → (task : Task) → IsRun call.words task → RunPromises call files task
  run_promises law steps h files is task job = record {
    accepts = λ good no_limit no_missing. ended_accepts h files task is job good no_limit no_missing;
    entered = λ good no_limit. ended_entered h files task is job good no_limit;
    runs_only = λ end. ended_runs_only h files task is job end;
    shown = λ good run to. of.ended_shown call h files task is job good run to (to_run_safe law files task run to);
    bounded = λ run to. safe_in_step steps run (to_run_safe law files task run to);
    sound = λ run to. (to_run_safe law files task run to).sound;
    lives = λ good run to asked.
        of.ended_lives call h files task is job good run to (to_run_safe law files task run to) asked;
    runs = λ good run to. of.ended_runs call h files task is job good run to;
  }

  file_promises : AcceptedProgramsAreSound → LoweredProgramsKeepStep → Ending → (files : Files)
      → Tells call files → FilePromises call files
  file_promises law steps h files is = record {
    only = λ due owes good. of.ended_only call h files due is owes good;
    unread = λ unread good. of.ended_unread call h files is unread good;
    accepted = λ good. of.ended_accepted call h files is good;
    checked = λ task check good. of.ended_checked call h files task is check good;
    explained =
        λ task all reads job good accepted. of.ended_explained call h files task all reads is job good
        accepted;
    explained_only = λ task job succeeds. of.ended_explained_only call h files task is job succeeds;
    reported = λ task all reads job good accepted. ended_reported call h files task all reads is job good accepted;
    reported_only = λ task job succeeds. ended_reported_only call h files task is job succeeds;
    formatted = λ name text job good laid. ended_formatted call h files name text is job good laid;
    formatted_only = λ name job succeeds. ended_formatted_only call h files name is job succeeds;
    run = run_promises law steps h files is;
    compile = λ task job. compile_promises call h files is task job;
  }

  -- A call that ended in one of these ways is as it is promised, where its shelf rests when it is to, and
  -- tells the same files, by what holds of accepted programs and of the code of programs.
  pub promised : AcceptedProgramsAreSound → LoweredProgramsKeepStep → Ending → (IsNoJob call.words → ShelfNeverFailed call × ShelfMissedNone call)
      → (AsksForTooMany call.words → ShelfNeverFailed call × ShelfMissedNone call)
      → call.shelf.new_files ≡ call.shelf.files → Promises call
  promised law steps h idle crowded files = record {
    due = of.ended_done call h;
    told = file_promises law steps h;
    words = of.ended_words call h;
    no_job = of.ended_no_job call h;
    refused = of.ended_refused call h;
    limit = of.ended_limit call h;
    missing_file = of.ended_missing_file call h;
    success = of.ended_success call h;
    failure = of.ended_failure call h;
    abort = of.ended_abort call h;
    steps = of.ended_steps call h;
    write_fault = of.ended_write call h;
    memory = of.ended_memory call h;
    read_fault = of.ended_read call h;
    missing = of.ended_missing call h;
    quiet = of.ended_quiet call h;
    no_miss = of.ended_no_miss call h;
    idle = idle;
    crowded = crowded;
    input = of.ended_input call h;
    files = files;
  }
