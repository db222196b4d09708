-- What a call has done that ran a program.
use Rattle.std.proofs.Common.{◌≡◌, ℕ, Bool, true, false, cond, List, [], ◌++◌, Option}
use Rattle.std.proofs.Common.{Result, Ok, Err, IfOk, OnOk, refl, subst, ◌⊎◌}
use Rattle.std.proofs.Common.{inl, inr, sym}
use Rattle.au_base.specs.declared.names.Entry.{Entry}
use Rattle.au_base.specs.declared.limits.Limit.{Limit}
use Rattle.au_base.specs.declared.statuses.Status.{Status}
use Rattle.au_base.specs.declared.statuses.Status.TheVariants as status
use Rattle.au_syntax.specs.Plain.{Bytes}
use Rattle.au_modules.specs.Programs.{ModuleParts}
use Rattle.au_typing.specs.Trees.{NotedParts}
use Rattle.au_outcomes.specs.NotingPrograms.Faults.{IsDerived}
use Rattle.au_outcomes.specs.Lines.{abort_line, steps_line}
use Rattle.au_runs.specs.Calls.{Rose}
use Rattle.au_running.specs.Came.{CodeCompletes}
use Rattle.au_running.specs.Closed.{code_of}
use Rattle.au_running.specs.Ran.{IsLowered, ProgramEnds, ProgramIsCut, is_read_fault, is_write_fault}
use Rattle.au_running.specs.declared.ran.Ran.{Ran}
use Rattle.au_running.specs.declared.ran.Ran.TheVariants as how
use Rattle.au_top.specs.Calls.{is_decided}
use Rattle.au_top.specs.Ends.{IsRunStopped, RunAnswers}
use Rattle.au_top.specs.Runs.{EndsAsRun, FromEntry, IsTold, Run, Runs, entry_of, run_line}
use Rattle.au_top.specs.Runs.{run_status}
use Rattle.au_top.specs.Shown.{HasLives, IsAsMeant, ShowsLives, ShowsMeaning}
use Rattle.au_top.specs.Streams.{Gains, GainsFront, HasFailed, HasStayed, Streams}
use Rattle.au_top.specs.Sound.{IsSafe}
use Rattle.au_running.proofs.ShownLemmas.{as_meant, lives_meant, lives_none, ran_broken}
use Rattle.au_top.proofs.SoundLemmas.{safe_from}
use Rattle.au_top.specs.declared.saying.AnswerFault.{AnswerFault}
use Rattle.au_top.specs.declared.saying.AnswerFault.TheVariants as answer

-- ---- by the status

pub refused_ran : (ran : Ran) → run_status ran ≡ status.Refused → ran ≡ how.NoEntry
refused_ran how.NoEntry h = refl
refused_ran (how.Limit limit) h = absurd cc
refused_ran (how.Exit true) h = absurd cc
refused_ran (how.Exit false) h = absurd cc
refused_ran (how.Abort words) h = absurd cc
refused_ran how.Steps h = absurd cc
refused_ran how.ReadFault h = absurd cc
refused_ran how.WriteFault h = absurd cc

pub limit_ran : (ran : Ran) → run_status ran ≡ status.Limit → (limit : Limit) × (ran ≡ how.Limit limit)
limit_ran how.NoEntry h = absurd cc
limit_ran (how.Limit limit) h = (limit, refl)
limit_ran (how.Exit true) h = absurd cc
limit_ran (how.Exit false) h = absurd cc
limit_ran (how.Abort words) h = absurd cc
limit_ran how.Steps h = absurd cc
limit_ran how.ReadFault h = absurd cc
limit_ran how.WriteFault h = absurd cc

pub exit_ran : (success : Bool) (ran : Ran) → run_status ran ≡ cond success status.Success status.Failure
    → ran ≡ how.Exit success
exit_ran true how.NoEntry h = absurd cc
exit_ran true (how.Limit limit) h = absurd cc
exit_ran true (how.Exit true) h = refl
exit_ran true (how.Exit false) h = absurd cc
exit_ran true (how.Abort words) h = absurd cc
exit_ran true how.Steps h = absurd cc
exit_ran true how.ReadFault h = absurd cc
exit_ran true how.WriteFault h = absurd cc
exit_ran false how.NoEntry h = absurd cc
exit_ran false (how.Limit limit) h = absurd cc
exit_ran false (how.Exit true) h = absurd cc
exit_ran false (how.Exit false) h = refl
exit_ran false (how.Abort words) h = absurd cc
exit_ran false how.Steps h = absurd cc
exit_ran false how.ReadFault h = absurd cc
exit_ran false how.WriteFault h = absurd cc

pub abort_ran : (ran : Ran) → run_status ran ≡ status.Abort → (words : Bytes) × (ran ≡ how.Abort words)
abort_ran how.NoEntry h = absurd cc
abort_ran (how.Limit limit) h = absurd cc
abort_ran (how.Exit true) h = absurd cc
abort_ran (how.Exit false) h = absurd cc
abort_ran (how.Abort words) h = (words, refl)
abort_ran how.Steps h = absurd cc
abort_ran how.ReadFault h = absurd cc
abort_ran how.WriteFault h = absurd cc

pub steps_ran : (ran : Ran) → run_status ran ≡ status.Steps → ran ≡ how.Steps
steps_ran how.NoEntry h = absurd cc
steps_ran (how.Limit limit) h = absurd cc
steps_ran (how.Exit true) h = absurd cc
steps_ran (how.Exit false) h = absurd cc
steps_ran (how.Abort words) h = absurd cc
steps_ran how.Steps h = refl
steps_ran how.ReadFault h = absurd cc
steps_ran how.WriteFault h = absurd cc

pub read_ran : (ran : Ran) → run_status ran ≡ status.ReadFault → ran ≡ how.ReadFault
read_ran how.NoEntry h = absurd cc
read_ran (how.Limit limit) h = absurd cc
read_ran (how.Exit true) h = absurd cc
read_ran (how.Exit false) h = absurd cc
read_ran (how.Abort words) h = absurd cc
read_ran how.Steps h = absurd cc
read_ran how.ReadFault h = refl
read_ran how.WriteFault h = absurd cc

-- the statuses of runs
abbrev pub is_run : Status → Bool
is_run status.Success = true
is_run status.Failure = true
is_run status.Refused = true
is_run status.Abort = true
is_run status.Steps = true
is_run status.ReadFault = true
is_run status.WriteFault = true
is_run status.Limit = true
is_run other = false

pub ran_ends : (ran : Ran) → is_run (run_status ran) ≡ true
ran_ends how.NoEntry = refl
ran_ends (how.Limit limit) = refl
ran_ends (how.Exit true) = refl
ran_ends (how.Exit false) = refl
ran_ends (how.Abort words) = refl
ran_ends how.Steps = refl
ran_ends how.ReadFault = refl
ran_ends how.WriteFault = refl

-- whose sink didn't fail
pub unwritten_ran : (ran : Ran) → is_write_fault ran ≡ false → run_status ran ≡ status.WriteFault → ⊥
unwritten_ran how.NoEntry none h = cc
unwritten_ran (how.Limit limit) none h = cc
unwritten_ran (how.Exit true) none h = cc
unwritten_ran (how.Exit false) none h = cc
unwritten_ran (how.Abort words) none h = cc
unwritten_ran how.Steps none h = cc
unwritten_ran how.ReadFault none h = cc
unwritten_ran how.WriteFault none h = cc

-- whose sink failed
pub written_is : (ran : Ran) → is_write_fault ran ≡ true → ran ≡ how.WriteFault
written_is how.NoEntry h = absurd cc
written_is (how.Limit limit) h = absurd cc
written_is (how.Exit success) h = absurd cc
written_is (how.Abort words) h = absurd cc
written_is how.Steps h = absurd cc
written_is how.ReadFault h = absurd cc
written_is how.WriteFault h = refl

-- whose input didn't fail
pub decided_read : (ran : Ran) → is_decided (run_status ran) ≡ true → is_read_fault ran ≡ false
decided_read how.NoEntry h = refl
decided_read (how.Limit limit) h = refl
decided_read (how.Exit success) h = refl
decided_read (how.Abort words) h = refl
decided_read how.Steps h = refl
decided_read how.ReadFault h = absurd cc
decided_read how.WriteFault h = refl

-- ---- runs that were broken off

-- for a program with notes, and the entry and the most steps of its run
module _ (program : List ModuleParts) (noted : List NotedParts) (owner name : Bytes) (life : Bool)
    (steps : ℕ) where
  -- a run that was made is one of which a front was written, or nothing was
  front_ran : (ran : Ran) (lines : Bytes) (told left out out' : Option (List ℕ))
      → ProgramEnds program noted owner name life ran lines steps told left out out'
      → (out' ≡ out) ⊎ ProgramIsCut program noted owner name steps told out out'
  front_ran how.NoEntry lines told left out out' h = inl h.1.1
  front_ran (how.Limit limit) lines told left out out' h = inl h.1.1
  front_ran other lines told left out out' h =
      inr (ran_broken program noted owner name life other lines steps told left out out' h)

-- for a run
module _ (run : Run) where
  -- this holds of its program with some notes from an entry on
  From : (P : List ModuleParts → List NotedParts → (owner name : Bytes) → Type 0) → Entry → Type 0
  From P entry =
      (noted : List NotedParts) × IsDerived run.program noted
      × P run.program noted entry.«module» entry.function

  -- so it does where that is its entry
  pub from_entry : (P : List ModuleParts → List NotedParts → (owner name : Bytes) → Type 0) (entry : Entry)
      → entry ≡ entry_of run
      → ((noted : List NotedParts) × IsDerived run.program noted
      × P run.program noted entry.«module» entry.function)
      → FromEntry run P
  unfolding From
  from_entry P entry is h =
      let there = subst (From P) is h in record { noted = there.0; derived = there.1; done = there.2 }

  -- ---- what a call answers

  module _ (s : Streams) where
    -- a run from this entry was made
    pub has_ran : (entry : Entry) (ran : Ran) (lines : Bytes) → entry ≡ entry_of run
        → ((noted : List NotedParts) × IsDerived run.program noted
        × ProgramEnds run.program noted entry.«module» entry.function run.life ran lines run.steps s.input.old
        s.input.new s.out.old s.out.new)
        → Runs run s ran lines
    has_ran entry ran lines is h =
        from_entry (λ program noted owner name. ProgramEnds program noted owner name run.life ran lines
        run.steps s.input.old s.input.new s.out.old s.out.new) entry is h

    -- nothing was done
    pub idle_stopped : s.out.new ≡ s.out.old → HasStayed s.err → s.out.new_faults ≡ s.out.old_faults
        → IsRunStopped s run
    idle_stopped same err quiet = inl (record { out = (same, quiet); err = err })

    -- memory ran out while the program ran
    pub run_stopped : (entry : Entry) → entry ≡ entry_of run
        → ((s.input.new ≡ s.input.old) × (s.out.new ≡ s.out.old))
        ⊎ ((noted : List NotedParts) × IsDerived run.program noted
        × ProgramIsCut run.program noted entry.«module» entry.function run.steps s.input.old s.out.old
        s.out.new)
        → HasStayed s.err → s.out.new_faults ≡ s.out.old_faults → IsRunStopped s run
    run_stopped entry is h err quiet = elim h [
      | inl p ↦ idle_stopped p.1 err quiet
      | inr p ↦
          inr (
            record {
              front =
                  from_entry (λ program noted owner name. ProgramIsCut program noted owner name run.steps
                  s.input.old
                  s.out.old s.out.new) entry is p;
              err = err;
            },
            quiet,
          )
    ]

    -- memory ran out behind a run
    ran_stopped : (ran : Ran) (lines : Bytes) → Runs run s ran lines → HasStayed s.err
        → s.out.new_faults ≡ s.out.old_faults → IsRunStopped s run
    ran_stopped ran lines h err quiet =
        elim (front_ran run.program h.noted _ _ run.life run.steps ran lines s.input.old s.input.new s.out.old s.out.new
        h.done) [
          | inl p ↦ idle_stopped p err quiet
          | inr p ↦
              inr (
                record { front = record { noted = h.noted; derived = h.derived; done = p }; err = err },
                quiet,
              )
        ]

    -- a run that a failure of its sink broke off
    pub run_cut : (ran : Ran) (lines : Bytes) → is_write_fault ran ≡ true → Runs run s ran lines
        → Rose (is_write_fault ran) s.out.old_faults s.out.new_faults → HasStayed s.err
        → RunAnswers (Err answer.Write) s run
    run_cut ran lines is h rose err =
        let there : Runs run s how.WriteFault lines =
        subst (λ ran. Runs run s ran lines) (written_is ran is) h in (
        inl (
          record {
            front =
                record {
                  noted = there.noted;
                  derived = there.derived;
                  done =
                      ran_broken run.program there.noted _ _ run.life how.WriteFault lines run.steps s.input.old
                      s.input.new
                      s.out.old s.out.new there.done;
                };
            err = err;
          },
          subst (λ b. Rose b s.out.old_faults s.out.new_faults) is rose,
        )
        )

    -- a run that was made, and what was said of it
    pub run_said : (r : Result Status AnswerFault) (entry : Entry) (ran : Ran) (lines : Bytes)
        → entry ≡ entry_of run → is_write_fault ran ≡ false → Runs run s ran lines
        → Rose (is_read_fault ran) s.input.old_faults s.input.new_faults
        → Rose (is_write_fault ran) s.out.old_faults s.out.new_faults
        → IfOk r (λ ends. ends ≡ run_status ran)
        → OnOk r (Gains s.err (lines ++ run_line entry run.steps ran))
        → OnOk r (s.err.new_faults ≡ s.err.old_faults)
        → (r ≡ Err answer.Write → GainsFront s.err (lines ++ run_line entry run.steps ran))
        → (r ≡ Err answer.Write → HasFailed s.err)
        → (r ≡ Err answer.Memory → HasStayed s.err)
        → RunAnswers r s run
    run_said (Ok ends) entry ran lines is none h rose stays same adds errors front risen memory =
        record {
          ran = ran;
          status = same;
          written = none;
          done = record {
            lines = lines;
            runs = h;
            told = subst (λ e. Gains s.err (lines ++ run_line e run.steps ran)) is adds;
          };
          rose = rose;
          quiet = (subst (λ b. Rose b s.out.old_faults s.out.new_faults) none stays, errors);
        }
    run_said (Err answer.Write) entry ran lines is none h rose stays same adds errors front risen memory =
        inr (
          ran,
          lines,
          h,
          subst (λ e. GainsFront s.err (lines ++ run_line e run.steps ran)) is (front refl),
          subst (λ b. Rose b s.out.old_faults s.out.new_faults) none stays,
          risen refl,
        )
    run_said (Err answer.Memory) entry ran lines is none h rose stays same adds errors front risen memory =
        ran_stopped ran lines h (memory refl) (subst (λ b. Rose b s.out.old_faults s.out.new_faults) none stays)

    -- ---- what is shown

    -- for a run of a program that is safe to run
    module _ (safe : IsSafe run.program) where
      -- what is told of what ran whole, on which this line is due
      module _ (ran : Ran) (line : Bytes) (h : IsTold run s ran) (told : Gains s.err (h.lines ++ line))
          (it : IsLowered run.program h.runs.noted (entry_of run).«module» (entry_of run).function)
          (whole : CodeCompletes (code_of it.c) run.life ran h.lines run.steps s.input.old s.input.new s.out.old
          s.out.new) where
        shown_by : ShowsMeaning run s ran line
        shown_by = record {
          meant = record {
            noted = h.runs.noted;
            derived = h.runs.derived;
            done = as_meant run.program h.runs.noted _ _ h.runs.derived (safe_from run.program safe _ _) it ran
                h.lines run.steps s.input.old s.input.new s.out.old s.out.new run.life whole;
          };
          lines = h.lines;
          unasked = lives_none run.program h.runs.noted _ _ h.runs.derived (safe_from run.program safe _ _) it ran
              h.lines run.steps s.input.old s.input.new s.out.old s.out.new run.life whole;
          told = told;
        }

        lives_by : run.life ≡ true → ShowsLives run s ran line
        lives_by asked = record {
          lines = h.lines;
          lives = record {
            noted = h.runs.noted;
            derived = h.runs.derived;
            done = lives_meant run.program h.runs.noted _ _ h.runs.derived (safe_from run.program safe _ _) it ran
                h.lines run.steps s.input.old s.input.new s.out.old s.out.new run.life whole asked;
          };
          told = told;
        }

      ran_shown : (ran : Ran) → IsTold run s ran → IsAsMeant run s (run_status ran)
      ran_shown how.NoEntry h = tt
      ran_shown (how.Limit limit) h = tt
      ran_shown (how.Exit true) h = shown_by (how.Exit true) [] h h.told h.runs.done.0 h.runs.done.1
      ran_shown (how.Exit false) h = shown_by (how.Exit false) [] h h.told h.runs.done.0 h.runs.done.1
      ran_shown (how.Abort words) h =
          (words, shown_by (how.Abort words) (abort_line words) h h.told h.runs.done.0 h.runs.done.1)
      ran_shown how.Steps h = shown_by how.Steps (steps_line run.steps) h h.told h.runs.done.0 h.runs.done.1
      ran_shown how.ReadFault h = tt
      ran_shown how.WriteFault h = tt

      ran_lives : (ran : Ran) → IsTold run s ran → run.life ≡ true → HasLives run s (run_status ran)
      ran_lives how.NoEntry h asked = tt
      ran_lives (how.Limit limit) h asked = tt
      ran_lives (how.Exit true) h asked = lives_by (how.Exit true) [] h h.told h.runs.done.0 h.runs.done.1 asked
      ran_lives (how.Exit false) h asked = lives_by (how.Exit false) [] h h.told h.runs.done.0 h.runs.done.1 asked
      ran_lives (how.Abort words) h asked =
          (words, lives_by (how.Abort words) (abort_line words) h h.told h.runs.done.0 h.runs.done.1 asked)
      ran_lives how.Steps h asked =
          lives_by how.Steps (steps_line run.steps) h h.told h.runs.done.0 h.runs.done.1 asked
      ran_lives how.ReadFault h asked = tt
      ran_lives how.WriteFault h asked = tt

      -- What is seen of a run is what its program means.
      pub run_shown : (ends : Status) → EndsAsRun run s ends → IsAsMeant run s ends
      run_shown ends h = subst (IsAsMeant run s) (sym h.status) (ran_shown h.ran h.done)

      -- and so are its events, where they are asked for
      pub run_lives : (ends : Status) → EndsAsRun run s ends → run.life ≡ true → HasLives run s ends
      run_lives ends h asked = subst (HasLives run s) (sym h.status) (ran_lives h.ran h.done asked)
