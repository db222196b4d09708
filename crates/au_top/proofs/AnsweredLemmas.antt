-- From what was found and what was answered to how a call ended.
use Rattle.std.proofs.Common.{◌≡◌, ℕ, Bool, true, false, List, Option, Some, Result, Ok, Err, IfErr, IfOk, OnOk}
use Rattle.std.proofs.Common.{IfSome}
use Rattle.std.proofs.Common.{sym, refl, subst, inl, inr}
use Rattle.std.specs.Prelude.{IsSomeAnd}
use Rattle.au_base.specs.declared.names.Entry.{Entry}
use Rattle.au_base.specs.declared.statuses.Status.{Status}
use Rattle.au_base.specs.declared.statuses.Status.TheVariants as status
use Rattle.au_base.specs.Outside.{Counts, Files}
use Rattle.au_words.specs.Jobs.{Task, IsJob}
use Rattle.au_modules.specs.declared.modules.Modules.{Modules}
use Rattle.au_modules.specs.Slots as slots
use Rattle.au_outcomes.specs.Lines.{read_fault_line}
use Rattle.au_outcomes.specs.Halts.{AreTold, is_missing, is_read}
use Rattle.au_outcomes.specs.declared.halts.CheckFault.{CheckFault}
use Rattle.au_outcomes.specs.declared.halts.CheckFault.TheVariants as fault
use Rattle.au_outcomes.specs.declared.outcomes.Outcome.{Outcome}
use Rattle.au_outcomes.specs.declared.outcomes.Outcome.TheVariants as outcome
use Rattle.au_outcomes.specs.Outcomes.{Comes}
use Rattle.au_outcomes.specs.declared.outcomes.Aim.TheVariants as aims
use Rattle.au_top.specs.Calls.{Call, Fails, FailsBehind, IsCut, Pays, Shelf}
use Rattle.au_top.specs.Dues.{Arises, Due, IsCompile, due_line, due_of}
use Rattle.au_top.specs.Ends.{FaultEnds, HasEnded, IfCompiles, IfRuns, RunAnswers, RunEnds, TextAnswers}
use Rattle.au_top.specs.Ends.{answer_ends}
use Rattle.au_top.specs.Runs.{Run}
use Rattle.au_top.specs.Streams.{AreQuiet, HasStayed, Streams}
use Rattle.au_top.specs.declared.saying.AnswerFault.{AnswerFault}
use Rattle.au_top.specs.declared.saying.AnswerFault.TheVariants as answer
use Rattle.au_top.proofs.DueLemmas.{compiles_compile, due_or_runs, runs_run, some_due}
use Rattle.au_top.proofs.SinkLemmas.{gains_none}

-- how a call ends that ran a program
run_ends : (r : Result Status AnswerFault) (s : Streams) (run : Run) → RunAnswers r s run
    → RunEnds (answer_ends r) s run
run_ends (Ok ends) s run h = inl h
run_ends (Err answer.Write) s run h = inr (inl (refl, h))
run_ends (Err answer.Memory) s run h = inr (inr (refl, h))

-- for words, the shelf and the streams
module _ (words : List (List ℕ)) (shelf : Shelf) (s : Streams) where
  -- the call, by the status with which it ended
  abbrev pub call_with : Status → Call
  call_with ends = record { words = words; shelf = shelf; streams = s; status = ends }

  -- what was due was paid, or was cut, or memory ran out
  answered_due : (r : Result Status AnswerFault) (files : Files) (names : List (List ℕ)) (arisen : Outcome)
      (due : Due)
      → AreTold shelf.files files → Arises words files names arisen → due_of names arisen ≡ Some due
      → shelf.new_faults ≡ shelf.old_faults → Counts (is_missing arisen) shelf.old_misses shelf.new_misses
      → IfOk r (λ ends. Pays due ends s) → OnOk r (AreQuiet s) → IfErr r (λ fault. Fails fault due s)
      → HasStayed s.input → HasEnded (call_with (answer_ends r))
  answered_due (Ok ends) files names arisen due are arises is read missed pays quiet fails kept =
      inl (record {
        files = files;
        are_told = are;
        names = names;
        arisen = arisen;
        arises = arises;
        pays = subst (λ o. IsSomeAnd o (λ one. Pays one ends s)) (sym is) pays;
        quiet = quiet;
        kept = kept;
        read = read;
        missed = missed;
      })
  answered_due (Err answer.Write) files names arisen due are arises is read missed pays quiet fails kept =
      inr (inl (record {
        ended = refl;
        due = due;
        owed = inl (files, are, inl (names, arisen, arises, is));
        cut = fails;
        kept = kept;
      }))
  answered_due (Err answer.Memory) files names arisen due are arises is read missed pays quiet fails kept =
      inr (inr (inl (record { ended = refl; untouched = fails; kept = kept })))

  -- the answer to a run of an entry, with so many steps, whose events are told or aren't, of a program
  abbrev Answers : Result Status AnswerFault → Option Entry → ℕ → Bool → Modules → Type 0
  Answers r entry steps life program =
      RunAnswers r s (record { named = entry; steps = steps; life = life; program = slots.modules program })

  -- a program was run
  answered_run : (r : Result Status AnswerFault) (files : Files) (names : List (List ℕ)) (program : Modules)
      (entry : Option Entry) (steps : ℕ) (life : Bool) → AreTold shelf.files files
      → Arises words files names (outcome.Runs program)
      → ((task : Task) → IsJob words task
      → (entry ≡ task.entry) × (steps ≡ task.steps) × (life ≡ task.life))
      → shelf.new_faults ≡ shelf.old_faults → shelf.new_misses ≡ shelf.old_misses
      → Answers r entry steps life program → HasEnded (call_with (answer_ends r))
  answered_run r files names program entry steps life are arises asked read missed h =
      let found = runs_run words files names program arises in
      let same = asked found.0 found.1.0 in
      inr (inr (inr (inr (inl (record {
        runs = record {
          files = files;
          are_told = are;
          task = found.0;
          job = found.1;
          program = program;
          comes = found.2;
          run =
              run_ends r s _ (subst (λ e. Answers r e found.0.steps found.0.life program) same.0
              (subst (λ n. Answers r entry n found.0.life program) same.1
              (subst (λ b. Answers r entry steps b program) same.2 h)));
        };
        read = read;
        missed = missed;
      })))))

  -- the answer to a program that is compiled
  abbrev Compiled : Result Status AnswerFault → Option Entry → ℕ → Bool → Modules → Type 0
  Compiled r entry steps life program =
      TextAnswers r s (record { named = entry; steps = steps; life = life; program = slots.modules program })

  -- what was answered of the code of a job
  text_ended : (r : Result Status AnswerFault) (files : Files) (program : Modules) (task : Task)
      → AreTold shelf.files files
      → IsCompile words task → Comes aims.Compile files task.files (outcome.Compiles program)
      → shelf.new_faults ≡ shelf.old_faults → shelf.new_misses ≡ shelf.old_misses → HasStayed s.input
      → Compiled r task.entry task.steps task.life program → HasEnded (call_with (answer_ends r))
  text_ended (Ok ends) files program task are job comes read missed kept h =
      inr (inr (inr (inr (inr (record {
        text = (
          h.answer,
          record {
            files = files;
            are_told = are;
            task = task;
            job = job;
            program = program;
            comes = comes;
            text = record { coded = h.coded; paid = h.pays.0 };
          },
        );
        quiet = h.pays.1;
        kept = kept;
        read = read;
        missed = missed;
      })))))
  text_ended (Err answer.Write) files program task are job comes read missed kept h =
      let one = some_due _ (λ due. IsCut due s) h.pays in
      inr (inl (record {
        ended = refl;
        due = one.0;
        owed = inl (
          files,
          are,
          inr (record {
            task = task;
            job = job;
            program = program;
            comes = comes;
            answer = h.answer;
            coded = h.coded;
            is_due = one.1;
          }),
        );
        cut = one.2;
        kept = kept;
      }))
  text_ended (Err answer.Memory) files program task are job comes read missed kept h =
      inr (inr (inl (record { ended = refl; untouched = h; kept = kept })))

  -- a program was compiled
  answered_text : (r : Result Status AnswerFault) (files : Files) (names : List (List ℕ)) (program : Modules)
      (entry : Option Entry) (steps : ℕ) (life : Bool) → AreTold shelf.files files
      → Arises words files names (outcome.Compiles program)
      → ((task : Task) → IsJob words task
      → (entry ≡ task.entry) × (steps ≡ task.steps) × (life ≡ task.life))
      → shelf.new_faults ≡ shelf.old_faults → shelf.new_misses ≡ shelf.old_misses → HasStayed s.input
      → Compiled r entry steps life program → HasEnded (call_with (answer_ends r))
  answered_text r files names program entry steps life are arises asked read missed kept h =
      let found = compiles_compile words files names program arises in
      let same = asked found.0 found.1.0 in
      text_ended r files program found.0 are found.1 found.2 read missed kept
      (subst (λ e. Compiled r e found.0.steps found.0.life program) same.0
      (subst (λ n. Compiled r entry n found.0.life program) same.1
      (subst (λ b. Compiled r entry steps b program) same.2 h)))

  -- What was answered for what was found says how the call ended.
  pub answered : (r : Result Status AnswerFault) (names : List (List ℕ)) (arisen : Outcome)
      (entry : Option Entry)
      (steps : ℕ) (life : Bool) → ((files : Files) × AreTold shelf.files files × Arises words files names arisen)
      → ((task : Task) → IsJob words task
      → (entry ≡ task.entry) × (steps ≡ task.steps) × (life ≡ task.life))
      → Counts false shelf.old_faults shelf.new_faults
      → Counts (is_missing arisen) shelf.old_misses shelf.new_misses
      → IfSome (due_of names arisen) (λ due. IfOk r (λ ends. Pays due ends s))
      → IfSome (due_of names arisen) (λ due. OnOk r (AreQuiet s))
      → IfSome (due_of names arisen) (λ due. IfErr r (λ fault. Fails fault due s))
      → IfSome (due_of names arisen) (λ due. HasStayed s.input)
      → IfRuns arisen (λ program. RunAnswers r s (record {
        named = entry;
        steps = steps;
        life = life;
        program = program;
      }))
      → IfCompiles arisen (λ program. TextAnswers r s (record {
        named = entry;
        steps = steps;
        life = life;
        program = program;
      }) × HasStayed s.input)
      → (ends : Status) → ends ≡ answer_ends r → HasEnded (call_with ends)
  answered r names arisen entry steps life found asked read missed pays quiet fails kept runs texts ends is =
      subst (λ e. HasEnded (call_with e)) (sym is)
      (elim (due_or_runs names arisen) [
        | inl d ↦
            answered_due r found.0 names arisen d.0 found.1 found.2 d.1 read.1 missed
            (subst (λ o. IfSome o (λ due. IfOk r (λ ends. Pays due ends s))) d.1 pays)
            (subst (λ o. IfSome o (λ due. OnOk r (AreQuiet s))) d.1 quiet)
            (subst (λ o. IfSome o (λ due. IfErr r (λ fault. Fails fault due s))) d.1 fails)
            (subst (λ o. IfSome o (λ due. HasStayed s.input)) d.1 kept)
        | inr others ↦ elim others [
          | inl p ↦
              answered_run r found.0 names p.0 entry steps life found.1
              (subst (λ o. Arises words found.0 names o) p.1 found.2) asked read.1
              (subst (λ o. Counts (is_missing o) shelf.old_misses shelf.new_misses) p.1 missed).1
              (subst (λ o. IfRuns o (λ program. RunAnswers r s (record {
                named = entry;
                steps = steps;
                life = life;
                program = program;
              }))) p.1 runs)
          | inr p ↦
              let h = subst (λ o. IfCompiles o (λ program. TextAnswers r s (record {
                named = entry;
                steps = steps;
                life = life;
                program = program;
              }) × HasStayed s.input)) p.1 texts in
              answered_text r found.0 names p.0 entry steps life found.1
              (subst (λ o. Arises words found.0 names o) p.1 found.2) asked read.1
              (subst (λ o. Counts (is_missing o) shelf.old_misses shelf.new_misses) p.1 missed).1 h.1 h.0
        ]
      ])

  -- It isn't known what the files come to: the shelf failed, or memory ran out.
  pub unanswered : (e : CheckFault) (ends : Status) → (is_read e ≡ true → FailsBehind words shelf.files)
      → Counts (is_read e) shelf.old_faults shelf.new_faults → FaultEnds e ends s.err → HasStayed s.out
      → HasStayed s.input → HasEnded (call_with ends)
  unanswered fault.Read ends behind risen ended out kept = elim ended [
    | inl p ↦
        inr (inr (inr (inl (record {
          behind = behind refl;
          risen = risen.1;
          pays = record { status = p.0; out_bytes = gains_none s.out out; err_bytes = p.1 };
          quiet = (out.1, p.2);
          kept = kept;
        }))))
    | inr p ↦
        inr (inl (record {
          ended = p.0;
          due = due_line status.ReadFault read_fault_line;
          owed = inr (risen.1, refl);
          cut =
              record { out_bytes = (0, gains_none s.out out); err_bytes = p.1; risen = inr (out.1, p.2) };
          kept = kept;
        }))
  ]
  unanswered fault.Memory ends behind risen ended out kept =
      inr (inr (inl (record {
        ended = ended.0;
        untouched = record { out = out; err = ended.1 };
        kept = kept;
      })))
