-- What is answered of a run of a program's code is so of the program.
use Rattle.std.proofs.Common.{◌≡◌, ℕ, Bool, true, false, List, [], ◌++◌, Option, Some, Result, Ok, Err, ap, subst}
use Rattle.std.proofs.Common.{sym, ◌∙◌}
use Rattle.std.specs.Prelude.{IsSomeAnd}
use Rattle.std.proofs.Common.{true≢false}
use Rattle.au_base.specs.declared.limits.Limit.{Limit}
use Rattle.au_typing.specs.Trees.{NotedParts}
use Rattle.au_effects.specs.Worlds.{Deed}
use Rattle.au_low.specs.declared.code.Code.{Code}
use Rattle.au_low.specs.declared.endings.Ending.{Ending}
use Rattle.au_low.specs.declared.endings.Ending.TheVariants as ending
use Rattle.au_low.specs.Runs.{low_run}
use Rattle.au_lowering.specs.Closed.{code_of}
use Rattle.au_modules.specs.Programs.{ModuleParts}
use Rattle.au_lowering.specs.Faults.{IsDerived}
use Rattle.au_meaning.specs.Worlds.{stuck}
use Rattle.au_runs.specs.Calls.{IsCut}
use Rattle.au_running.specs.Came.{CodeCompletes, CodeEnds, IsNeverStuck}
use Rattle.au_running.specs.Coded.{HasCode, IsProgramCode}
use Rattle.au_running.specs.Fronts.{StuckRunsAreMeant}
use Rattle.au_running.specs.Lines.{deeds_told}
use Rattle.au_running.specs.Meant.{means}
use Rattle.au_running.specs.Ran.{IsLowered, IsSafeFrom, LivesAsMeant, ProgramEnds, ProgramIsCut, RunsAsMeant}
use Rattle.au_running.specs.Runs.{IsRunnable, LoweredProgramsRun, ran_by}
use Rattle.au_running.specs.Shown.{AnswerShows}
use Rattle.au_running.specs.Tells.{EventsShow, LoweredProgramsTell, type_words}
use Rattle.au_running.specs.declared.coding.Uncoded.{Uncoded}
use Rattle.au_running.specs.declared.coding.Uncoded.TheVariants as uncoded
use Rattle.au_running.specs.declared.ran.Ran.{Ran}
use Rattle.au_running.specs.declared.ran.Ran.TheVariants as how
use Rattle.au_running.proofs.AnswerLemmas.{came_cut}
use Rattle.au_running.proofs.FrontLemmas.{given_by}
use Rattle.au_running.proofs.MutedLemmas.{made_muted}
use Rattle.au_syntax.specs.Plain.{Bytes}

-- no run of code is answered as one that didn't begin
begun : {T : Type 0} (code : Code) (end : Ending) → ran_by code end ≡ Some how.NoEntry → T
begun code (ending.Exit success) is = absurd cc
begun code (ending.Abort why) is = absurd cc
begun code ending.Steps is = absurd cc
begun code ending.Stuck is = absurd cc

unlimited : {T : Type 0} (code : Code) (limit : Limit) (end : Ending)
    → ran_by code end ≡ Some (how.Limit limit) → T
unlimited code limit (ending.Exit success) is = absurd cc
unlimited code limit (ending.Abort why) is = absurd cc
unlimited code limit ending.Steps is = absurd cc
unlimited code limit ending.Stuck is = absurd cc

module _ (program : List ModuleParts) (noted : List NotedParts) (owner name : Bytes) where
  -- what a run of its code says of a program
  ran_so : (it : IsLowered program noted owner name) (life : Bool) (ran : Ran) (lines : Bytes) (steps : ℕ)
      (told left out out' : Option (List ℕ))
      → CodeEnds (code_of it.c) life ran lines steps told left out out'
      → ProgramEnds program noted owner name life ran lines steps told left out out'
  ran_so it life how.NoEntry lines steps told left out out' came =
      begun (code_of it.c) came.ending came.answer
  ran_so it life (how.Limit limit) lines steps told left out out' came =
      unlimited (code_of it.c) limit came.ending came.answer
  ran_so it life other lines steps told left out out' came = (it, came)

  -- a run of which no more is told than that a front of what it writes was written
  pub ran_broken : (life : Bool) (ran : Ran) (lines : Bytes) (steps : ℕ)
      (told left out out' : Option (List ℕ))
      → (it : IsLowered program noted owner name)
      × CodeEnds (code_of it.c) life ran lines steps told left out out'
      → ProgramIsCut program noted owner name steps told out out'
  ran_broken life ran lines steps told left out out' run =
      (run.0, came_cut (code_of run.0.c) life ran lines steps told left out out' run.1)

  -- for a program that is safe to run from its entry, and a run of the code that it's lowered to
  module _ (derived : IsDerived program noted) (safe : IsSafeFrom program owner name)
      (it : IsLowered program noted owner name) where
    runnable : IsRunnable program noted
    runnable = record { derived = derived; declared = safe.declared }

    -- what the program means isn't stuck
    unstuck : (input : List ℕ) (ticks : ℕ)
        → (means program noted it.closes.closes.entry input ticks).ending ≡ stuck → ⊥
    unstuck = safe.unstuck noted derived it.closes.closes.entry it.c.root it.closes.closes.begins_there

    module _ (ran : Ran) (lines : Bytes) (steps : ℕ) (told left out out' : Option (List ℕ)) where
      -- what is answered shows what the program means
      pub as_meant : (life : Bool) → CodeCompletes (code_of it.c) life ran lines steps told left out out'
          → RunsAsMeant program noted owner name ran steps told left out out'
      as_meant life run =
          let closes = it.closes.closes in
          let code = code_of it.c in
          let made = made_muted life code run.ending steps told left out out' run.events run.made in
          let input = made.taken ++ made.rest in
          let meant = means program noted closes.entry in
          let seen = low_run false code input steps in
          record {
            entry = closes.entry;
            root = it.c.root;
            begins_there = closes.begins_there;
            shows = record {
              taken = made.taken;
              rest = made.rest;
              input = made.input;
              written = seen.output;
              output = made.output;
              shows =
                  subst (λ (left : List ℕ). AnswerShows ran (meant input) steps seen.output left) made.left_over
                  (subst (λ (o : Option Ran). IsSomeAnd o (λ ran. AnswerShows ran (meant input) steps seen.output
                  seen.left)) (ap (ran_by code) made.ending ∙ run.answer)
                  (it.meant runnable input steps (unstuck input steps)));
            };
          }

      -- what the lines of its events show, where they are asked for
      pub lives_meant : (life : Bool) → CodeCompletes (code_of it.c) life ran lines steps told left out out'
          → life ≡ true → LivesAsMeant program noted owner name ran lines steps told
      lives_meant false run is = absurd (true≢false (sym is))
      lives_meant true run is =
          let code = code_of it.c in
          let made = run.made in
          let input = made.taken ++ made.rest in
          let words = type_words it.c.types in
          let meant = means program noted it.closes.closes.entry in
          record {
            it = it;
            input = input;
            given = given_by told left made.taken made.rest made.input.before made.input.after;
            deeds = deeds_told code run.events;
            are_lines = run.tells;
            shows =
                subst (λ (events : List (Deed ℕ)). EventsShow words ran (meant input) steps
                (deeds_told code events)) (sym made.tells)
                (subst (λ (o : Option Ran). IsSomeAnd o (λ ran. EventsShow words ran (meant input) steps
                (deeds_told code (low_run true code input steps).events)))
                (ap (ran_by code) made.ending ∙ run.answer)
                (it.tells runnable input steps (unstuck input steps)));
          }

      -- there are none where they aren't
      pub lives_none : (life : Bool) → CodeCompletes (code_of it.c) life ran lines steps told left out out'
          → life ≡ false → lines ≡ []
      lives_none true run is = absurd (true≢false is)
      lives_none false run is = run.tells

  -- the code of a program that is safe to run is never stuck
  pub never_stuck : StuckRunsAreMeant → IsDerived program noted → IsSafeFrom program owner name → (code : Code)
      → HasCode program noted owner name (Ok code) → IsNeverStuck code
  never_stuck law derived safe code has input limit is =
      let closes = has.1.closes in
      safe.unstuck noted derived closes.entry has.0.root closes.begins_there input limit
      (law program noted owner name has.0 closes (record { derived = derived; declared = safe.declared }) input limit
      (subst (λ (code : Code). (low_run false code input limit).ending ≡ ending.Stuck) has.3 is))

  module _ (law : LoweredProgramsRun) (also : LoweredProgramsTell)
      (code : Code) (has : HasCode program noted owner name (Ok code)) where
    -- the program is lowered to its code
    abbrev lowered : IsLowered program noted owner name
    lowered = record {
      c = has.0;
      closes = has.1;
      short = has.2;
      meant = law program noted owner name has.0 has.1.closes;
      tells = also program noted owner name has.0 has.1.closes;
    }

    -- what is answered of a run of its code
    pub came_so : (life : Bool) (ran : Ran) (lines : Bytes) (steps : ℕ)
        (told left out out' : Option (List ℕ)) → CodeEnds code life ran lines steps told left out out'
        → ProgramEnds program noted owner name life ran lines steps told left out out'
    came_so life ran lines steps told left out out' came =
        ran_so lowered life ran lines steps told left out out'
        (subst (λ (code : Code). CodeEnds code life ran lines steps told left out out') has.3 came)

    -- a run of its code that was cut off
    pub cut_so : (steps : ℕ) (told out out' : Option (List ℕ))
        → IsCut (low_run false code) steps told out out'
        → ProgramIsCut program noted owner name steps told out out'
    cut_so steps told out out' cut =
        (lowered, subst (λ (code : Code). IsCut (low_run false code) steps told out out') has.3 cut)

  -- what is answered of its code
  pub code_so : LoweredProgramsRun → LoweredProgramsTell → (answer : Result Code Uncoded)
      → HasCode program noted owner name answer → IsProgramCode program noted owner name answer
  code_so law also (Ok code) has = (lowered law also code has, has.3)
  code_so law also (Err uncoded.NoEntry) has = has
  code_so law also (Err (uncoded.Limit limit)) has = has
  code_so law also (Err uncoded.Memory) has = tt
