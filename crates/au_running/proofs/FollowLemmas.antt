-- Runs of the code of a closed program do what the program means that it is made of.
use Rattle.std.proofs.Common.{◌≡◌, ℕ, ◌+◌, ◌*◌, ◌≤◌, true, false, List, map, sym, ap, subst, ◌∙◌, arith}
use Rattle.std.proofs.Common.{leb-true, true≢false}
use Rattle.au_syntax.specs.Plain.{Bytes}
use Rattle.au_modules.specs.Programs.{ModuleParts}
use Rattle.au_typing.specs.Trees.{NotedParts}
use Rattle.au_closed_trees.specs.ClosedNotes.{Callee, ClosedNote}
use Rattle.au_lowering.specs.Programs.{ClosedProgram, Closes, plain_instance}
use Rattle.au_low.proofs.MutedRuns.{kept}
use Rattle.au_low.specs.Kept.{without_events}
use Rattle.au_low.specs.Runs as low
use Rattle.au_low.specs.Runs.{low_run}
use Rattle.au_low.specs.declared.code.Code.{Code}
use Rattle.au_low.specs.declared.code.LowType.{LowType}
use Rattle.au_low.specs.declared.endings.Ending.TheVariants as low_ending
use Rattle.au_lowered.specs.Agreeing.{ending_numbered}
use Rattle.au_lowered.specs.Programs.{lowered, texts_in}
use Rattle.au_lowering.specs.Closed.{body_seen, code_of, functions_numbered, row_seen, told_in}
use Rattle.au_meaning.specs.Laws.{is_over}
use Rattle.au_meaning.specs.Worlds as source
use Rattle.au_meaning.specs.Views.{Function}
use Rattle.au_meaning.specs.Worlds.{Outcome, abort, exit, running, stuck}
use Rattle.au_type_texts.specs.Types.{ClosedType}
use Rattle.au_lowered.specs.FollowLaws.{Follows}
use Rattle.au_running.specs.Asked.{FieldsAreOnce, ParametersAreOnce}
use Rattle.au_running.proofs.GoodLemmas.{followed_follow}
use Rattle.au_running.specs.Follows.{EndsInStep, KeepsStep, LoweredProgramsFollow, LoweredProgramsKeepStep}
use Rattle.au_running.specs.Meant.{means}
use Rattle.au_running.specs.Runs.{IsRunnable}
use Rattle.au_running.proofs.FollowedLemmas.{all_of}
use Rattle.au_running.proofs.NumberingLemmas.{code_same, same_functions}
use Rattle.au_running.proofs.OnceLemmas.{closed_fields_are_once, closed_parameters_are_once}
use Rattle.au_running.proofs.RunLemmas.{are_followed, means_so, numbers}

-- what has ended so in numbers hasn't spent its steps
over_ends : (texts : List Bytes) (end : source.Ending) → is_over end ≡ true
    → ending_numbered texts end ≡ low_ending.Steps → ⊥
over_ends texts (exit success) over is = grind arith
over_ends texts (abort fault) over is = grind arith
over_ends texts running over is = true≢false (sym over)
over_ends texts stuck over is = grind arith

-- a run of code that does what is meant for so many ticks, in which that has ended, ends in step with it
ends_in_step : {T C : Type 0} (told : ClosedType → LowType) (functions : List (Function ℕ T C))
    (meant : ℕ → Outcome) (input : List ℕ) (ticks : ℕ) → Follows told functions input (meant ticks)
    → is_over (meant ticks).ending ≡ true → EndsInStep (lowered told functions) meant input ticks
ends_in_step told functions meant input ticks follows over =
    let code = lowered told functions in
    let full = low_run true code input follows.steps in
    let same : (more : ℕ) → low_run false code input (follows.steps + more) ≡ without_events full =
    λ more. kept code input (follows.steps + more) ∙ ap without_events (follows.stays over more) in
    let least : (meant ticks).made ≤ full.made = leb-true _ _ follows.in_step.least in
    let most : full.made ≤ 8 * (meant ticks).made = leb-true _ _ follows.in_step.most in
    let made = follows.made in
    record {
      steps = follows.steps;
      least = omega (arith, least, made);
      most = omega (arith, most, made);
      made = λ more. ap (λ (o : low.Outcome). o.made) (same more) ∙ made;
      ended = λ more is. over_ends (texts_in functions) (meant ticks).ending over
          (sym follows.agrees.ending ∙ sym (ap (λ (o : low.Outcome). o.ending) (same more)) ∙ is);
    }

module _ (program : List ModuleParts) (noted : List NotedParts) (owner name : Bytes) (c : ClosedProgram)
    (closes : Closes program noted owner name c) (runnable : IsRunnable program noted)
    (once : ParametersAreOnce c.functions) (fields : FieldsAreOnce program) where
  -- with the functions as they are run
  all_follow : (input : List ℕ) (ticks : ℕ)
      → ((means program noted closes.entry input ticks).ending ≡ stuck → ⊥)
      → Follows (told_in c.types) (all_of (numbers program noted owner name c closes runnable once fields) c)
      input (means program noted closes.entry input ticks)
  all_follow input ticks claim =
      let told = told_in c.types in
      let so = means_so program noted owner name c closes runnable once fields input ticks in
      let followed = are_followed program noted owner name c closes runnable once fields input ticks claim in
      let first = numbers program noted owner name c closes runnable once fields in
      subst (λ (m : Outcome). Follows told (all_of first c) input m) (sym so)
      (followed_follow ClosedNote (Callee ℕ) told (all_of first c) followed input ticks
      (λ e. claim (ap (λ (o : Outcome). o.ending) so ∙ e)))

  run_follows : (input : List ℕ) (ticks : ℕ)
      → ((means program noted closes.entry input ticks).ending ≡ stuck → ⊥)
      → Follows (told_in c.types) (functions_numbered
      (numbers program noted owner name c closes runnable once fields) c)
      input (means program noted closes.entry input ticks)
  run_follows input ticks claim =
      let told = told_in c.types in
      let all = map body_seen c.functions in
      let rows = map row_seen c.types in
      let first = numbers program noted owner name c closes runnable once fields in
      let meant = means program noted closes.entry input ticks in
      subst (λ (functions : List (Function ℕ ClosedNote (Callee ℕ))). Follows told functions input meant)
      (sym (same_functions all rows c.functions first)) (all_follow input ticks claim)

  run_keeps_step : ((input : List ℕ) (ticks : ℕ) → (means program noted closes.entry input ticks).ending ≡ stuck → ⊥)
      → KeepsStep (code_of c) (means program noted closes.entry)
  run_keeps_step never input ticks over =
      let told = told_in c.types in
      let first = numbers program noted owner name c closes runnable once fields in
      let meant = means program noted closes.entry input in
      subst (λ (code : Code). EndsInStep code meant input ticks)
      (sym (code_same (map body_seen c.functions) (map row_seen c.types) told c.functions (λ n. 0) first))
      (ends_in_step told (all_of first c) meant input ticks (all_follow input ticks (never input ticks)) over)

-- a run of the code that a program is lowered to does what the program means
pub runs_follow : LoweredProgramsFollow
runs_follow program noted owner name c closes runnable =
    run_follows program noted owner name c closes runnable
    (closed_parameters_are_once program noted runnable.declared runnable.derived (plain_instance closes.entry)
    c.functions closes.functions)
    (closed_fields_are_once program runnable.declared)

-- and ends in step with it, where that is never stuck
pub runs_keep_step : LoweredProgramsKeepStep
runs_keep_step program noted owner name c closes runnable =
    run_keeps_step program noted owner name c closes runnable
    (closed_parameters_are_once program noted runnable.declared runnable.derived (plain_instance closes.entry)
    c.functions closes.functions)
    (closed_fields_are_once program runnable.declared)
