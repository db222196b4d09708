-- The code of a program does what the program means.
use Rattle.std.specs.Prelude.{◌≡◌, ℕ, ◌+◌, ◌/◌, true, List, map, Option, slice_get}
use Rattle.au_type_texts.specs.Types.{ClosedType}
use Rattle.au_low.specs.declared.code.LowType.{LowType}
use Rattle.au_low.specs.declared.endings.Ending.TheVariants.{Steps}
use Rattle.au_low.specs.Runs as low
use Rattle.au_low.specs.Runs.{low_run}
use Rattle.au_lowered.specs.Agreeing.{Agrees, InStep, event_numbered}
use Rattle.au_lowered.specs.Drafts.{Draft}
use Rattle.au_lowered.specs.Expressions.{code, opens}
use Rattle.au_lowered.specs.Programs.{types_in, lowered}
use Rattle.au_meaning.specs.Expressions.{eval}
use Rattle.au_meaning.specs.Laws.{Begins, is_over}
use Rattle.au_meaning.specs.Meanings.{mean}
use Rattle.au_meaning.specs.Ticks.{Action}
use Rattle.au_meaning.specs.Views.{Function, View}
use Rattle.au_meaning.specs.Worlds.{Value, Outcome, stuck}
use Rattle.au_lowered.specs.Premises.{GoodView, Placed, GoodCalls}
use Rattle.au_lowered.specs.FollowPrograms.{GoodProgram}
use Rattle.au_lowered.specs.Rows.{Gives}
use Rattle.au_lowered.specs.Scopes.{Entry, numbers_in, slots_in, Distinct}
use Rattle.au_lowered.specs.Sides.{Coding}
use Rattle.au_lowered.specs.Frames.{Wide, Frame}
use Rattle.au_syntax.specs.Expressions.{Expression}
use Rattle.au_syntax.specs.Plain.{Bytes}

-- What a run of the code of a program does: after some steps it agrees with a run of the meaning and is in
-- step with it; and where the latter has ended, it does the same for any more steps.
pub record Follows {T C : Type 0} (told : ClosedType → LowType) (functions : List (Function ℕ T C))
    (input : List ℕ) (meant : Outcome) : Type 0 where
  pub steps : ℕ
  pub made : (low_run true (lowered told functions) input steps).made ≡ steps
  pub agrees : Agrees functions meant (low_run true (lowered told functions) input steps)
  pub in_step : InStep meant (low_run true (lowered told functions) input steps)
  pub stays : is_over meant.ending ≡ true → (more : ℕ)
      → low_run true (lowered told functions) input (steps + more)
      ≡ low_run true (lowered told functions) input steps

-- A run of code and one of the meaning have ended, and agree.
pub record HasEnded {T C : Type 0} (functions : List (Function ℕ T C)) (meant : Outcome) (ran : low.Outcome)
    : Type 0 where
  pub over : is_over meant.ending ≡ true
  pub agrees : Agrees functions meant ran
  pub in_step : InStep meant ran

module _ (T C : Type 0) where
  -- Where a run of the code of a good program has ended within so many steps, its meaning has ended within
  -- as many ticks, where it isn't stuck, and they agree.
  abbrev pub EndingsMeet : Type 0
  EndingsMeet = (told : ClosedType → LowType) (functions : List (Function ℕ T C))
      → GoodProgram told functions → (input : List ℕ) (limit : ℕ)
      → ((mean (λ i. slice_get functions i) 0 input limit).ending ≡ stuck → ⊥)
      → ((low_run true (lowered told functions) input limit).ending ≡ Steps → ⊥)
      → HasEnded functions (mean (λ i. slice_get functions i) 0 input limit)
      (low_run true (lowered told functions) input limit)

-- What a run of code shows that was cut off goes on from what one run of the meaning shows, and another
-- goes on from it.
pub record Between {T C : Type 0} (functions : List (Function ℕ T C)) (fewer : Outcome) (ran : low.Outcome)
    (more : Outcome) : Type 0 where
  pub output_from : Begins fewer.world.output ran.output
  pub events_from : Begins (map (event_numbered (types_in functions)) fewer.world.store.deeds) ran.events
  pub output_to : Begins ran.output more.world.output
  pub events_to : Begins ran.events (map (event_numbered (types_in functions)) more.world.store.deeds)

module _ (T C : Type 0) where
  -- A run of the code of a good program that is cut off after so many steps lies between what its meaning
  -- does in an eighth as many ticks and in as many, where these aren't stuck.
  abbrev pub CutsLieBetween : Type 0
  CutsLieBetween = (told : ClosedType → LowType) (functions : List (Function ℕ T C))
      → GoodProgram told functions → (input : List ℕ) (limit : ℕ)
      → ((mean (λ i. slice_get functions i) 0 input (limit / 8)).ending ≡ stuck → ⊥)
      → ((mean (λ i. slice_get functions i) 0 input limit).ending ≡ stuck → ⊥)
      → (low_run true (lowered told functions) input limit).ending ≡ Steps
      → Between functions (mean (λ i. slice_get functions i) 0 input (limit / 8))
      (low_run true (lowered told functions) input limit) (mean (λ i. slice_get functions i) 0 input limit)

module _ (T C : Type 0) where
  -- A run of the code of a good program does what its meaning does for any number of ticks, where that
  -- isn't stuck.
  abbrev pub RunsFollow : Type 0
  RunsFollow = (told : ClosedType → LowType) (functions : List (Function ℕ T C))
      → GoodProgram told functions → (input : List ℕ) (ticks : ℕ)
      → ((mean (λ i. slice_get functions i) 0 input ticks).ending ≡ stuck → ⊥)
      → Follows told functions input (mean (λ i. slice_get functions i) 0 input ticks)

  -- Where the code of an expression stands in a function, a run from its beginning does what the expression
  -- means, with any operands below, where more borrows may be open if it opens any.
  abbrev pub ExpressionsRun : Type 0
  ExpressionsRun = (by : Coding) (see : View ℕ T C) (invoke : ℕ → List Value → Action Value) (depth : ℕ)
      (f : Frame by) (get : ℕ → Option Draft) → Placed by f.function get → GoodView by see
      → GoodCalls by invoke depth → (wide : Wide) (room : ℕ) (scope : List (Entry by)) → Distinct by scope
      → (e : Expression Bytes T C) → (opens e ≡ true → wide.opens ≡ true)
      → Gives by f get depth wide room scope (code see (slots_in by scope) e)
      (eval see invoke (numbers_in by scope) e)
