-- A run of code that has ended is one of the meaning that has ended.
use Rattle.std.proofs.Common.{◌≡◌, ℕ, zero, suc, ◌+◌, ◌-◌, ◌≤◌, Bool, true, false, List, [], ◌++◌, Option}
use Rattle.std.proofs.Common.{Some, None, refl, sym, ap, subst, ◌∙◌, arith, slice_get, nat_lt, leb-true}
use Rattle.std.proofs.Common.{ltb-true, ltb-false}
use Rattle.au_type_texts.specs.Types.{ClosedType}
use Rattle.au_low.specs.declared.code.Code.{Code}
use Rattle.au_low.specs.declared.code.LowType.{LowType}
use Rattle.au_low.specs.declared.endings.Ending.TheVariants.{Steps}
use Rattle.au_low.specs.Machines.{Machine, Next, goes, writes, waits, exits, aborts, stuck}
use Rattle.au_low.specs.Runs.{Outcome, Run, exec, next, heard, after, on_next, byte_taken, rest_of, stepped}
use Rattle.au_low.specs.Runs.{run_from, not_begun, low_run, first}
use Rattle.au_lowered.specs.Agreeing.{Agrees, InStep, ending_numbered}
use Rattle.au_lowered.specs.Programs.{lowered, texts_in}
use Rattle.au_meaning.specs.Laws.{is_over}
use Rattle.au_meaning.specs.Meanings.{mean}
use Rattle.au_meaning.specs.Views.{Function}
use Rattle.au_meaning.specs.Worlds as meaning
use Rattle.au_lowered.specs.FollowLaws.{Follows, HasEnded}
use Rattle.au_lowered.specs.FollowPrograms.{GoodProgram}
use Rattle.au_lowered.proofs.BetweenLemmas.{seen_all, not_over}
use Rattle.au_lowered.proofs.RunLemmas.{runs_follow}

after_same : (nx : Next) (run : Run) (go also : Run → Outcome) → ((r : Run) → ((go r).ending ≡ Steps → ⊥)
    → also r ≡ go r)
    → ((after nx run go).ending ≡ Steps → ⊥) → after nx run also ≡ after nx run go
after_same (goes m) run go also same ended = same (stepped m run) ended
after_same (writes bytes m) run go also same ended =
    same (record { machine = m; output = run.output ++ bytes; left = run.left; made = run.made + 1 }) ended
after_same waits run go also same ended = refl
after_same (exits success m) run go also same ended = refl
after_same (aborts fault m) run go also same ended = refl
after_same stuck run go also same ended = refl

on_same : (code : Code) (nx : Next) (run : Run) (go also : Run → Outcome) → ((r : Run) → ((go r).ending
    ≡ Steps → ⊥) → also r ≡ go r)
    → ((on_next code nx run go).ending ≡ Steps → ⊥) → on_next code nx run also ≡ on_next code nx run go
on_same code (goes m) run go also same ended = after_same (goes m) run go also same ended
on_same code (writes bytes m) run go also same ended = after_same (writes bytes m) run go also same ended
on_same code waits run go also same ended =
    after_same (heard code (byte_taken run.left) run.machine) (record run { left = rest_of run.left }) go
    also same ended
on_same code (exits success m) run go also same ended = refl
on_same code (aborts fault m) run go also same ended = refl
on_same code stuck run go also same ended = refl

-- a run that has ended does no more
exec_stays : (code : Code) (limit more : ℕ) (run : Run) → ((exec code limit run).ending ≡ Steps → ⊥)
    → exec code (limit + more) run ≡ exec code limit run
unfolding exec
exec_stays code zero more run ended = absurd (ended refl)
exec_stays code (suc limit) more run ended =
    let e : suc limit + more ≡ suc (limit + more) = omega arith in
    ap (λ k. exec code k run) e
    ∙ on_same code (next code run.machine) run (exec code limit) (exec code (limit + more)) (λ r h.
    exec_stays code limit more r h) ended

from_stays : (code : Code) (m : Option Machine) (input : List ℕ) (limit more : ℕ)
    → ((run_from code m input limit).ending ≡ Steps → ⊥)
    → run_from code m input (limit + more) ≡ run_from code m input limit
from_stays code (Some m) input limit more ended = exec_stays code limit more (record {
  machine = m;
  output =
      [];
  left = input;
  made = 0;
}) ended
from_stays code None input zero more ended = absurd (ended refl)
from_stays code None input (suc limit) more ended =
    let e : suc limit + more ≡ suc (limit + more) = omega arith in
    ap (λ k. not_begun k input) e

module _ {T C : Type 0} (told : ClosedType → LowType) (functions : List (Function ℕ T C)) (good :
    GoodProgram told functions) (input : List ℕ) where
  abbrev meant_at : ℕ → meaning.Outcome
  meant_at ticks = mean (λ i. slice_get functions i) 0 input ticks

  abbrev ran_at : ℕ → Outcome
  ran_at limit = low_run true (lowered told functions) input limit

  same_at : (limit : ℕ) (m : meaning.Outcome) (f : Follows told functions input m) → (is_over m.ending
      ≡ false → limit ≤ m.made)
      → ((ran_at limit).ending ≡ Steps → ⊥) → ran_at f.steps ≡ ran_at limit
  same_at limit m f whole ended = by_less (nat_lt limit f.steps) refl (is_over m.ending) refl
    where
      by_less : (less : Bool) → nat_lt limit f.steps ≡ less → (over : Bool) → is_over m.ending ≡ over
          → ran_at f.steps ≡ ran_at limit
      by_less true l over o =
          let less = ltb-true limit f.steps l in
          let all : f.steps ≡ limit + (f.steps - limit) = omega (arith, less) in
          ap (λ k. ran_at k) all ∙ from_stays (lowered told functions) (first true (lowered told functions))
          input limit (f.steps - limit) ended
      by_less false l true o =
          let least = ltb-false limit f.steps l in
          let all : f.steps + (limit - f.steps) ≡ limit = omega (arith, least) in
          sym (f.stays o (limit - f.steps)) ∙ ap (λ k. ran_at k) all
      by_less false l false o =
          let least = ltb-false limit f.steps l in
          let enough : m.made ≤ (ran_at f.steps).made = leb-true m.made _ f.in_step.least in
          let all : f.steps ≡ limit = omega (arith, least, whole o, enough, f.made) in
          ap (λ k. ran_at k) all

  over_at : (limit : ℕ) (end : meaning.Ending) → (ran_at limit).ending
      ≡ ending_numbered (texts_in functions) end
      → ((ran_at limit).ending ≡ Steps → ⊥) → is_over end ≡ true
  over_at limit (meaning.exit success) e ended = refl
  over_at limit (meaning.abort fault) e ended = refl
  over_at limit meaning.running e ended = absurd (ended e)
  over_at limit meaning.stuck e ended = refl

  pub has_ended : (limit : ℕ) → ((meant_at limit).ending ≡ meaning.stuck → ⊥) → ((ran_at limit).ending
      ≡ Steps → ⊥)
      → HasEnded functions (meant_at limit) (ran_at limit)
  has_ended limit unstuck ended =
      let f = runs_follow told functions good input limit unstuck in
      let same = same_at limit (meant_at limit) f (λ o. seen_all limit _ (not_over (meant_at limit).ending
      o)) ended in
      let agrees = subst (λ o. Agrees functions (meant_at limit) o) same f.agrees in
      record {
        over = over_at limit (meant_at limit).ending agrees.ending ended;
        agrees = agrees;
        in_step = subst (λ o. InStep (meant_at limit) o) same f.in_step;
      }
