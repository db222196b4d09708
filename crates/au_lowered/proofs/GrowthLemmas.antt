-- A run that makes more steps goes on from what it did with fewer.
use Rattle.std.proofs.Common.{◌≡◌, ℕ, zero, suc, ◌+◌, Bool, List, [], ◌++◌, Option, Some, None, refl, subst, arith}
use Rattle.au_effects.specs.Calls.{arity, of_one, byte_read}
use Rattle.au_low.specs.declared.code.Code.{Code}
use Rattle.au_low.specs.declared.instructions.Instr.{Instr}
use Rattle.au_low.specs.declared.instructions.Instr.TheVariants.{Shipped}
use Rattle.au_low.specs.Machines.{Machine, Next, goes, writes, waits, exits, aborts, stuck, having, ordered_if}
use Rattle.au_low.specs.Instructions.{answered}
use Rattle.au_low.specs.Runs.{Outcome, Run, exec, fetched, next_if, next, heard_if, heard, after, on_next}
use Rattle.au_low.specs.Runs.{byte_taken, rest_of, stepped, run_from, not_begun, low_run, first}
use Rattle.au_meaning.specs.Laws.{Begins}
use Rattle.au_meaning.proofs.Growing.{begins_refl, begins_trans}
use Rattle.au_lowered.proofs.AnswerLemmas.{tells_one, byte_tells}
use Rattle.au_lowered.proofs.TellLemmas.{Tells, tells_all, tells_having, tells_answered, act_tells}

-- an outcome goes on from another, and from a run
pub record Grown (first later : Outcome) : Type 0 where
  pub output : Begins first.output later.output
  pub events : Begins first.events later.events

pub record Goes (run : Run) (later : Outcome) : Type 0 where
  pub output : Begins run.output later.output
  pub events : Begins run.machine.world.deeds later.events

goes_on : (run : Run) (m : Machine) (left : List ℕ) (more : List ℕ) (made : ℕ) (o : Outcome)
    → Begins run.machine.world.deeds m.world.deeds
    → Goes (record { machine = m; output = run.output ++ more; left = left; made = made }) o → Goes run o
goes_on run m left more made o h g = record {
  output = begins_trans run.output (run.output ++ more) o.output (more, refl) g.output;
  events = begins_trans run.machine.world.deeds m.world.deeds o.events h g.events;
}

heard_tells : (code : Code) (byte : Option ℕ) (i : Option Instr) (m : Machine)
    → Tells m.world.deeds (heard_if code byte i m)
heard_tells code byte (Some (Shipped call of order)) m =
    tells_all m.world.deeds (arity call) m (λ values k. having (ordered_if order values) (λ values. answered
    (of_one (byte_read byte k.world) values) k)) (λ values rest. tells_having m.world.deeds (ordered_if
    order values) _ (λ values.
    tells_answered m.world.deeds m (begins_refl m.world.deeds) (of_one (byte_read byte m.world) values) rest
    (tells_one m.world.deeds (byte_read byte m.world) values (λ a. byte_tells byte m.world a))))
heard_tells code byte other m = tt

next_tells : (code : Code) (i : Option Instr) (m : Machine) → Tells m.world.deeds (next_if code i m)
next_tells code None m = tt
next_tells code (Some i) m = act_tells code i m

after_goes : (nx : Next) (run : Run) (go : Run → Outcome) → Tells run.machine.world.deeds nx → ((r : Run)
    → Goes r (go r)) → Goes run (after nx run go)
after_goes (goes m) run go h g =
    let x = g (stepped m run) in
    record {
      output = x.output;
      events = begins_trans run.machine.world.deeds m.world.deeds (go (stepped m
          run)).events h x.events;
    }
after_goes (writes bytes m) run go h g =
    goes_on run m run.left bytes (run.made + 1) (go (record {
      machine = m;
      output = run.output ++ bytes;
      left = run.left;
      made = run.made + 1;
    })) h
    (g (record { machine = m; output = run.output ++ bytes; left = run.left; made = run.made + 1 }))
after_goes waits run go h g = record {
  output = begins_refl run.output;
  events = begins_refl
      run.machine.world.deeds;
}
after_goes (exits success m) run go h g = record { output = begins_refl run.output; events = h }
after_goes (aborts fault m) run go h g = record { output = begins_refl run.output; events = h }
after_goes stuck run go h g = record {
  output = begins_refl run.output;
  events = begins_refl
      run.machine.world.deeds;
}

on_goes : (code : Code) (nx : Next) (run : Run) (go : Run → Outcome) → Tells run.machine.world.deeds nx
    → ((r : Run) → Goes r (go r)) → Goes run (on_next code nx run go)
on_goes code (goes m) run go h g = after_goes (goes m) run go h g
on_goes code (writes bytes m) run go h g = after_goes (writes bytes m) run go h g
on_goes code waits run go h g =
    let x = after_goes (heard code (byte_taken run.left) run.machine) (record run {
      left = rest_of run.left;
    }) go (heard_tells code (byte_taken run.left) (fetched code run.machine) run.machine) g in
    record { output = x.output; events = x.events }
on_goes code (exits success m) run go h g = after_goes (exits success m) run go h g
on_goes code (aborts fault m) run go h g = after_goes (aborts fault m) run go h g
on_goes code stuck run go h g = after_goes stuck run go h g

exec_goes : (code : Code) (limit : ℕ) (run : Run) → Goes run (exec code limit run)
unfolding exec
exec_goes code zero run = record {
  output = begins_refl run.output;
  events = begins_refl
      run.machine.world.deeds;
}
exec_goes code (suc limit) run =
    on_goes code (next code run.machine) run (exec code limit) (next_tells code (fetched code run.machine)
    run.machine) (λ r. exec_goes code limit r)

grown_same : (o : Outcome) → Grown o o
grown_same o = record { output = begins_refl o.output; events = begins_refl o.events }

after_grown : (nx : Next) (run : Run) (go also : Run → Outcome) → ((r : Run) → Grown (go r) (also r))
    → Grown (after nx run go) (after nx run also)
after_grown (goes m) run go also g = g (stepped m run)
after_grown (writes bytes m) run go also g = g (record {
  machine = m;
  output = run.output ++ bytes;
  left =
      run.left;
  made = run.made + 1;
})
after_grown waits run go also g = grown_same _
after_grown (exits success m) run go also g = grown_same _
after_grown (aborts fault m) run go also g = grown_same _
after_grown stuck run go also g = grown_same _

on_grown : (code : Code) (nx : Next) (run : Run) (go also : Run → Outcome) → ((r : Run)
    → Grown (go r) (also r)) → Grown (on_next code nx run go) (on_next code nx run also)
on_grown code (goes m) run go also g = after_grown (goes m) run go also g
on_grown code (writes bytes m) run go also g = after_grown (writes bytes m) run go also g
on_grown code waits run go also g = after_grown (heard code (byte_taken run.left) run.machine) (record run {
  left = rest_of run.left;
}) go also g
on_grown code (exits success m) run go also g = after_grown (exits success m) run go also g
on_grown code (aborts fault m) run go also g = after_grown (aborts fault m) run go also g
on_grown code stuck run go also g = after_grown stuck run go also g

exec_grown : (code : Code) (limit more : ℕ) (run : Run)
    → Grown (exec code limit run) (exec code (limit + more) run)
unfolding exec
exec_grown code zero more run =
    let e : more ≡ 0 + more = omega arith in
    let x = exec_goes code more run in
    let here : Grown (exec code 0 run) (exec code more run) = record {
      output = x.output;
      events = x.events;
    } in
    subst (λ k. Grown (exec code 0 run) (exec code k run)) e here
exec_grown code (suc limit) more run =
    let e : suc (limit + more) ≡ suc limit + more = omega arith in
    subst (λ k. Grown (exec code (suc limit) run) (exec code k run)) e
    (on_grown code (next code run.machine) run (exec code limit) (exec code (limit + more)) (λ r. exec_grown
    code limit more r))

from_grown : (code : Code) (m : Option Machine) (input : List ℕ) (limit more : ℕ)
    → Grown (run_from code m input limit) (run_from code m input (limit + more))
from_grown code (Some m) input limit more = exec_grown code limit more (record {
  machine = m;
  output = [];
  left = input;
  made = 0;
})
from_grown code None input limit more = record {
  output = none limit (limit + more);
  events = no_event limit
      (limit + more);
}
  where
    none : (n k : ℕ) → Begins (not_begun n input).output (not_begun k input).output
    none zero zero = begins_refl []
    none zero (suc k) = begins_refl []
    none (suc n) zero = begins_refl []
    none (suc n) (suc k) = begins_refl []

    no_event : (n k : ℕ) → Begins (not_begun n input).events (not_begun k input).events
    no_event zero zero = begins_refl []
    no_event zero (suc k) = begins_refl []
    no_event (suc n) zero = begins_refl []
    no_event (suc n) (suc k) = begins_refl []

-- more steps tell more
pub run_grown : (keeps : Bool) (code : Code) (input : List ℕ) (limit more : ℕ)
    → Grown (low_run keeps code input limit) (low_run keeps code input (limit + more))
run_grown keeps code input limit more = from_grown code (first keeps code) input limit more
