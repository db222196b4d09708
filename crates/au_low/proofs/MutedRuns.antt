-- Runs whose events aren't kept.
use Rattle.std.proofs.Common.{◌≡◌, ℕ, zero, suc, Bool, true, false, List, ◌++◌, ◌+◌, length, Option, Some}
use Rattle.std.proofs.Common.{None, slice_get, refl, ap, ◌∙◌}
use Rattle.std.specs.Option.{option_map}
use Rattle.au_effects.specs.Parts.{along}
use Rattle.au_effects.specs.Answers as answer
use Rattle.au_effects.specs.Calls.{arity, of_one, byte_read}
use Rattle.au_low.specs.declared.code.Code.{Code}
use Rattle.au_low.specs.declared.code.Function.{Function}
use Rattle.au_low.specs.declared.instructions.Instr.{Instr}
use Rattle.au_low.specs.declared.instructions.Instr.TheVariants.{Shipped}
use Rattle.au_low.specs.Machines.{ordered_if, Machine, Next, goes, writes, waits, exits, aborts, stuck}
use Rattle.au_low.specs.Instructions.{answered}
use Rattle.au_low.specs.Kept.{without_events}
use Rattle.au_low.specs.Runs.{Outcome, Run, fetched, next_if, next, heard_if, heard, after, on_next}
use Rattle.au_low.specs.Runs.{byte_taken, rest_of, stepped, exec, entry_begins, first, run_from, low_run}
use Rattle.au_low.proofs.MutedCalls.{still_one, still_read}
use Rattle.au_low.proofs.MutedActs.{muted, muted_next, muted_having, muted_all, muted_answered, muted_act, muted_choice}

-- the same run without events
abbrev pub muted_run : Run → Run
muted_run run = record run { machine = muted run.machine }

muted_if_any : (code : Code) (instr : Option Instr) (m : Machine)
    → next_if code instr (muted m) ≡ muted_next (next_if code instr m)
muted_if_any code None m = refl
muted_if_any code (Some instr) m = muted_act code instr m

muted_heard : (code : Code) (byte : Option ℕ) (instr : Option Instr) (m : Machine)
    → heard_if code byte instr (muted m) ≡ muted_next (heard_if code byte instr m)
muted_heard code byte (Some (Shipped call of order)) m =
    muted_all (arity call) m _ (λ values k. muted_having (ordered_if order values) _ _ (λ values.
    ap (λ (said : answer.Answer ℕ ℕ). answered said (muted k)) (still_one values _ _
    (still_read byte k.world))
    ∙ muted_answered (of_one (byte_read byte k.world) values) k))
muted_heard code byte other m = refl

muted_after : (n : Next) (run : Run) (go : Run → Outcome) → ((r : Run)
    → go (muted_run r) ≡ without_events (go r))
    → after (muted_next n) (muted_run run) go ≡ without_events (after n run go)
muted_after (goes m) run go h = h (stepped m run)
muted_after (writes bytes m) run go h = h
    (record run { machine = m; output = run.output ++ bytes; made = run.made + 1 })
muted_after waits run go h = refl
muted_after (exits success m) run go h = refl
muted_after (aborts fault m) run go h = refl
muted_after stuck run go h = refl

muted_on : (code : Code) (n : Next) (run : Run) (go : Run → Outcome) → ((r : Run)
    → go (muted_run r) ≡ without_events (go r))
    → on_next code (muted_next n) (muted_run run) go ≡ without_events (on_next code n run go)
muted_on code (goes m) run go h = muted_after (goes m) run go h
muted_on code (writes bytes m) run go h = muted_after (writes bytes m) run go h
muted_on code waits run go h =
    ap (λ (n : Next). after n (muted_run (record run { left = rest_of run.left })) go) (muted_heard code
    (byte_taken run.left) (fetched code run.machine) run.machine)
    ∙ muted_after (heard code (byte_taken run.left) run.machine) (record run { left = rest_of run.left }) go h
muted_on code (exits success m) run go h = refl
muted_on code (aborts fault m) run go h = refl
muted_on code stuck run go h = refl

muted_exec : (code : Code) (limit : ℕ) (run : Run)
    → exec code limit (muted_run run) ≡ without_events (exec code limit run)
unfolding exec
muted_exec code zero run = refl
muted_exec code (suc limit) run =
    ap (λ (n : Next). on_next code n (muted_run run) (exec code limit)) (muted_if_any code
    (fetched code run.machine) run.machine)
    ∙ muted_on code (next code run.machine) run (exec code limit) (muted_exec code limit)

muted_along : {A : Type 0} (one : Option A) (f g : A → Option Machine) → ((x : A)
    → f x ≡ option_map muted (g x)) → along one f ≡ option_map muted (along one g)
muted_along None f g h = refl
muted_along (Some x) f g h = h x

muted_entry : (root : Bool) (types : ℕ) (function : Function)
    → entry_begins false root types function ≡ option_map muted (entry_begins true root types function)
muted_entry true types function = muted_choice _ _ _ refl
muted_entry false types function = muted_choice _ _ _ refl

muted_from : (code : Code) (m : Option Machine) (input : List ℕ) (limit : ℕ)
    → run_from code (option_map muted m) input limit ≡ without_events (run_from code m input limit)
muted_from code None input zero = refl
muted_from code None input (suc limit) = refl
muted_from code (Some m) input limit = muted_exec code limit _

-- a run whose events aren't kept is the run whose events are, but for the events
pub kept : (code : Code) (input : List ℕ) (limit : ℕ)
    → low_run false code input limit ≡ without_events (low_run true code input limit)
kept code input limit =
    ap (λ (m : Option Machine). run_from code m input limit) (muted_along
    (slice_get code.functions 0) _ _ (muted_entry code.root (length code.types)))
    ∙ muted_from code (first true code) input limit
