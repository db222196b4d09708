-- Runs are as they should be under a watch that lets pass what is of the types of a way in which a
-- call is made, and what is of the types of results.
use Rattle.std.proofs.Common.{◌≡◌, ℕ, zero, suc, true, List, [], ◌∷◌, Option, None, Some, refl, sym, ap}
use Rattle.std.proofs.Common.{subst}
use Rattle.au_effects.specs.Values.{root}
use Rattle.au_type_texts.specs.Types.{ClosedType}
use Rattle.au_types.specs.Types.{Meaning}
use Rattle.au_memory.specs.Forests.{Made}
use Rattle.au_memory.specs.Loans.{Types}
use Rattle.au_lending.specs.Records.{onto, types_made}
use Rattle.au_meaning.specs.Expressions as evaluator
use Rattle.au_meaning.specs.Meanings.{begun, enters, first_world, parameters_of, root_born, seen}
use Rattle.au_meaning.specs.Ticks.{Action, Out, aborts, cut, gives, no_rule, pure}
use Rattle.au_meaning.specs.Views as views
use Rattle.au_meaning.specs.Views.{Field, Function, View, invokes, makes, ships}
use Rattle.au_meaning.specs.Worlds.{Value, World}
use Rattle.au_safe_ships.specs.Beginning.{IsExitOf}
use Rattle.au_safe_ships.specs.Frames.{Frame}
use Rattle.au_safe_ships.specs.Good.{IsIn, lying_in}
use Rattle.au_safe_ships.specs.Making.{values_of}
use Rattle.au_safe_ships.specs.Orders.{Act, is_active}
use Rattle.au_safe_ships.proofs.GoodLemmas.{good_then}
use Rattle.au_sound_blocks.specs.Blocks.{MayRun}
use Rattle.au_sound_blocks.specs.Held.{GoodHeld, Permits}
use Rattle.au_sound_blocks.specs.Known.{AreActive, Callables, Calls, callees}
use Rattle.au_sound_blocks.specs.Safe.{CallsSafe}
use Rattle.au_sound_blocks.proofs.LeafLemmas.{good_where}
use Rattle.au_sound_blocks.proofs.LoopLemmas.{good_does}
use Rattle.au_sound_blocks.proofs.WaitLemmas.{all_held}
use Rattle.au_sound.specs.Runs.{EndsWell, IsEntry, IsSeenWell, RunsAreSafe, TakesRoot}
use Rattle.au_sound.proofs.CallLemmas.{enters_good, good_below}
use Rattle.au_caps_laws.specs.Watching.{Watch, acting_function, enters_looking, looked_at, tested, watched_at}
use Rattle.au_caps_laws.specs.Watching.{watched_mean}
use Rattle.au_caps_laws.proofs.AlwaysLemmas.{Performed, invoked, performed}
use Rattle.au_caps_laws.proofs.ActsLemmas.{acts_safe}

-- the function that an act calls, or this one
abbrev function_called : {I : Type 0} → I → views.Act I → I
function_called one (invokes f) = f
function_called one (makes of tag home) = one
function_called one (ships call born) = one

module _ (types : Types) (owner : ClosedType → Option (List ℕ)) {I T C K E W : Type 0} (see : View I T C)
    (known : Callables I K) (permits : Permits (Performed types owner see known) W) (from : E → K)
    (to : E → Performed types owner see known) where
  abbrev Way : Type 0
  Way = Performed types owner see known

  -- the way in which a function is called, and the calls that functions make
  abbrev called : K → Way
  called key = invoked types owner see known key

  abbrev pub made_calls : Calls Way E
  made_calls = record { from = λ one. called (from one); to = to }

  -- Each function may be run in its ways, as its calls are seen.
  abbrev pub AllAct : (I → Option (Function I T C)) → Type 0
  AllAct functions =
      (key : K) → (f : Function I T C) × (functions (known.of key) ≡ Some f)
      × ((of : ClosedType) → f.view.is_linear of ≡ see.is_linear of)
      × MayRun types owner permits (performed types owner see known) made_calls (acting_function f) (called key)

  module _ (watch : Watch I) where
    -- what is of the types of the arguments of a way passes, from this caller
    abbrev PassesFrom : Option I → Way → Type 0
    PassesFrom caller one =
        (acts : List Act) (fs : List Frame) (sizes : List ℕ) (made under : Made) (w : World)
        → types_made made ≡ one.kinds → IsIn types owner acts fs sizes (onto made under) w
        → watch.passed caller one.act (values_of made) w ≡ true

    -- So it is where a run begins, and in each call that functions make; and so does what is of the type of the
    -- result pass.
    abbrev pub Begins : Type 0
    Begins = (key : K) → PassesFrom None (called key)

    abbrev pub Passes : Type 0
    Passes = (one : E) → PassesFrom (Some (known.of (from one))) (to one)

    abbrev pub Returns : Type 0
    Returns =
        (key : K) (acts : List Act) (fs : List Frame) (sizes : List ℕ) (under : Made) (v : Value) (w : World)
        → IsIn types owner acts fs sizes ((v, known.result key) ∷ under) w
        → watch.returned (known.of key) v w ≡ true

    module _ (laws : RunsAreSafe types owner) (functions : I → Option (Function I T C)) (all : AllAct functions)
        (begins : Begins) (passes : Passes) (returns : Returns) where
      same_caller : (a b : K) → called a ≡ called b → known.of a ≡ known.of b
      same_caller a b is = ap (λ (p : Way). function_called (known.of a) p.act) is

      -- what a function calls is safe, looked at
      looked_safe : (f : Function I T C) → ((of : ClosedType) → f.view.is_linear of ≡ see.is_linear of) → (key : K)
          (ways : List Way) (invoke : I → List Value → Action Value)
          → CallsSafe types owner permits (called key ∷ ways) known invoke
          → CallsSafe types owner permits (called key ∷ ways)
          (callees (performed types owner see known) made_calls (called key))
          (looked_at watch f.view (known.of key) invoke)
      looked_safe f linear key ways invoke safe (one, is) acts fs sizes made under w ticks active waiting many typed
          state =
          good_where owner _
          (λ (v : Value) n. IsIn types owner acts fs sizes ((v, (to one).result) ∷ under) n
          × (lying_in n ≡ lying_in w)) (watch.passed (Some (known.of key)) (to one).act (values_of made) w)
          (evaluator.acts f.view invoke (to one).act (values_of made)) w ticks
          (subst (λ c. watch.passed (Some c) (to one).act (values_of made) w ≡ true) (same_caller (from one) key is)
          (passes one acts fs sizes made under w typed state))
          (acts_safe types owner permits (called key ∷ ways) laws.steps.actions see f.view linear known invoke safe
          (to one) acts fs sizes made under w ticks active waiting many typed state)

      calls_safe : (depth : ℕ) (ways : List Way)
          → CallsSafe types owner permits ways known (watched_at watch functions depth)
      unfolding watched_at
      calls_safe zero ways key acts fs sizes made under w ticks active waiting many typed state = (
        laws.steps.actions.told acts fs sizes (onto made under) w state,
        record {
          newer = [];
          acts = acts;
          frames = fs;
          sizes = sizes;
          under = onto made under;
          state = state;
          held = all_held permits ways (is_active acts) fs waiting;
        },
      )
      calls_safe (suc depth) ways key acts fs sizes made under w ticks active waiting many typed state =
          let one = all key in
          let q = λ (v : Value) (n : World). IsIn types owner acts fs sizes ((v, known.result key) ∷ under) n
          × (lying_in n ≡ lying_in w) in
          let inner = watched_at watch functions depth in
          let invoke = looked_at watch one.0.view (known.of key) inner in
          good_then owner _ q q
          (enters_looking watch (known.of key) inner depth (functions (known.of key)) (values_of made) w ticks)
          (λ v. tested (watch.returned (known.of key) v) (pure v))
          (subst (λ o. GoodHeld types owner permits ways q
          (enters_looking watch (known.of key) inner depth o (values_of made) w ticks)) (sym one.1)
          (good_below types owner permits (called key) ways q
          (enters invoke depth (Some (acting_function one.0)) (values_of made) w ticks)
          (enters_good types owner permits ways laws (performed types owner see known) made_calls invoke (called key)
          (looked_safe one.0 one.2 key ways inner (calls_safe depth (called key ∷ ways))) depth
          (acting_function one.0) one.3 acts fs sizes made under active waiting many typed w ticks state)))
          (λ v n left is.
          good_where owner _ q (watch.returned (known.of key) v n) (pure v) n left
          (returns key acts fs sizes under v n is.0) is)

      -- ---- from an entry

      abbrev Gave : Meaning → Value → World → Type 0
      Gave t v n = IsIn types owner [] [] [] ((v, t) ∷ []) n × (lying_in n ≡ [])

      seen_well : (t : Meaning) → IsExitOf types t → (ticks : ℕ) (out : Out Value)
          → GoodHeld types owner permits [] (Gave t) out → IsSeenWell owner (seen ticks out)
      seen_well t exits ticks (gives v n left) good =
          let told = laws.steps.actions.told [] [] [] ((v, t) ∷ []) n good.0 in
          let over = laws.exits [] [] [] [] n laws.steps.actions.typed v t exits good.0 in
          let ends = laws.finishes types owner [] n over.2 in
          record {
            once = told.0.0;
            inside = told.0.1;
            own = told.0.2;
            ended = subst (EndsWell n) (sym over.1) (ends.0, ends.1 good.1);
          }
      seen_well t exits ticks (aborts fault n left) good =
          record { once = good.0; inside = good.1; own = good.2; ended = tt }
      seen_well t exits ticks (cut n) good =
          record { once = good.0.0.0; inside = good.0.0.1; own = good.0.0.2; ended = good.0.1 }
      seen_well t exits ticks (no_rule n left) good = absurd good

      module _ (key : K) (open_none : known.tokens key ≡ []) (depth : ℕ) where
        abbrev enter : List Value → Action Value
        enter args =
            tested (watch.passed None (invokes (known.of key)) args)
            (watched_at watch functions (suc depth) (known.of key) args)

        entered : (made : Made) (w : World) (ticks : ℕ) → types_made made ≡ known.parameters key
            → IsIn types owner [] [] [] (onto made []) w
            → GoodHeld types owner permits []
            (λ (v : Value) n. IsIn types owner [] [] [] ((v, known.result key) ∷ []) n
            × (lying_in n ≡ lying_in w)) (enter (values_of made) w ticks)
        entered made w ticks typed state =
            good_where owner _
            (λ (v : Value) n. IsIn types owner [] [] [] ((v, known.result key) ∷ []) n
            × (lying_in n ≡ lying_in w)) (watch.passed None (invokes (known.of key)) (values_of made) w)
            (watched_at watch functions (suc depth) (known.of key) (values_of made)) w ticks
            (begins key [] [] [] made [] w typed state)
            (calls_safe (suc depth) [] key [] [] [] made [] w ticks
            (subst (AreActive (is_active [])) (sym open_none) tt) tt refl typed state)

        begun_good : (ts : List Meaning) (ps : List Field) → TakesRoot types owner ts ps → ts ≡ known.parameters key
            → (input : List ℕ) (ticks : ℕ)
            → GoodHeld types owner permits [] (Gave (known.result key)) (begun ps enter (first_world input) ticks)
        begun_good [] [] takes same input ticks =
            entered [] (first_world input) ticks same (laws.starts types owner input)
        begun_good [] (p ∷ ps) takes same input ticks = absurd takes
        begun_good (t ∷ []) [] takes same input ticks = absurd takes
        begun_good (t ∷ []) (p ∷ []) takes same input ticks =
            good_does owner _ (Gave (known.result key)) (root_born p.of) (enter (root 0 ∷ [])) (first_world input) ticks
            (entered ((root 0, t) ∷ []) (root_born p.of (first_world input)) ticks same
            (laws.rooted [] [] [] [] (first_world input) t p.of takes.0 takes.1 (laws.starts types owner input)))
        begun_good (t ∷ []) (p ∷ r ∷ ps) takes same input ticks = absurd takes
        begun_good (t ∷ u ∷ ts) ps takes same input ticks = absurd takes

      -- a run under such a watch, from a way in which an entry is called
      pub watched_well : (key : K) → IsEntry types owner known functions key → (input : List ℕ) (ticks : ℕ)
          → IsSeenWell owner (watched_mean watch functions (known.of key) input ticks)
      watched_well key entry input ticks =
          seen_well (known.result key) entry.gives ticks
          (begun (parameters_of (functions (known.of key))) (enter key entry.open_none ticks) (first_world input) ticks)
          (begun_good key entry.open_none ticks (known.parameters key)
          (parameters_of (functions (known.of key))) entry.takes refl input ticks)
