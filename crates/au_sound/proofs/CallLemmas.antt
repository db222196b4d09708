-- Calls are safe, however deep they go.
use Rattle.std.proofs.Common.{◌≡◌, ◌⊎◌, inl, inr, ℕ, zero, suc, ◌+◌, ◌==◌, Bool, true, false, List, [], ◌∷◌}
use Rattle.std.proofs.Common.{◌++◌, length, slice_get, Option, Some, refl, sym, ap, subst, ◌∙◌, arith}
use Rattle.std.proofs.lemmas.Bool.{eq-eqb}
use Rattle.std.proofs.lemmas.List.{take_at}
use Rattle.au_type_texts.specs.Types.{ClosedType}
use Rattle.au_types.specs.Types.{Meaning}
use Rattle.au_memory.specs.Forests as forest
use Rattle.au_memory.specs.Forests.{Hold, Made, empty}
use Rattle.au_memory.specs.Loans.{Types}
use Rattle.au_lending.specs.Ending.{freed}
use Rattle.au_lending.specs.Records.{onto, types_made}
use Rattle.au_safe_ships.specs.Orders.{Act, is_active}
use Rattle.au_safe_ships.specs.Frames.{Frame, frame_of}
use Rattle.au_meaning.specs.Acts.{begins, closed_to, closing, ends_frame, new_names}
use Rattle.au_meaning.specs.Meanings.{call_at, enters, returned, scope_of}
use Rattle.au_meaning.specs.Names.{names_in_block}
use Rattle.au_meaning.specs.Statements.{Flow, and_then, empties, falls, returns, run_all, run_block}
use Rattle.au_meaning.specs.Ticks.{Action, Out, aborts, cut, does, follows, gives, no_rule, pure, ◌>>=◌, ◌>>◌}
use Rattle.au_meaning.specs.Views.{Function}
use Rattle.au_meaning.specs.Worlds.{Value, World}
use Rattle.au_safe_ships.specs.Good.{IsIn, IsRunning, lying_in}
use Rattle.au_safe_ships.specs.Making.{values_of}
use Rattle.au_safe_ships.proofs.GoodLemmas.{good_so, good_then}
use Rattle.au_sound_blocks.specs.Blocks.{AllRun, IsFine, MayRun, Names, with_types}
use Rattle.au_sound_blocks.specs.Known.{AreActive, Callables, Calls, callees}
use Rattle.au_sound_blocks.specs.Lives.{IsOver, Standing, freed_each, put_each}
use Rattle.au_sound_blocks.specs.Safe.{AllWait, CallsSafe, Waits, frame}
use Rattle.au_sound_blocks.proofs.LeafLemmas.{good_where, length_values}
use Rattle.au_sound_blocks.proofs.PickLemmas.{length_types}
use Rattle.au_sound_blocks.proofs.WaitLemmas.{all_held}
use Rattle.au_sound_blocks.proofs.WholeLemmas.{good_closing}
use Rattle.au_sound_blocks.specs.Flows.{Going, Returned, tokens}
use Rattle.au_sound_blocks.proofs.FormLemmas.{fine_each}
use Rattle.au_sound_blocks.proofs.FrameLemmas.{each_after, each_way}
use Rattle.au_sound_blocks.proofs.LoopLemmas.{good_does}
use Rattle.au_sound_blocks.proofs.RunLemmas.{all_safe}
use Rattle.au_sound_blocks.proofs.StateLemmas.{Ends, loose_is}
use Rattle.au_sound.specs.Runs.{CallsHold, RunsAreSafe}
use Rattle.au_sound.proofs.CloseLemmas.{all_ended}
use Rattle.au_sound.proofs.FrameLemmas.{held_each, last_size, length_more, length_names, typed_each}
use Rattle.au_sound_blocks.specs.Held.{AllHeld, GoodHeld, IsCutSo, Permits}

-- names that are over when tokens have ended wait for none
waits_over : (active : ℕ → Bool) (b : Bool) (h : Hold) → IsOver b h → Waits active h
waits_over active true h (inl is) = subst (Waits active) (sym is) tt
waits_over active true h (inr is) = subst (Waits active) (sym is) tt
waits_over active false h is = subst (Waits active) (sym is) tt

freed_none : (zs : List ℕ) (h : Hold) → h ≡ empty → freed_each zs h ≡ empty
freed_none [] h is = is
freed_none (z ∷ zs) h is = freed_none zs (freed z h) (ap (freed z) is)

module _ (types : Types) (owner : ClosedType → Option (List ℕ)) {K W : Type 0} (permits : Permits K W)
    (ways : List K) (laws : RunsAreSafe types owner) {I T C E : Type 0}
    (known : Callables I K) (calls : Calls K E) (invoke : I → List Value → Action Value) (key : K)
    (calls_safe : CallsSafe types owner permits (key ∷ ways) (callees known calls key) invoke) (depth : ℕ)
    (f : Function I T C)
    (may : MayRun types owner permits known calls f key) (acts : List Act) (fs : List Frame) (sizes : List ℕ)
    (made under : Made)
    (active : AreActive (is_active acts) (known.tokens key)) (waiting : AllWait permits ways (is_active acts) fs)
    (many : length sizes ≡ length fs) (typed : types_made made ≡ known.parameters key) where
  abbrev args : List Value
  args = values_of made

  abbrev others : ℕ
  others = names_in_block f.body

  -- how many names the frame has
  abbrev size : ℕ
  size = f.first + (length f.parameters + names_in_block f.body)

  abbrev more_sizes : List ℕ
  more_sizes = sizes ++ length (new_names f.first (values_of made) (names_in_block f.body)) ∷ []

  count : length made ≡ length f.parameters
  count = length_types made ∙ (ap (λ (ts : List Meaning). length ts) typed ∙ sym may.many)

  count_args : length (values_of made) ≡ length f.parameters
  count_args = length_values made ∙ (sym (length_types made) ∙ count)

  running : IsRunning more_sizes fs size
  running = record {
    count = length_more sizes (length (new_names f.first (values_of made) (names_in_block f.body))) ∙ ap suc many;
    names = length (new_names f.first (values_of made) (names_in_block f.body));
    there = subst (λ (n : ℕ). slice_get more_sizes n
        ≡ Some (length (new_names f.first (values_of made) (names_in_block f.body)))) many
        (last_size sizes (length (new_names f.first (values_of made) (names_in_block f.body))));
    room = let all = length_names f.first (values_of made) (names_in_block f.body) in
        let given = count_args in
        omega arith;
  }

  -- how its names stand, and their types
  abbrev hold : Standing
  hold = put_each f.first (length f.parameters) forest.ready (λ k. empty)

  abbrev names : Names
  names = with_types f.first (known.parameters key) may.names

  -- the frame goes on from its beginning
  began : (w : World) → IsIn types owner acts (frame_of f.first made ∷ fs) more_sizes under w
      → Going types owner permits key may.loose (known.result key) acts (lying_in w) fs more_sizes size []
      (f.first + length f.parameters) hold names under w
  began w state = record {
    waits = each_way (Waits (is_active acts)) f.first (length f.parameters) forest.ready (λ k. empty) tt (λ k. tt);
    clear = λ k from. each_after f.first (length f.parameters) k forest.ready (λ k. empty) from;
    fine = subst (λ (c : ℕ). (k : ℕ) → (put_each f.first c forest.ready (λ j. empty) k ≡ empty)
        ⊎ IsFine types may.loose permits key k (names k))
        (sym may.many)
        (fine_each types owner permits ways laws.steps key may.loose (known.result key) acts (lying_in w) fs
        more_sizes size running f.view
        (callees known calls key) invoke calls_safe waiting f.first (known.parameters key) (λ k. empty) may.names
        may.fine
        (λ k. inl refl));
    bottom = refl;
    state = laws.steps.renamed acts fs more_sizes under w hold (frame_of f.first made).type names given
        (subst (λ (h : Standing). IsIn types owner acts (frame h (frame_of f.first made).type ∷ fs) more_sizes under w)
        (λ i k. same k i) state);
  }
    where
      same : (k : ℕ) → (frame_of f.first made).hold k ≡ hold k
      same k =
          held_each made f.first k
          ∙ ap (λ (c : ℕ). put_each f.first c forest.ready (λ (j : ℕ). empty) k) count

      given : (k : ℕ) → (hold k ≡ empty) ⊎ ((frame_of f.first made).type k ≡ names k)
      given k = by (typed_each made f.first may.names k)
        where
          by : ((frame_of f.first made).hold k ≡ empty)
              ⊎ ((frame_of f.first made).type k ≡ with_types f.first (types_made made) may.names k)
              → (hold k ≡ empty) ⊎ ((frame_of f.first made).type k ≡ names k)
          by (inl is) = inl (sym (same k) ∙ is)
          by (inr is) = inr (is ∙ ap (λ (ts : List Meaning). with_types f.first ts may.names k) typed)

  -- ---- the body

  abbrev Done : World → Value → World → Type 0
  Done w v n =
      Returned types owner permits key may.loose (known.result key) acts (lying_in w) fs more_sizes size under v n

  body_good : (w : World) (ticks : ℕ) → IsIn types owner acts (frame_of f.first made ∷ fs) more_sizes under w
      → GoodHeld types owner permits (key ∷ ways) (Done w)
      ((run_block f.view invoke depth (f.first + length f.parameters) (scope_of f) f.body >>= returned) w ticks)
  body_good w ticks state =
      let q = Ends types owner permits ways laws.steps key may.loose (known.result key) acts (lying_in w) fs
      more_sizes size
      running [] (f.first + length f.parameters) (f.first + length f.parameters) names (λ h. ⊥) (λ ns. Unit {0}) under
      in
      good_then owner _ q (Done w)
      (run_block f.view invoke depth (f.first + length f.parameters) (scope_of f) f.body w ticks) returned
      (good_then owner _
      (Ends types owner permits ways laws.steps key may.loose (known.result key) acts (lying_in w) fs more_sizes size
      running
      [] (f.first + length f.parameters) ((f.first + length f.parameters) + names_in_block f.body) names (λ h. ⊥)
      (λ ns. Unit {0}) under) q
      (run_all f.view invoke depth (f.first + length f.parameters) (scope_of f) f.body w ticks)
      (and_then (empties (f.first + length f.parameters) (names_in_block f.body)))
      (all_safe types owner permits ways laws.steps key may.loose (known.result key) acts (lying_in w) fs more_sizes
      size running f.view
      (callees known calls key) invoke calls_safe waiting depth f.body (f.first + length f.parameters) (scope_of f)
      [] (λ h. ⊥) hold names under w
      ticks may.ahead (may.runs (is_active acts) active) (omega arith) (began w state)) ends)
      gave
    where
      ends : (flow : Flow) (n : World) (left : ℕ)
          → Ends types owner permits ways laws.steps key may.loose (known.result key) acts
          (lying_in w) fs more_sizes size running []
          (f.first + length f.parameters) ((f.first + length f.parameters) + names_in_block f.body) names (λ h. ⊥)
          (λ ns. Unit {0}) under flow n
          → GoodHeld types owner permits (key ∷ ways)
          (Ends types owner permits ways laws.steps key may.loose (known.result key) acts (lying_in w) fs more_sizes
          size
          running [] (f.first + length f.parameters) (f.first + length f.parameters) names (λ h. ⊥) (λ ns. Unit {0})
          under) (and_then (empties (f.first + length f.parameters) (names_in_block f.body)) flow n left)
      ends falls n left fell = absurd fell.ahead
      ends (returns v) n left gone = gone

      gave : (flow : Flow) (n : World) (left : ℕ)
          → Ends types owner permits ways laws.steps key may.loose (known.result key) acts
          (lying_in w) fs more_sizes size running []
          (f.first + length f.parameters) (f.first + length f.parameters) names (λ h. ⊥) (λ ns. Unit {0}) under flow n
          → GoodHeld types owner permits (key ∷ ways) (Done w) (returned flow n left)
      gave falls n left fell = absurd fell.ahead
      gave (returns v) n left gone = gone

  -- ---- the end of the frame

  leaves : (w : World) (v : Value) (n : World) → Done w v n
      → IsIn types owner acts fs sizes ((v, known.result key) ∷ under)
      (ends_frame (closed_to (length (lying_in w)) n))
      × (lying_in (ends_frame (closed_to (length (lying_in w)) n)) ≡ lying_in w)
  leaves w v n gone =
      let over = all_ended types owner permits ways laws.steps.actions acts (lying_in w) fs more_sizes waiting
      gone.newest
      gone.own gone.hold gone.names ((v, known.result key) ∷ under) n gone.going.bottom gone.going.state in
      let m = closed_to (length (lying_in w)) n in
      let last : Going types owner permits key may.loose (known.result key) acts (lying_in w) fs more_sizes size [] size
      (λ k. freed_each (tokens (gone.newest ∷ gone.own)) (gone.hold k)) gone.names ((v, known.result key) ∷ under)
      (closed_to (length (lying_in w)) n) = record {
        waits = λ k. waits_over (is_active acts) (may.loose k)
            (freed_each (tokens (gone.newest ∷ gone.own)) (gone.hold k)) (gone.over k);
        clear = λ k from. freed_none (tokens (gone.newest ∷ gone.own)) (gone.hold k) (gone.going.clear k from);
        fine = λ k. fine_on k (gone.going.fine k);
        bottom = over.1;
        state = over.0;
      } in
      let left = laws.left acts fs more_sizes ((v, known.result key) ∷ under) (closed_to (length (lying_in w)) n)
      laws.steps.actions.typed
      (frame (λ k. freed_each (tokens (gone.newest ∷ gone.own)) (gone.hold k)) gone.names) size
      (λ k. loose_is types owner permits ways laws.steps key may.loose (known.result key) acts (lying_in w) fs
      more_sizes
      size running [] size (λ k. freed_each (tokens (gone.newest ∷ gone.own)) (gone.hold k)) gone.names
      ((v, known.result key) ∷ under) (closed_to (length (lying_in w)) n) last k (gone.over k))
      (λ k from. freed_none (tokens (gone.newest ∷ gone.own)) (gone.hold k) (gone.going.clear k from)) running.count
      over.0
      in (
        subst (λ (xs : List ℕ). IsIn types owner acts fs xs ((v, known.result key) ∷ under)
            (ends_frame (closed_to (length (lying_in w)) n)))
            (take_at sizes (length (new_names f.first (values_of made) (names_in_block f.body)) ∷ []) (length fs)
            many) left,
        over.1,
      )
    where
      fine_on : (k : ℕ) → (gone.hold k ≡ empty) ⊎ IsFine types may.loose permits key k (gone.names k)
          → (freed_each (tokens (gone.newest ∷ gone.own)) (gone.hold k) ≡ empty)
          ⊎ IsFine types may.loose permits key k (gone.names k)
      fine_on k (inl is) = inl (freed_none (tokens (gone.newest ∷ gone.own)) (gone.hold k) is)
      fine_on k (inr fine) = inr fine

  -- what is done behind a body
  leave_good : (q : Value → World → Type 0) (out : Out Value)
      → GoodHeld types owner permits (key ∷ ways) (λ (v : Value) n. q v (ends_frame n)) out
      → GoodHeld types owner permits (key ∷ ways) q (follows out (λ v. does ends_frame >> pure v))
  unfolding follows
  leave_good q (gives v n left) good = good
  leave_good q (aborts fault n left) good = good
  leave_good q (cut n) good = good
  leave_good q (no_rule n left) good = absurd good

  pub enters_good : (w : World) (ticks : ℕ) → IsIn types owner acts fs sizes (onto made under) w
      → GoodHeld types owner permits (key ∷ ways)
      (λ (v : Value) n. IsIn types owner acts fs sizes ((v, known.result key) ∷ under) n × (lying_in n ≡ lying_in w))
      (enters invoke depth (Some f) (values_of made) w ticks)
  enters_good w ticks state =
      let q = λ (v : Value) (n : World). IsIn types owner acts fs sizes ((v, known.result key) ∷ under) n
      × (lying_in n ≡ lying_in w) in
      let w1 = begins (new_names f.first (values_of made) (names_in_block f.body)) w in
      let in_frame = laws.entered acts fs sizes under w f.first (names_in_block f.body) made many state in
      good_where owner _
      (λ (v : Value) n. IsIn types owner acts fs sizes ((v, known.result key) ∷ under) n × (lying_in n ≡ lying_in w))
      (length (values_of made) == length f.parameters)
      (does (begins (new_names f.first (values_of made) (names_in_block f.body)))
      >> (closing (run_block f.view invoke depth (f.first + length (values_of made)) (scope_of f) f.body >>= returned)
      >>= (λ v. does ends_frame >> pure v))) w ticks
      (eq-eqb (length (values_of made)) (length f.parameters) count_args)
      (good_does owner _
      (λ (v : Value) n. IsIn types owner acts fs sizes ((v, known.result key) ∷ under) n × (lying_in n ≡ lying_in w))
      (begins (new_names f.first (values_of made) (names_in_block f.body)))
      (closing (run_block f.view invoke depth (f.first + length (values_of made)) (scope_of f) f.body >>= returned)
      >>= (λ v. does ends_frame >> pure v)) w ticks
      (leave_good
      (λ (v : Value) n. IsIn types owner acts fs sizes ((v, known.result key) ∷ under) n × (lying_in n ≡ lying_in w))
      (closing (run_block f.view invoke depth (f.first + length (values_of made)) (scope_of f) f.body >>= returned)
      (begins (new_names f.first (values_of made) (names_in_block f.body)) w) ticks)
      (subst (λ (c : ℕ). GoodHeld types owner permits (key ∷ ways)
      (λ (v : Value) n. IsIn types owner acts fs sizes ((v, known.result key) ∷ under) (ends_frame n)
      × (lying_in (ends_frame n) ≡ lying_in w))
      (closing (run_block f.view invoke depth (f.first + c) (scope_of f) f.body >>= returned)
      (begins (new_names f.first (values_of made) (names_in_block f.body)) w) ticks)) (sym count_args)
      (closed_good (begins (new_names f.first (values_of made) (names_in_block f.body)) w) ticks in_frame))))
    where
      closed_good : (m : World) (left : ℕ) → IsIn types owner acts (frame_of f.first made ∷ fs) more_sizes under m
          → GoodHeld types owner permits (key ∷ ways)
          (λ (v : Value) n. IsIn types owner acts fs sizes ((v, known.result key) ∷ under) (ends_frame n)
          × (lying_in (ends_frame n) ≡ lying_in m))
          (closing (run_block f.view invoke depth (f.first + length f.parameters) (scope_of f) f.body >>= returned) m
          left)
      closed_good m left is =
          let counted = (laws.steps.actions.counted acts (frame_of f.first made ∷ fs) more_sizes under m).0 in
          good_closing owner _
          (λ (v : Value) n. IsIn types owner acts fs sizes ((v, known.result key) ∷ under) (ends_frame n)
          × (lying_in (ends_frame n) ≡ lying_in m))
          (run_block f.view invoke depth (f.first + length f.parameters) (scope_of f) f.body >>= returned) m left
          (good_so owner _ (Done m)
          (λ (v : Value) n. IsIn types owner acts fs sizes ((v, known.result key) ∷ under)
          (ends_frame (closed_to (length m.borrows) n))
          × (lying_in (ends_frame (closed_to (length m.borrows) n)) ≡ lying_in m))
          ((run_block f.view invoke depth (f.first + length f.parameters) (scope_of f) f.body >>= returned) m left)
          (λ v n gone. subst (λ (c : ℕ). IsIn types owner acts fs sizes ((v, known.result key) ∷ under)
          (ends_frame (closed_to c n)) × (lying_in (ends_frame (closed_to c n)) ≡ lying_in m)) (sym counted)
          (leaves m v n gone)) (body_good m left is))

-- ---- calls in calls

-- what stands behind one stands behind those before it and it
behind_one : {A : Type 0} (xs : List A) (a : A) (ys : List A) → xs ++ a ∷ ys ≡ (xs ++ a ∷ []) ++ ys
behind_one [] a ys = refl
behind_one {A = A} (x ∷ xs) a ys = ap (λ (zs : List A). x ∷ zs) (behind_one xs a ys)

-- where the frame of a call is among the oldest, those below it are
held_below : (types : Types) (owner : ClosedType → Option (List ℕ)) {V W : Type 0} (permits : Permits V W) (way : V)
    (ways : List V) (w : World) → IsCutSo types owner permits (way ∷ ways) w → IsCutSo types owner permits ways w
held_below types owner {V} permits way ways w so = (
  so.0,
  record {
    newer = so.1.newer ++ way ∷ [];
    acts = so.1.acts;
    frames = so.1.frames;
    sizes = so.1.sizes;
    under = so.1.under;
    state = so.1.state;
    held = subst (λ (all : List V). AllHeld permits all so.1.frames) (behind_one so.1.newer way ways) so.1.held;
  },
)

pub good_below : {A : Type 0} (types : Types) (owner : ClosedType → Option (List ℕ)) {V W : Type 0}
    (permits : Permits V W) (way : V) (ways : List V) (q : A → World → Type 0) (out : Out A)
    → GoodHeld types owner permits (way ∷ ways) q out → GoodHeld types owner permits ways q out
good_below types owner permits way ways q (gives a w left) good = good
good_below types owner permits way ways q (aborts fault w left) good = good
good_below types owner permits way ways q (cut w) good = held_below types owner permits way ways w good
good_below types owner permits way ways q (no_rule w left) good = absurd good

pub calls_at_safe : (types : Types) (owner : ClosedType → Option (List ℕ)) {K W : Type 0} (permits : Permits K W)
    (laws : RunsAreSafe types owner) {I T C E : Type 0} (known : Callables I K) (calls : Calls K E)
    (functions : I → Option (Function I T C)) → AllRun types owner permits known calls functions
    → (ways : List K) (depth : ℕ) → CallsSafe types owner permits ways known (call_at functions depth)
unfolding call_at
calls_at_safe types owner permits laws known calls functions all ways zero key acts fs sizes made under w ticks active
    waiting many typed state = (
      laws.steps.actions.told acts fs sizes (onto made under) w state,
      record {
        newer = [];
        acts = acts;
        frames = fs;
        sizes = sizes;
        under = onto made under;
        state = state;
        held = all_held permits ways (is_active acts) fs waiting;
      },
    )
calls_at_safe types owner permits laws known calls functions all ways (suc depth) key acts fs sizes made under w ticks
    active waiting many typed state =
    let one = all key in
    subst (λ o. GoodHeld types owner permits ways
    (λ (v : Value) n. IsIn types owner acts fs sizes ((v, known.result key) ∷ under) n × (lying_in n ≡ lying_in w))
    (enters (call_at functions depth) depth o (values_of made) w ticks)) (sym one.1)
    (good_below types owner permits key ways
    (λ (v : Value) n. IsIn types owner acts fs sizes ((v, known.result key) ∷ under) n × (lying_in n ≡ lying_in w))
    (enters (call_at functions depth) depth (Some one.0) (values_of made) w ticks)
    (enters_good types owner permits ways laws known calls (call_at functions depth) key
    (λ call. calls_at_safe types owner permits laws known calls functions all (key ∷ ways) depth (calls.to call.0))
    depth
    one.0 one.2 acts fs sizes made under active waiting many typed w ticks state))

-- while a call runs, its frame is among those that are held
pub calls_hold : (types : Types) (owner : ClosedType → Option (List ℕ)) {K W : Type 0} (permits : Permits K W)
    (laws : RunsAreSafe types owner) {I T C E : Type 0} (known : Callables I K) (calls : Calls K E)
    (functions : I → Option (Function I T C)) → AllRun types owner permits known calls functions
    → CallsHold types owner permits known functions
unfolding call_at
calls_hold types owner permits laws known calls functions all ways depth key acts fs sizes made under w ticks active
    waiting many typed state =
    let one = all key in
    subst (λ o. GoodHeld types owner permits (key ∷ ways)
    (λ (v : Value) n. IsIn types owner acts fs sizes ((v, known.result key) ∷ under) n × (lying_in n ≡ lying_in w))
    (enters (call_at functions depth) depth o (values_of made) w ticks)) (sym one.1)
    (enters_good types owner permits ways laws known calls (call_at functions depth) key
    (λ call. calls_at_safe types owner permits laws known calls functions all (key ∷ ways) depth (calls.to call.0))
    depth
    one.0 one.2 acts fs sizes made under active waiting many typed w ticks state)
