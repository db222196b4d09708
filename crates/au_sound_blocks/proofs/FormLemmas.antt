-- Statements that declare, take apart, assign, discard and return.
use Rattle.std.proofs.Common.{◌≡◌, ◌⊎◌, inr, ℕ, suc, ◌+◌, ◌≤◌, ◌==◌, Bool, true, false, List, [], ◌∷◌}
use Rattle.std.proofs.Common.{◌++◌, length, Option, Some, refl, sym, ap, subst, ◌∙◌, arith, if◌then◌else◌}
use Rattle.std.proofs.lemmas.Bool.{eqb-true}
use Rattle.au_effects.specs.Values as values
use Rattle.au_type_texts.specs.Types.{ClosedType}
use Rattle.au_types.specs.Types.{Meaning}
use Rattle.au_syntax.specs.Expressions.{Expression}
use Rattle.au_syntax.specs.Plain.{Bytes}
use Rattle.au_syntax.specs.Types.{Bound}
use Rattle.au_memory.specs.Forests as forest
use Rattle.au_memory.specs.Forests.{Hold, Made, empty, shut, watched}
use Rattle.au_memory.specs.Loans.{Types}
use Rattle.au_lending.specs.Ending.{freed, left_watched, others_of}
use Rattle.au_lending.specs.Records.{onto, types_made}
use Rattle.au_sound_expressions.specs.Orders.{Act, Lying, is_active}
use Rattle.au_sound_expressions.specs.Frames.{Frame}
use Rattle.au_meaning.specs.Acts.{apart, bound_counted, holds, with_value, with_values}
use Rattle.au_meaning.specs.Expressions.{whole}
use Rattle.au_meaning.specs.Names.{Scope}
use Rattle.au_meaning.specs.Statements.{Flow, binds_fields, falls}
use Rattle.au_meaning.specs.Ticks.{Action, does, follows, pure, tick, ◌>>=◌, ◌>>◌}
use Rattle.au_meaning.specs.Views.{Field, View}
use Rattle.au_meaning.specs.Worlds.{Value, World}
use Rattle.au_sound_expressions.specs.Good.{GoodBy, IsIn, IsRunning, lying_in}
use Rattle.au_sound_expressions.specs.Making.{values_of}
use Rattle.au_sound_expressions.proofs.GoodLemmas.{good_needing, good_then}
use Rattle.au_sound_expressions.specs.Binding.{AreUnder, bound_fields, field_names}
use Rattle.au_sound_expressions.specs.Blocks.{AreBound, AreFine, IsFine, IsWholeOf, Names, with_types}
use Rattle.au_sound_expressions.specs.Known.{Callables}
use Rattle.au_sound_expressions.specs.Lives.{Standing, Steps, after_whole, put, put_each}
use Rattle.au_sound_expressions.specs.Picking.{AreTypesUnder}
use Rattle.au_sound_expressions.specs.Safe.{AllWait, CallsSafe, Waits, frame}
use Rattle.au_sound_expressions.proofs.PickLemmas.{length_types, types_under}
use Rattle.au_sound_blocks.specs.Flows.{IsBottom}
use Rattle.au_sound_blocks.specs.Steps.{StepsAreSafe}
use Rattle.au_sound_blocks.proofs.FrameLemmas.{each_after, each_way, frame_filled, put_each_way, put_other}
use Rattle.au_sound_blocks.proofs.StateLemmas.{Ends, Goes, good_falls, ticks_on, value_safe}
use Rattle.au_sound_expressions.specs.Held.{GoodHeld, Permits}

-- ---- what is bound

-- as many values are found as names
are_many : (wanted names : List Bytes) (vs ws : Made) → AreUnder wanted names vs ws → length ws ≡ length wanted
are_many [] names vs [] are = refl
are_many [] names vs (w ∷ ws) are = absurd are
are_many (name ∷ wanted) names vs [] are = absurd are
are_many (name ∷ wanted) names vs (w ∷ ws) are = ap suc (are_many wanted names vs ws are.1)

binds_many : (binds : List (Bound Bytes)) → length (bound_fields binds) ≡ length binds
binds_many [] = refl
binds_many (b ∷ binds) = ap suc (binds_many binds)

-- names are filled in the store alone
lies_filled : (number : ℕ) (vs : List Value) (w : World) → lying_in (with_values number vs w) ≡ lying_in w
lies_filled number [] w = refl
lies_filled number (v ∷ vs) w = lies_filled (number + 1) vs (with_value number (Some v) w)

-- a value is taken apart in the store alone
pub good_apart : (owner : ClosedType → Option (List ℕ)) (cuts : World → Type 0) (q : ℕ × List Value → World → Type 0)
    (v : Value) (w : World)
    (ticks : ℕ) → GoodBy owner cuts q (apart v w ticks)
    → GoodBy owner cuts (λ (p : ℕ × List Value) n. q p n × (lying_in n ≡ lying_in w)) (apart v w ticks)
unfolding follows
good_apart owner cuts q values.unit w ticks good = absurd good
good_apart owner cuts q (values.truth b) w ticks good = absurd good
good_apart owner cuts q (values.number kind z) w ticks good = absurd good
good_apart owner cuts q (values.text t) w ticks good = absurd good
good_apart owner cuts q (values.made tag birth parts) w ticks good = (good, refl)
good_apart owner cuts q (values.reference borrow place) w ticks good = absurd good
good_apart owner cuts q (values.box id) w ticks good = absurd good
good_apart owner cuts q (values.buffer id) w ticks good = absurd good
good_apart owner cuts q (values.terminal id) w ticks good = absurd good
good_apart owner cuts q (values.root id) w ticks good = absurd good

pub some_same : {A : Type 0} (a b : A) → ◌≡◌ {A = Option A} (Some a) (Some b) → a ≡ b
some_same a b same = cc

-- a name that is empty when a token has ended was empty
pub freed_empty : (z : ℕ) (h : Hold) → freed z h ≡ empty → h ≡ empty
freed_empty z empty is = refl
freed_empty z forest.ready is = absurd cc
freed_empty z (shut y) is = by (z == y) is
  where
    by : (b : Bool) → (if b then forest.ready else shut y) ≡ empty → shut y ≡ empty
    by true same = absurd cc
    by false same = same
freed_empty z (watched zs) is = by (others_of z zs) is
  where
    by : (ys : List ℕ) → left_watched ys ≡ empty → watched zs ≡ empty
    by [] same = absurd cc
    by (y ∷ ys) same = absurd cc

module _ (types : Types) (owner : ClosedType → Option (List ℕ)) {V W : Type 0} (permits : Permits V W)
    (ways : List V) (laws : StepsAreSafe types owner) (key : V) (loose : ℕ → Bool)
    (result : Meaning) (below : List Act) (base : Lying) (fs : List Frame) (sizes : List ℕ) (size : ℕ)
    (running : IsRunning sizes fs size) {I T C K : Type 0} (see : View I T C) (known : Callables I K)
    (invoke : I → List Value → Action Value) (calls_safe : CallsSafe types owner permits (key ∷ ways) known invoke)
    (waiting : AllWait permits ways (is_active below) fs) where
  abbrev Gos : List Act → ℕ → Standing → Names → Made → World → Type 0
  Gos own number h names under w = Goes types owner permits ways laws key loose result below base fs sizes size
      running own
      number h names under w

  abbrev Ending : List Act → (kept next : ℕ) → Names → (Standing → Type 0) → (Names → Type 0) → Made → Flow → World
      → Type 0
  Ending own kept next before A R under flow w =
      Ends types owner permits ways laws key loose result below base fs sizes size running own kept next before A R
      under
      flow w

  -- each name is empty, or it is fine
  abbrev pub Fine : Standing → Names → Type 0
  Fine h names = (k : ℕ) → (h k ≡ empty) ⊎ IsFine types loose permits key k (names k)

  pub fine_put : (n : ℕ) (t : Meaning) (h : Standing) (names : Names)
      → IsFine types loose permits key n t → Fine h names → Fine (put n forest.ready h) (put n t names)
  fine_put n t h names own others k = by (n == k) refl
    where
      by : (b : Bool) → (n == k) ≡ b
          → ((if b then forest.ready else h k) ≡ empty)
          ⊎ IsFine types loose permits key k (if b then t else names k)
      by true same = inr (subst (λ (j : ℕ). IsFine types loose permits key j t) (eqb-true n k same) own)
      by false differ = others k

  pub fine_each : (n : ℕ) (ts : List Meaning) (h : Standing) (names : Names)
      → AreFine types loose permits key n ts → Fine h names
      → Fine (put_each n (length ts) forest.ready h) (with_types n ts names)
  fine_each n [] h names are fine = fine
  fine_each n (t ∷ ts) h names are fine =
      fine_each (suc n) ts (put n forest.ready h) (put n t names) are.1 (fine_put n t h names are.0 fine)

  -- ---- a name that is declared

  pub held_on : (own : List Act) (number : ℕ) (t : Meaning) (h : Standing) (names : Names) (under : Made) (v : Value)
      (n : World) → number + 1 ≤ size → IsFine types loose permits key number t
      → Gos own number h names ((v, t) ∷ under) n
      → Gos own (number + 1) (put number forest.ready h) (put number t names) under (with_value number (Some v) n)
  held_on own number t h names under v n room fine going = record {
    waits = λ k. put_each_way (Waits (is_active (own ++ below))) number k forest.ready h (λ same. tt)
        (λ other. going.waits k);
    clear = λ k from. put_other number k forest.ready h (λ same. omega arith) ∙ going.clear k (omega arith);
    fine = fine_put number t h names fine going.fine;
    bottom = going.bottom;
    state = laws.held (own ++ below) (frame h names) fs sizes size under n 0 running number v t (omega arith)
        (going.clear number (omega arith)) going.state;
  }

  pub declare_safe : (number : ℕ) (scope : Scope) (e : Expression Bytes T C) (t : Meaning) (own : List Act)
      (A : Standing → Type 0) (R : Names → Type 0) (h : Standing) (names : Names) (under : Made) (w : World) (ticks : ℕ)
      → IsWholeOf types owner see known result loose permits key (is_active (own ++ below)) names scope e t
      → IsFine types loose permits key number t → R (put number t names)
      → Steps see loose scope e h (λ g. A (put number forest.ready g)) → number + 1 ≤ size
      → Gos own number h names under w
      → GoodHeld types owner permits (key ∷ ways) (Ending own number (number + 1) names A R under)
      ((whole see invoke scope e >>= (λ v. tick (holds number v >> pure falls))) w ticks)
  declare_safe number scope e t own A R h names under w ticks fits fine says steps room going =
      let g = after_whole see loose scope e h in
      let q = Ending own number (number + 1) names A R under in
      good_then owner _ (λ (v : Value) n. Gos own number (after_whole see loose scope e h) names ((v, t) ∷ under) n) q
      (whole see invoke scope e w ticks) (λ v. tick (holds number v >> pure falls))
      (value_safe types owner permits ways laws key loose result below base fs sizes size running see known invoke
      calls_safe
      waiting t scope e own number h names under w ticks fits steps.0 going)
      (λ v n left going2.
      ticks_on types owner permits ways laws key loose result below base fs sizes size running waiting q
      (holds number v >> pure falls) own number (after_whole see loose scope e h) names ((v, t) ∷ under) n left going2
      (λ more. good_falls owner _ q (with_value number (Some v)) n more (record {
        hold = put number forest.ready (after_whole see loose scope e h);
        names = put number t names;
        ahead = steps.1;
        runs = says;
        same = λ k less. put_other number k t names (λ same. omega arith);
        going = held_on own number t (after_whole see loose scope e h) names under v n room fine going2;
      })))

  -- ---- fields that are bound

  pub binds_good : (own : List Act) (number : ℕ) (binds : List (Bound Bytes)) (fields : List Field)
      (kinds : List Meaning)
      (bound : AreBound types owner see known result loose permits key number fields kinds binds) (h : Standing)
      (names : Names)
      (parts under : Made) (n : World) (left : ℕ) → types_made parts ≡ kinds → number + length binds ≤ size
      → Gos own number h names (onto parts under) n
      → GoodHeld types owner permits (key ∷ ways)
      (λ (u : Unit {0}) m. Gos own (number + length binds) (put_each number (length binds) forest.ready h)
      (with_types number bound.bound names) under m) (binds_fields number binds (Some fields) (values_of parts) n left)
  binds_good own number binds fields kinds bound h names parts under n left same room going =
      let many : length parts ≡ length fields =
      length_types parts ∙ (ap (λ (ts : List Meaning). length ts) same ∙ bound.many) in
      let found = laws.fields fields parts binds many bound.apart bound.each in
      let typed : types_made found.0 ≡ bound.bound =
      types_under (bound_fields binds) (field_names fields) parts found.0 bound.bound found.3
      (subst (λ (ks : List Meaning). AreTypesUnder (bound_fields binds) (field_names fields) ks bound.bound) (sym same)
      bound.are) in
      let count : length found.0 ≡ length binds =
      are_many (bound_fields binds) (field_names fields) parts found.0 found.3 ∙ binds_many binds in
      let count_types : length bound.bound ≡ length binds =
      ap (λ (ts : List Meaning). length ts) (sym typed) ∙ (sym (length_types found.0) ∙ count) in
      let placed = laws.actions.reordered (own ++ below) (frame h names ∷ fs) sizes under n parts found.0 found.2
      going.state
      in
      let full = laws.filled (own ++ below) (frame h names) fs sizes size under n running number found.0 (omega arith)
      (λ k from less. going.clear k from) placed in
      let q = λ (u : Unit {0}) (m : World). Gos own (number + length binds)
      (put_each number (length binds) forest.ready h) (with_types number bound.bound names) under m in
      good_needing owner _ q (bound_counted fields (values_of parts) binds) (values_of found.0)
      (λ (bs : List Value). does (with_values number bs)) n left found.1 (record {
        waits = each_way (Waits (is_active (own ++ below))) number (length binds) forest.ready h tt going.waits;
        clear = λ k from. each_after number (length binds) k forest.ready h from ∙ going.clear k (omega arith);
        fine = subst (λ (c : ℕ). Fine (put_each number c forest.ready h) (with_types number bound.bound names))
            count_types (fine_each number bound.bound h names bound.fine going.fine);
        bottom = subst (λ (xs : Lying). IsBottom own xs base) (sym (lies_filled number (values_of found.0) n))
            going.bottom;
        state = subst (λ (f : Frame). IsIn types owner (own ++ below) (f ∷ fs) sizes under
            (with_values number (values_of found.0) n))
            (frame_filled number found.0 h names
            ∙ (ap (λ (c : ℕ). frame (put_each number c forest.ready h) (with_types number (types_made found.0) names))
            count ∙ ap (λ (ts : List Meaning). frame (put_each number (length binds) forest.ready h)
            (with_types number ts names)) typed)) full;
      })
