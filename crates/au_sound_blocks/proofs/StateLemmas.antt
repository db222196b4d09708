-- How a running frame goes on.
use Rattle.std.proofs.Common.{◌≡◌, ◌⊎◌, inl, inr, ℕ, zero, suc, ◌+◌, ◌<◌, ◌≤◌, ◌==◌, Bool, true, false, List, [], ◌∷◌}
use Rattle.std.proofs.Common.{◌++◌, Option, Some, None, refl, sym, ap, subst, ◌∙◌, arith, if◌then◌else◌}
use Rattle.std.proofs.lemmas.Bool.{cases_lt}
use Rattle.au_type_texts.specs.Types.{ClosedType}
use Rattle.au_types.specs.Types.{Meaning, writes}
use Rattle.au_syntax.specs.Expressions.{Expression}
use Rattle.au_syntax.specs.Plain.{Bytes}
use Rattle.au_memory.specs.Forests as forest
use Rattle.au_memory.specs.Forests.{Made, empty}
use Rattle.au_memory.specs.Loans.{Types}
use Rattle.au_lending.specs.Laws.{IsReadable}
use Rattle.au_sound_expressions.specs.Orders.{Act, Lying, is_active}
use Rattle.au_sound_expressions.specs.Frames.{Frame, IsDroppable, IsLoose}
use Rattle.au_meaning.specs.Acts.{emptied, stored, with_value}
use Rattle.au_meaning.specs.Expressions.{whole}
use Rattle.au_meaning.specs.Names.{Scope}
use Rattle.au_meaning.specs.Statements.{Flow, and_then, empties, falls, returns, within}
use Rattle.au_meaning.specs.Ticks.{Action, does, follows, found_in, pure, tick}
use Rattle.au_meaning.specs.Ticks.{◌>>=◌, ◌>>◌}
use Rattle.au_meaning.specs.Views.{View}
use Rattle.au_meaning.specs.Worlds.{Store, Value, World}
use Rattle.au_sound_expressions.specs.Good.{GoodBy, IsIn, IsRunning, lying_in}
use Rattle.au_sound_expressions.proofs.GoodLemmas.{good_so, good_then, good_tick}
use Rattle.au_sound_expressions.specs.Blocks.{IsFine, IsWholeOf, MayDrop, Names}
use Rattle.au_sound_expressions.specs.Expressions.{IsOf}
use Rattle.au_sound_expressions.specs.Known.{Callables, with_token}
use Rattle.au_sound_expressions.specs.Lives.{AreReady, IsOver, Standing, after_whole, put_each, spent}
use Rattle.au_sound_expressions.specs.Uses.{uses}
use Rattle.au_sound_expressions.specs.Safe.{AllWait, CallsSafe, Stands, Waits, frame}
use Rattle.au_sound_expressions.proofs.WaitLemmas.{all_held, all_more}
use Rattle.au_sound_expressions.proofs.WholeLemmas.{Gave, whole_safe}
use Rattle.au_sound_blocks.specs.Flows.{Fell, Flows, Going, IsBottom}
use Rattle.au_sound_blocks.specs.Steps.{StepsAreSafe}
use Rattle.au_sound_blocks.proofs.FrameLemmas.{each_after, each_before, each_in, each_way, frame_emptied}
use Rattle.au_sound_blocks.proofs.FrameLemmas.{spent_empty, waits_spent}
use Rattle.au_sound_expressions.specs.Held.{GoodHeld, IsCutSo, IsPermitted, Permits}

-- ---- actions that change the store alone

-- the world becomes another, and the statement falls through
pub good_falls : (owner : ClosedType → Option (List ℕ)) (cuts : World → Type 0) (q : Flow → World → Type 0)
    (change : World → World) (w : World)
    (ticks : ℕ) → q falls (change w) → GoodBy owner cuts q ((does change >> pure falls) w ticks)
unfolding follows
good_falls owner cuts q change w ticks good = good

-- the borrows that lie open stay
pub good_stored : {A : Type 0} (owner : ClosedType → Option (List ℕ)) (cuts : World → Type 0) (q : A → World → Type 0)
    (o : Option (A × Store))
    (w : World) (ticks : ℕ) → GoodBy owner cuts q (found_in (stored o w) w ticks)
    → GoodBy owner cuts (λ (v : A) n. q v n × (lying_in n ≡ lying_in w)) (found_in (stored o w) w ticks)
good_stored owner cuts q None w ticks good = absurd good
good_stored owner cuts q (Some pair) w ticks good = (good, refl)

-- ---- tokens

pub more_active : (own below : List Act) (z : ℕ) → is_active below z ≡ true → is_active (own ++ below) z ≡ true
more_active [] below z is = is
more_active (a ∷ own) below z is = by (a.token == z) (more_active own below z is)
  where
    by : (b : Bool) → is_active (own ++ below) z ≡ true → (if b then true else is_active (own ++ below) z) ≡ true
    by true rest = refl
    by false rest = rest

module _ (types : Types) (owner : ClosedType → Option (List ℕ)) {V W : Type 0} (permits : Permits V W)
    (ways : List V) (laws : StepsAreSafe types owner) (key : V) (loose : ℕ → Bool)
    (result : Meaning) (below : List Act) (base : Lying) (fs : List Frame) (sizes : List ℕ) (size : ℕ)
    (running : IsRunning sizes fs size) where
  abbrev pub Goes : List Act → ℕ → Standing → Names → Made → World → Type 0
  Goes own number h names under w = Going types owner permits key loose result below base fs sizes size own number h
      names under w

  abbrev pub Ends : List Act → (kept next : ℕ) → Names → (Standing → Type 0) → (Names → Type 0) → Made → Flow → World
      → Type 0
  Ends own kept next before A R under flow w =
      Flows types owner permits key loose result below base fs sizes size own kept next before A R under flow w

  -- its names stand as they may
  pub stands : (own : List Act) (number : ℕ) (h : Standing) (names : Names) (under : Made) (w : World)
      → Goes own number h names under w → Stands permits key (is_active (own ++ below)) h names
  stands own number h names under w going = (going.waits, λ k. by k (going.fine k))
    where
      by : (k : ℕ) → (h k ≡ empty) ⊎ IsFine types loose permits key k (names k)
          → (h k ≡ empty) ⊎ IsPermitted permits key (names k)
      by k (inl is) = inl is
      by k (inr fine) = inr fine.1

  -- its run may be cut off
  pub cut_on : AllWait permits ways (is_active below) fs → (own : List Act) (number : ℕ) (h : Standing) (names : Names)
      (under : Made) (w : World) → Goes own number h names under w → IsCutSo types owner permits (key ∷ ways) w
  cut_on waiting own number h names under w going = (
    laws.actions.told (own ++ below) (frame h names ∷ fs) sizes under w going.state,
    record {
      newer = [];
      acts = own ++ below;
      frames = frame h names ∷ fs;
      sizes = sizes;
      under = under;
      state = going.state;
      held = ((stands own number h names under w going).1, all_held permits ways (is_active below) fs waiting);
    },
  )

  -- a tick in a frame that goes on
  pub ticks_on : {A : Type 0} → AllWait permits ways (is_active below) fs → (q : A → World → Type 0) (m : Action A)
      (own : List Act) (number : ℕ) (h : Standing) (names : Names) (under : Made) (w : World) (ticks : ℕ)
      → Goes own number h names under w → ((left : ℕ) → GoodHeld types owner permits (key ∷ ways) q (m w left))
      → GoodHeld types owner permits (key ∷ ways) q (tick m w ticks)
  ticks_on waiting q m own number h names under w ticks going next =
      good_tick owner _ q m w ticks (cut_on waiting own number h names under w going) next

  -- more names are empty than is said
  pub goes_later : (own : List Act) (number later : ℕ) (h : Standing) (names : Names) (under : Made) (w : World)
      → number ≤ later → Goes own number h names under w → Goes own later h names under w
  goes_later own number later h names under w more going = record {
    waits = going.waits;
    clear = λ k from. going.clear k (omega arith);
    fine = going.fine;
    bottom = going.bottom;
    state = going.state;
  }

  -- names stand so as these say, one by one
  pub goes_as : (own : List Act) (number : ℕ) (h g : Standing) (names : Names) (under : Made) (w : World)
      → ((k : ℕ) → h k ≡ g k) → Goes own number h names under w → Goes own number g names under w
  goes_as own number h g names under w same going =
      subst (λ (f : Standing). Goes own number f names under w) (λ i k. same k i) going

  -- values under way are others, and borrows lie as before where the frame has no token of its own
  pub goes_with : (own : List Act) (number : ℕ) (h : Standing) (names : Names) (under made : Made) (w n : World)
      → lying_in n ≡ lying_in w → IsIn types owner (own ++ below) (frame h names ∷ fs) sizes made n
      → Goes own number h names under w → Goes own number h names made n
  goes_with own number h names under made w n lies state going = record {
    waits = going.waits;
    clear = going.clear;
    fine = going.fine;
    bottom = subst (λ (xs : Lying). IsBottom own xs base) (sym lies) going.bottom;
    state = state;
  }

  -- how a statement ends, said with less
  pub ends_more : (own : List Act) (kept less next later : ℕ) (before : Names) (A : Standing → Type 0)
      (R S : Names → Type 0)
      (under : Made) (flow : Flow) (w : World) → less ≤ kept → next ≤ later → ((ns : Names) → R ns → S ns)
      → Ends own kept next before A R under flow w → Ends own less later before A S under flow w
  ends_more own kept less next later before A R S under falls w fewer more so fell = record {
    hold = fell.hold;
    names = fell.names;
    ahead = fell.ahead;
    runs = so fell.names fell.runs;
    same = λ k below_it. fell.same k (omega arith);
    going = goes_later own next later fell.hold fell.names under w more fell.going;
  }
  ends_more own kept less next later before A R S under (returns v) w fewer more so gone = gone

  -- it falls through as it stands
  pub falls_on : (own : List Act) (kept number : ℕ) (h : Standing) (names : Names) (A : Standing → Type 0)
      (R : Names → Type 0) (under : Made) (w : World) → A h → R names → Goes own number h names under w
      → Ends own kept number names A R under falls w
  falls_on own kept number h names A R under w ahead runs going = record {
    hold = h;
    names = names;
    ahead = ahead;
    runs = runs;
    same = λ k less. refl;
    going = going;
  }

  -- one statement, and then what follows where it falls through
  pub ends_then : (own others : List Act) (kept next more_kept later : ℕ) (before names : Names)
      (A B : Standing → Type 0)
      (R S : Names → Type 0) (under : Made) (first : Action Flow) (more : Action Flow) (w : World) (ticks : ℕ)
      → GoodHeld types owner permits (key ∷ ways) (Ends own kept next before A R under) (first w ticks)
      → ((n : World) (left : ℕ) → Fell types owner permits key loose result below base fs sizes size own kept next
      before A R under n
      → GoodHeld types owner permits (key ∷ ways) (Ends others more_kept later names B S under) (more n left))
      → GoodHeld types owner permits (key ∷ ways) (Ends others more_kept later names B S under)
      ((first >>= and_then more) w ticks)
  ends_then own others kept next more_kept later before names A B R S under first more w ticks good go =
      good_then owner _ (Ends own kept next before A R under) (Ends others more_kept later names B S under)
      (first w ticks) (and_then more) good by
    where
      by : (flow : Flow) (n : World) (left : ℕ) → Ends own kept next before A R under flow n
          → GoodHeld types owner permits (key ∷ ways) (Ends others more_kept later names B S under)
          (and_then more flow n left)
      by falls n left fell = go n left fell
      by (returns v) n left gone = gone

  -- ---- the end of a block

  pub loose_is : (own : List Act) (number : ℕ) (h : Standing) (names : Names) (under : Made) (w : World)
      → Goes own number h names under w → (k : ℕ) → IsOver (loose k) (h k) → IsLoose types (h k) (names k)
  loose_is own number h names under w going k over = by (loose k) refl over
    where
      drops : h k ≡ forest.ready → MayDrop types (names k) → IsDroppable types (names k)
      drops is (inl free) = inl free
      drops is (inr (of, region, same, inl static)) =
          absurd (laws.actions.named_statics (own ++ below) (frame h names) fs sizes size under w k of
          (subst IsReadable (sym is) tt) (inl (same ∙ ap (writes of) static)) going.state)
      drops is (inr (of, region, same, inr (z, is_token))) = inr (of, z, same ∙ ap (writes of) is_token)

      ready : h k ≡ forest.ready → loose k ≡ true
          → (h k ≡ empty) ⊎ IsFine types loose permits key k (names k) → IsLoose types (h k) (names k)
      ready is may (inl none) = inl none
      ready is may (inr fine) = inr (is, drops is (fine.0 may))

      by : (b : Bool) → loose k ≡ b → IsOver b (h k) → IsLoose types (h k) (names k)
      by true is (inl none) = inl none
      by true is (inr full) = ready full is (going.fine k)
      by false is none = inl none

  -- what is emptied changes the store alone
  lies_emptied : (number count : ℕ) (w : World) → lying_in (emptied number count w) ≡ lying_in w
  lies_emptied number zero w = refl
  lies_emptied number (suc count) w = lies_emptied (number + 1) count (with_value number None w)

  -- The names of a block are emptied at its end, and types are as they were before.
  pub emptied_on : (own : List Act) (number count : ℕ) (before : Names) (A : Standing → Type 0) (R : Names → Type 0)
      (S : Names → Type 0) (under : Made) (w : World) (ticks : ℕ) → number + count ≤ size → S before
      → Fell types owner permits key loose result below base fs sizes size own number (number + count) before
      (λ h. ((k : ℕ) → number ≤ k → k < number + count → IsOver (loose k) (h k)) × A (put_each number count empty h)) R
      under w
      → GoodHeld types owner permits (key ∷ ways) (Ends own number number before A S under)
      (empties number count w ticks)
  emptied_on own number count before A R S under w ticks room says fell =
      good_falls owner _ (Ends own number number before A S under) (emptied number count) w ticks (record {
        hold = put_each number count empty fell.hold;
        names = before;
        ahead = fell.ahead.1;
        runs = says;
        same = λ k less. refl;
        going = record {
          waits = each_way (Waits (is_active (own ++ below))) number count empty fell.hold tt fell.going.waits;
          clear = none;
          fine = λ k. by k (cases_lt k number);
          bottom = subst (λ (xs : Lying). IsBottom own xs base) (sym (lies_emptied number count w)) fell.going.bottom;
          state = laws.renamed (own ++ below) fs sizes under (emptied number count w)
              (put_each number count empty fell.hold) fell.names before (λ k. same k (cases_lt k number))
              (subst (λ (f : Frame). IsIn types owner (own ++ below) (f ∷ fs) sizes under (emptied number count w))
              (frame_emptied number count fell.hold fell.names)
              (laws.emptied (own ++ below) (frame fell.hold fell.names) fs sizes size under w laws.actions.typed running
              number count room (λ k from less. loose_is own (number + count) fell.hold fell.names under w fell.going k
              (fell.ahead.0 k from less)) fell.going.state));
        };
      })
    where
      none : (k : ℕ) → number ≤ k → put_each number count empty fell.hold k ≡ empty
      none k from = at (cases_lt k (number + count))
        where
          at : (k < number + count) ⊎ (number + count ≤ k) → put_each number count empty fell.hold k ≡ empty
          at (inl less) = each_in number count k empty fell.hold from less
          at (inr beyond) = each_after number count k empty fell.hold beyond ∙ fell.going.clear k beyond

      by : (k : ℕ) → (k < number) ⊎ (number ≤ k)
          → (put_each number count empty fell.hold k ≡ empty) ⊎ IsFine types loose permits key k (before k)
      by k (inl less) = so (fell.going.fine k)
        where
          so : (fell.hold k ≡ empty) ⊎ IsFine types loose permits key k (fell.names k)
              → (put_each number count empty fell.hold k ≡ empty) ⊎ IsFine types loose permits key k (before k)
          so (inl is) = inl (each_before number count k empty fell.hold less ∙ is)
          so (inr fine) = inr (subst (λ (t : Meaning). IsFine types loose permits key k t) (fell.same k less) fine)
      by k (inr from) = inl (none k from)

      same : (k : ℕ) → (k < number) ⊎ (number ≤ k)
          → (put_each number count empty fell.hold k ≡ empty) ⊎ (fell.names k ≡ before k)
      same k (inl less) = inr (fell.same k less)
      same k (inr from) = inl (none k from)

  -- a block, of which so many names are emptied where it falls through
  pub within_safe : (own : List Act) (number count : ℕ) (before : Names) (A : Standing → Type 0) (R : Names → Type 0)
      (S : Names → Type 0) (under : Made) (block : Action Flow) (w : World) (ticks : ℕ) → number + count ≤ size
      → S before
      → GoodHeld types owner permits (key ∷ ways)
      (Ends own number (number + count) before
      (λ h. ((k : ℕ) → number ≤ k → k < number + count → IsOver (loose k) (h k)) × A (put_each number count empty h)) R
      under)
      (block w ticks)
      → GoodHeld types owner permits (key ∷ ways) (Ends own number number before A S under)
      (within number count block w ticks)
  within_safe own number count before A R S under block w ticks room says good =
      ends_then own own number (number + count) number number before before
      (λ h. ((k : ℕ) → number ≤ k → k < number + count → IsOver (loose k) (h k)) × A (put_each number count empty h)) A
      R S under block (empties number count) w ticks good
      (λ n left fell. emptied_on own number count before A R S under n left room says fell)

  -- ---- whole expressions

  -- what a whole expression leaves of the frame, and its value
  pub record Valued (own : List Act) (number : ℕ) (A : Meaning → Type 0) (hold : Standing) (names : Names)
      (under : Made) (v : Value) (n : World) : Type 0 where
    pub of : Meaning
    pub is : A of
    pub going : Goes own number hold names ((v, of) ∷ under) n
    pub state : IsIn types owner (own ++ below) (frame hold names ∷ fs) sizes ((v, of) ∷ under) n

  module _ {I T C K : Type 0} (see : View I T C) (known : Callables I K) (invoke : I → List Value → Action Value)
      (calls_safe : CallsSafe types owner permits (key ∷ ways) known invoke)
      (waiting : AllWait permits ways (is_active below) fs) where
    all_wait : (own : List Act) → AllWait permits ways (is_active (own ++ below)) fs
    all_wait own = all_more permits ways (is_active below) (is_active (own ++ below)) (more_active own below) fs waiting

    pub values_safe : (A : Meaning → Type 0) (scope : Scope) (e : Expression Bytes T C) (own : List Act) (number : ℕ)
        (h : Standing) (names : Names) (under : Made) (w : World) (ticks : ℕ)
        → ((z : ℕ) → is_active (own ++ below) z ≡ false
        → (t : Meaning) × A t × IsOf types owner see known names z (with_token z (is_active (own ++ below))) scope e t)
        → AreReady h (λ k. uses see k scope e) → Goes own number h names under w
        → GoodHeld types owner permits (key ∷ ways) (Valued own number A (after_whole see loose scope e h) names under)
        (whole see invoke scope e w ticks)
    values_safe A scope e own number h names under w ticks fits met going =
        let counts = λ (k : ℕ). (uses see k scope e).consumed in
        good_so owner _
        (Gave types owner permits key ways laws.actions (own ++ below) names fs sizes size running see known invoke
        calls_safe
        (all_wait own) A (λ k. spent (uses see k scope e).consumed (h k)) under (lying_in w))
        (Valued own number A (after_whole see loose scope e h) names under) (whole see invoke scope e w ticks)
        (λ v n gave. record {
          of = gave.of;
          is = gave.is;
          going = record {
            waits = λ k. waits_spent (is_active (own ++ below)) (uses see k scope e).consumed (h k) (going.waits k);
            clear = λ k from. spent_empty (uses see k scope e).consumed (h k) (going.clear k from);
            fine = λ k. fine_on k (going.fine k);
            bottom = subst (λ (xs : Lying). IsBottom own xs base) (sym gave.same) going.bottom;
            state = gave.state;
          };
          state = gave.state;
        })
        (whole_safe types owner permits key ways laws.actions (own ++ below) names fs sizes size running see known
        invoke
        calls_safe (all_wait own) A scope e h under w ticks fits met (stands own number h names under w going)
        going.state)
      where
        fine_on : (k : ℕ) → (h k ≡ empty) ⊎ IsFine types loose permits key k (names k)
            → (spent (uses see k scope e).consumed (h k) ≡ empty) ⊎ IsFine types loose permits key k (names k)
        fine_on k (inl is) = inl (spent_empty (uses see k scope e).consumed (h k) is)
        fine_on k (inr fine) = inr fine

    -- one of this type
    pub value_safe : (t : Meaning) (scope : Scope) (e : Expression Bytes T C) (own : List Act) (number : ℕ)
        (h : Standing) (names : Names) (under : Made) (w : World) (ticks : ℕ)
        → IsWholeOf types owner see known result loose permits key (is_active (own ++ below)) names scope e t
        → AreReady h (λ k. uses see k scope e) → Goes own number h names under w
        → GoodHeld types owner permits (key ∷ ways) (λ (v : Value) n. Goes own number
        (after_whole see loose scope e h) names
        ((v, t) ∷ under) n)
        (whole see invoke scope e w ticks)
    value_safe t scope e own number h names under w ticks fits met going =
        good_so owner _ (Valued own number (λ (u : Meaning). u ≡ t) (after_whole see loose scope e h) names under)
        (λ (v : Value) n. Goes own number (after_whole see loose scope e h) names ((v, t) ∷ under) n)
        (whole see invoke scope e w ticks)
        (λ v n valued. subst (λ (u : Meaning).
        Goes own number (after_whole see loose scope e h) names ((v, u) ∷ under) n) valued.is valued.going)
        (values_safe (λ (u : Meaning). u ≡ t) scope e own number h names under w ticks (λ z off. (t, refl, fits z off))
        met going)
