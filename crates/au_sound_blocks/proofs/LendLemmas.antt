-- Borrow statements, once their blocks are safe.
use Rattle.std.proofs.Common.{◌≡◌, ◌⊎◌, inl, inr, ℕ, ◌+◌, ◌≤◌, Bool, true, false, List, ◌∷◌}
use Rattle.std.proofs.Common.{◌++◌, length, Option, Some, None, refl, sym, ap, subst, ◌∙◌}
use Rattle.au_running_types.specs.Running.{token}
use Rattle.au_type_texts.specs.Types.{ClosedType}
use Rattle.au_types.specs.Types.{Meaning, writes}
use Rattle.au_ahead.proofs.ReadyLemmas as ready
use Rattle.au_lives.specs.Mentions.{borrowed_by, unmentioned}
use Rattle.au_syntax.specs.declared.expressions.BorrowMode.{BorrowMode}
use Rattle.au_syntax.specs.declared.expressions.BorrowMode.TheVariants as mode
use Rattle.au_memory.specs.Forests as forest
use Rattle.au_memory.specs.Forests.{Hold, Made, empty}
use Rattle.au_memory.specs.Loans.{Types}
use Rattle.au_lending.specs.Ending.{freed}
use Rattle.au_lending.specs.Laws.{IsReadable}
use Rattle.au_sound_expressions.specs.Orders.{Act, Lying, is_active}
use Rattle.au_sound_expressions.specs.Frames.{Frame}
use Rattle.au_meaning.specs.Acts.{closed_to, holds, lends}
use Rattle.au_meaning.specs.Names.{Variable}
use Rattle.au_meaning.specs.Statements as statement
use Rattle.au_meaning.specs.Statements.{Flow, and_then, binds_borrow, falls}
use Rattle.au_meaning.specs.Ticks.{Action, does, pure, tick, ◌>>=◌, ◌>>◌}
use Rattle.au_meaning.specs.Views.{View}
use Rattle.au_meaning.specs.Worlds.{Value, World}
use Rattle.au_sound_expressions.specs.Good.{Good, IsIn, IsRunning, lying_in}
use Rattle.au_sound_expressions.proofs.GoodLemmas.{good_then, good_uncut}
use Rattle.au_sound_expressions.specs.Blocks.{IsFine, Names}
use Rattle.au_sound_expressions.specs.Expressions.{Borrows}
use Rattle.au_sound_expressions.specs.Known.{Callables, InScope}
use Rattle.au_sound_expressions.specs.Lives.{AreReady, Standing, lending, lent_for, put}
use Rattle.au_sound_expressions.specs.Lives.{stand}
use Rattle.au_sound_expressions.specs.Uses.{where_of}
use Rattle.au_sound_expressions.specs.Safe.{AllWait, CallsSafe, Waits, frame}
use Rattle.au_sound_expressions.proofs.HoldLemmas.{is_readable, is_ready, waits_watched}
use Rattle.au_sound_expressions.proofs.LeafLemmas.{own_active}
use Rattle.au_sound_expressions.proofs.WaitLemmas.{active_more, all_more, frames_stay, fresh, waits_freed, waits_more}
use Rattle.au_sound_blocks.specs.Flows.{Fell, IsBottom}
use Rattle.au_sound_blocks.specs.Steps.{StepsAreSafe}
use Rattle.au_sound_blocks.proofs.AssignLemmas.{met_one}
use Rattle.au_sound_blocks.proofs.FormLemmas.{held_on}
use Rattle.au_sound_blocks.proofs.FrameLemmas.{put_each_way}
use Rattle.au_sound_blocks.proofs.StateLemmas.{Ends, Goes, ends_then, good_falls}
use Rattle.au_sound_blocks.proofs.StateLemmas.{more_active, ticks_on}
use Rattle.au_sound_blocks.proofs.LoopLemmas.{good_lending}
use Rattle.au_sound_expressions.specs.Held.{GoodHeld, IsCutSo, Permits}

module _ (types : Types) (owner : ClosedType → Option (List ℕ)) {V W : Type 0} (permits : Permits V W)
    (ways : List V) (laws : StepsAreSafe types owner) (key : V) (loose : ℕ → Bool)
    (result : Meaning) (below : List Act) (base : Lying) (fs : List Frame) (sizes : List ℕ) (size : ℕ)
    (running : IsRunning sizes fs size) {I T C K : Type 0} (see : View I T C) (known : Callables I K)
    (invoke : I → List Value → Action Value) (calls_safe : CallsSafe types owner permits (key ∷ ways) known invoke)
    (waiting : AllWait permits ways (is_active below) fs) where
  abbrev Gos : List Act → ℕ → Standing → Names → Made → World → Type 0
  Gos own number h names under w = Goes types owner permits ways laws key loose result below base fs sizes size
      running own
      number h names under w

  abbrev Ending : List Act → (kept next : ℕ) → Names → (Standing → Type 0) → (Names → Type 0) → Made → Flow → World
      → Type 0
  Ending own kept next before A R under flow w =
      Ends types owner permits ways laws key loose result below base fs sizes size running own kept next before A R
      under
      flow w

  -- ---- a variable is lent

  -- A name that holds something isn't empty.
  full : (h : Hold) → IsReadable h → h ≡ empty → ⊥
  full h is none = subst IsReadable none is

  lent_good : (m : BorrowMode) (x : Variable) (a : Act) (acts : List Act) (of : Meaning) (h : Standing) (names : Names)
      (under : Made) (w : World) (ticks : ℕ) → IsReadable (h x.number)
      → AreReady h (λ k. where_of k (Some x) (borrowed_by m))
      → Borrows types owner see known names a.token (is_active acts) m (Some x) of
      → IsIn types owner (a ∷ acts) (frame h names ∷ fs) sizes under w
      → Good owner
      (λ (v : Value) n. IsIn types owner (a ∷ acts) (frame (lending m a.token (Some x) h) names ∷ fs) sizes
      ((v, of) ∷ under) n) (lends m x.number w ticks)
  lent_good mode.Write x a acts of h names under w ticks is met fits state =
      subst (λ (u : Meaning). Good owner
      (λ (v : Value) n. IsIn types owner (a ∷ acts) (frame (lending mode.Write a.token (Some x) h) names ∷ fs) sizes
      ((v, u) ∷ under) n) (lends mode.Write x.number w ticks)) (sym fits)
      (laws.actions.lent (a ∷ acts) (frame h names) fs sizes size under w ticks running a acts refl x.number
      (is_ready (h x.number) (ready.lends (stand (h x.number)) unmentioned
      (met_one x (borrowed_by mode.Write) h met)).0) state)
  lent_good mode.Read x a acts of h names under w ticks is met fits state =
      subst (λ (u : Meaning). Good owner
      (λ (v : Value) n. IsIn types owner (a ∷ acts) (frame (lending mode.Read a.token (Some x) h) names ∷ fs) sizes
      ((v, u) ∷ under) n) (lends mode.Read x.number w ticks)) (sym fits)
      (laws.actions.read (a ∷ acts) (frame h names) fs sizes size under w ticks running a acts refl x.number is state)
  lent_good mode.Reborrow x a acts of h names under w ticks is met fits state =
      subst (λ (u : Meaning). Good owner
      (λ (v : Value) n. IsIn types owner (a ∷ acts) (frame (lending mode.Reborrow a.token (Some x) h) names ∷ fs) sizes
      ((v, u) ∷ under) n) (lends mode.Reborrow x.number w ticks)) (sym fits.4) (by fits.3)
    where
      by : InScope (is_active acts) fits.1 → Good owner
          (λ (v : Value) n. IsIn types owner (a ∷ acts) (frame (lending mode.Reborrow a.token (Some x) h) names ∷ fs)
          sizes ((v, writes fits.0 (token a.token)) ∷ under) n) (lends mode.Reborrow x.number w ticks)
      by (inl static) =
          absurd (laws.actions.named_statics (a ∷ acts) (frame h names) fs sizes size under w x.number fits.0 is
          (inl (fits.2 ∙ ap (writes fits.0) static)) state)
      by (inr scoped) =
          laws.actions.relent (a ∷ acts) (frame h names) fs sizes size under w ticks (laws.actions.typed).forms running
          a acts refl x.number fits.0 scoped.0
          (is_ready (h x.number) (ready.lends (stand (h x.number)) unmentioned
          (met_one x (borrowed_by mode.Reborrow) h met)).0)
          (fits.2 ∙ ap (writes fits.0) scoped.1) (active_more a acts scoped.0 scoped.2) state

  readable : (m : BorrowMode) (x : Variable) (h : Standing) → AreReady h (λ k. where_of k (Some x) (borrowed_by m))
      → IsReadable (h x.number)
  readable mode.Write x h met =
      subst IsReadable (sym (is_ready (h x.number) (ready.lends (stand (h x.number)) unmentioned
      (met_one x (borrowed_by mode.Write) h met)).0)) tt
  readable mode.Read x h met =
      is_readable (h x.number) (ready.reads (stand (h x.number)) unmentioned (met_one x (borrowed_by mode.Read) h
      met)).0
  readable mode.Reborrow x h met =
      subst IsReadable (sym (is_ready (h x.number) (ready.lends (stand (h x.number)) unmentioned
      (met_one x (borrowed_by mode.Reborrow) h met)).0)) tt

  waits_lent : (m : BorrowMode) (active : ℕ → Bool) (z : ℕ) (h : Hold) → active z ≡ true → Waits active h
      → Waits active (lent_for m z h)
  waits_lent mode.Read active z h is waits = waits_watched active z h is waits
  waits_lent mode.Write active z h is waits = is
  waits_lent mode.Reborrow active z h is waits = is

  -- ---- the end of a borrow statement

  closed_on : (a : Act) (own : List Act) (number : ℕ) (names before : Names) (A : Standing → Type 0)
      (R S : Names → Type 0)
      (under : Made) (count : ℕ) (n : World) (left : ℕ) → count ≡ length a.base
      → is_active (own ++ below) a.token ≡ false
      → S before
      → Fell types owner permits key loose result below base fs sizes size (a ∷ own) number number before
      (λ f. A (λ k. freed a.token (f k))) (λ ns. ns ≡ before) under n
      → GoodHeld types owner permits (key ∷ ways) (Ending own number number before A S under)
      (tick (does (closed_to count) >> pure falls) n left)
  closed_on a own number names before A R S under count n left is off says fell =
      let z = a.token in
      ticks_on types owner permits ways laws key loose result below base fs sizes size running waiting
      (Ending own number number before A S under) (does (closed_to count) >> pure falls) (a ∷ own) number fell.hold
      fell.names under n left fell.going (λ more. good_falls owner _ (Ending own number number before A S under)
      (closed_to count) n more (record {
        hold = λ k. freed a.token (fell.hold k);
        names = before;
        ahead = fell.ahead;
        runs = says;
        same = λ k less. refl;
        going = subst (λ (c : ℕ). Gos own number (λ k. freed a.token (fell.hold k)) before under (closed_to c n))
            (sym is) (subst (λ (ns : Names). Gos own number (λ k. freed a.token (fell.hold k)) ns under
            (closed_to (length a.base) n)) fell.runs (record {
              waits = λ k. waits_freed a (own ++ below) (fell.hold k) (fell.going.waits k);
              clear = λ k from. ap (freed a.token) (fell.going.clear k from);
              fine = λ k. fine_on k (fell.going.fine k);
              bottom = subst (λ (xs : Lying). IsBottom own xs base)
                  (sym ((laws.actions.counted (a ∷ (own ++ below)) (frame fell.hold fell.names ∷ fs) sizes under n).1 a
                  (own ++ below) refl fell.going.state)) fell.going.bottom;
              state = subst (λ (gs : List Frame). IsIn types owner (own ++ below)
                  (frame (λ k. freed a.token (fell.hold k)) fell.names ∷ gs) sizes under (closed_to (length a.base) n))
                  (frames_stay permits ways (is_active (own ++ below)) a.token fs
                  (all_more permits ways (is_active below) (is_active (own ++ below)) (more_active own below) fs
                  waiting)
                  off) (laws.actions.ended (a ∷ (own ++ below)) (frame fell.hold fell.names ∷ fs) sizes under n a
                  (own ++ below) refl fell.going.state);
            }));
      }))
    where
      fine_on : (k : ℕ) → (fell.hold k ≡ empty) ⊎ IsFine types loose permits key k (fell.names k)
          → (freed a.token (fell.hold k) ≡ empty) ⊎ IsFine types loose permits key k (fell.names k)
      fine_on k (inl none) = inl (ap (freed a.token) none)
      fine_on k (inr fine) = inr fine

  -- ---- a whole borrow statement

  pub borrow_in_safe : (m : BorrowMode) (o : Option Variable) (number : ℕ) (own : List Act) (A : Standing → Type 0)
      (S : Names → Type 0) (h : Standing) (names : Names) (under : Made) (w : World) (ticks : ℕ)
      (block : Action Flow)
      → AreReady h (λ k. where_of k o (borrowed_by m)) → S names → number + 1 ≤ size
      → ((a : Act) → is_active (own ++ below) a.token ≡ false → (of : Meaning)
      × Borrows types owner see known names a.token (is_active (own ++ below)) m o of
      × IsFine types loose permits key number of
      × ((n : World) (left : ℕ) → ((k : ℕ) → freed a.token (h k) ≡ h k)
      → Gos (a ∷ own) (number + 1) (put number forest.ready (lending m a.token o h)) (put number of names) under n
      → GoodHeld types owner permits (key ∷ ways) (Ending (a ∷ own) number number names
      (λ f. A (λ k. freed a.token (f k)))
      (λ ns. ns ≡ names) under)
      (block n left)))
      → Gos own number h names under w
      → GoodHeld types owner permits (key ∷ ways) (Ending own number number names A S under)
      (statement.lending (binds_borrow number m o) block w ticks)
  borrow_in_safe m None number own A S h names under w ticks block met says room fits going =
      let begun = laws.actions.begun (own ++ below) (frame h names ∷ fs) sizes under w going.state in
      let a : Act = record { token = begun.0; base = lying_in w } in
      absurd (fits a begun.1).1
  borrow_in_safe m (Some x) number own A S h names under w ticks block met says room fits going =
      let begun = laws.actions.begun (own ++ below) (frame h names ∷ fs) sizes under w going.state in
      let a : Act = record { token = begun.0; base = lying_in w } in
      let fit = fits a begun.1 in
      let q = Ending own number number names A S under in
      let is = readable m x h met in
      let counted = (laws.actions.counted (own ++ below) (frame h names ∷ fs) sizes under w).0 in
      let started : Gos (a ∷ own) number h names under w = record {
        waits = λ k. waits_more (is_active (own ++ below)) (is_active (a ∷ (own ++ below)))
            (active_more a (own ++ below)) (h k) (going.waits k);
        clear = going.clear;
        fine = going.fine;
        bottom = going.bottom;
        state = begun.2;
      } in
      good_lending owner _ q (binds_borrow number m (Some x)) block w ticks
      (good_then owner _
      (λ (u : Unit {0}) n. Gos (a ∷ own) (number + 1) (put number forest.ready (lending m a.token (Some x) h))
      (put number fit.0 names) under n) q (tick (binds_borrow number m (Some x)) w ticks)
      (λ u. block >>= and_then (tick (does (closed_to (length w.borrows)) >> pure falls)))
      (ticks_on types owner permits ways laws key loose result below base fs sizes size running waiting
      (λ (u : Unit {0}) n. Gos (a ∷ own) (number + 1) (put number forest.ready (lending m a.token (Some x) h))
      (put number fit.0 names) under n) (binds_borrow number m (Some x)) (a ∷ own) number h names under w ticks started
      (λ left.
      good_then owner _
      (λ (v : Value) n. IsIn types owner (a ∷ (own ++ below)) (frame (lending m a.token (Some x) h) names ∷ fs) sizes
      ((v, fit.0) ∷ under) n)
      (λ (u : Unit {0}) n. Gos (a ∷ own) (number + 1) (put number forest.ready (lending m a.token (Some x) h))
      (put number fit.0 names) under n) (lends m x.number w left) (holds number)
      (good_uncut owner (IsCutSo types owner permits (key ∷ ways))
      (λ (v : Value) n. IsIn types owner (a ∷ (own ++ below)) (frame (lending m a.token (Some x) h) names ∷ fs) sizes
      ((v, fit.0) ∷ under) n) (lends m x.number w left)
      (lent_good m x a (own ++ below) fit.0 h names under w left is met fit.1 begun.2))
      (λ v n more state.
      held_on types owner permits ways laws key loose result below base fs sizes size running see known invoke
      calls_safe
      waiting (a ∷ own) number fit.0 (lending m a.token (Some x) h) names under v n room fit.2
      (lent_on a (fit.0) v n is begun.1 going.bottom started.waits state))))
      (λ u n left on.
      ends_then types owner permits ways laws key loose result below base fs sizes size running (a ∷ own) own number
      number
      number number names names (λ f. A (λ k. freed a.token (f k))) A (λ ns. ns ≡ names) S under block
      (tick (does (closed_to (length w.borrows)) >> pure falls)) n left
      (fit.3 n left (λ k. fresh (is_active (own ++ below)) a.token (h k) (going.waits k) begun.1) on)
      (λ p more fell.
      closed_on a own number names names A S S under (length w.borrows) p more counted begun.1 says fell)))
    where
      lent_on : (a : Act) (of : Meaning) (v : Value) (n : World) → IsReadable (h x.number)
          → is_active (own ++ below) a.token ≡ false → IsBottom own a.base base
          → ((k : ℕ) → Waits (is_active (a ∷ (own ++ below))) (h k))
          → IsIn types owner (a ∷ (own ++ below)) (frame (lending m a.token (Some x) h) names ∷ fs) sizes
          ((v, of) ∷ under) n
          → Gos (a ∷ own) number (lending m a.token (Some x) h) names ((v, of) ∷ under) n
      lent_on a of v n is off bottom waits state = record {
        waits = λ k. put_each_way (Waits (is_active (a ∷ (own ++ below)))) x.number k (lent_for m a.token (h x.number))
            h (λ same. waits_lent m (is_active (a ∷ (own ++ below))) a.token (h x.number) (own_active a (own ++ below))
            (waits x.number)) (λ other. waits k);
        clear = λ k from. put_each_way (λ (g : Hold). g ≡ empty) x.number k (lent_for m a.token (h x.number)) h
            (λ same. absurd (full (h x.number) is (subst (λ (j : ℕ). h j ≡ empty) (sym same) (going.clear k from))))
            (λ other. going.clear k from);
        fine = λ k. fine_on k (going.fine k);
        bottom = bottom;
        state = state;
      }
        where
          fine_on : (k : ℕ) → (h k ≡ empty) ⊎ IsFine types loose permits key k (names k)
              → (put x.number (lent_for m a.token (h x.number)) h k ≡ empty)
              ⊎ IsFine types loose permits key k (names k)
          fine_on k (inl none) =
              inl (put_each_way (λ (g : Hold). g ≡ empty) x.number k (lent_for m a.token (h x.number)) h
              (λ same. absurd (full (h x.number) is (subst (λ (j : ℕ). h j ≡ empty) (sym same) none))) (λ other. none))
          fine_on k (inr fine) = inr fine
