-- Tests, loops and borrow statements, once their blocks are safe.
use Rattle.std.proofs.Common.{◌≡◌, ℕ, zero, suc, ◌<◌, ◌≤◌, Bool, true, false, List, ◌∷◌}
use Rattle.std.proofs.Common.{◌++◌, length, Option, refl, sym, subst, ◌∙◌, arith, if◌then◌else◌}
use Rattle.std.proofs.Common.{ℤ, pos, ◌+ℤ◌, int_lt}
use Rattle.au_base.specs.declared.kinds.IntKind.{IntKind}
use Rattle.au_base.specs.declared.kinds.IntKind.TheVariants as kinds
use Rattle.au_effects.specs.Numbers.{same_kind}
use Rattle.au_effects.specs.Values as values
use Rattle.au_type_texts.specs.Types.{ClosedType}
use Rattle.au_types.specs.Types as type
use Rattle.au_types.specs.Types.{Meaning, integer}
use Rattle.au_syntax.specs.Expressions.{Expression}
use Rattle.au_syntax.specs.Plain.{Bytes}
use Rattle.au_memory.specs.Forests.{Made}
use Rattle.au_memory.specs.Loans.{Types}
use Rattle.au_memory.specs.Shown.{IsPlain}
use Rattle.au_sound_expressions.specs.Orders.{Act, Lying, is_active}
use Rattle.au_sound_expressions.specs.Frames.{Frame}
use Rattle.au_meaning.specs.Acts.{closed_to}
use Rattle.au_meaning.specs.Expressions.{chosen, whole}
use Rattle.au_meaning.specs.Names.{Scope}
use Rattle.au_meaning.specs.Statements as statement
use Rattle.au_meaning.specs.Statements.{Flow, and_then, falls}
use Rattle.au_meaning.specs.Statements.{for_turns}
use Rattle.au_meaning.specs.Statements.{ranges, returns, while_turns}
use Rattle.au_meaning.specs.Ticks.{Action, does, follows, pure, tick, ◌>>=◌, ◌>>◌}
use Rattle.au_meaning.specs.Views.{View}
use Rattle.au_meaning.specs.Worlds.{Value, World}
use Rattle.au_sound_expressions.specs.Good.{GoodBy, IsRunning}
use Rattle.au_sound_expressions.proofs.GoodLemmas.{good_then}
use Rattle.au_sound_expressions.specs.Blocks.{IsWholeOf, Names}
use Rattle.au_sound_expressions.specs.Known.{Callables}
use Rattle.au_sound_expressions.specs.Lives.{AreReady, Standing, after_whole}
use Rattle.au_sound_expressions.specs.Uses.{IsKept, uses}
use Rattle.au_sound_expressions.specs.Safe.{AllWait, CallsSafe, frame}
use Rattle.au_sound_expressions.proofs.HoldLemmas.{spent_none}
use Rattle.au_sound_expressions.proofs.JoinLemmas.{truth_is}
use Rattle.au_sound_expressions.proofs.LeafLemmas.{good_where}
use Rattle.au_sound_blocks.specs.Steps.{StepsAreSafe}
use Rattle.au_sound_blocks.proofs.AssignLemmas.{met_one}
use Rattle.au_sound_blocks.proofs.StateLemmas.{Ends, Goes, cut_on, ends_then, falls_on, goes_as, goes_with}
use Rattle.au_sound_blocks.proofs.StateLemmas.{ticks_on, value_safe}
use Rattle.au_sound_expressions.specs.Held.{GoodHeld, Permits}

-- the world becomes another, and then an action follows
pub good_does : {A : Type 0} (owner : ClosedType → Option (List ℕ)) (cuts : World → Type 0) (q : A → World → Type 0)
    (change : World → World)
    (next : Action A) (w : World) (ticks : ℕ) → GoodBy owner cuts q (next (change w) ticks)
    → GoodBy owner cuts q ((does change >> next) w ticks)
unfolding follows
good_does owner cuts q change next w ticks good = good

-- what a borrow statement does, where so many borrows lie open
pub good_lending : (owner : ClosedType → Option (List ℕ)) (cuts : World → Type 0) (q : Flow → World → Type 0)
    (opening : Action (Unit {0}))
    (block : Action Flow) (w : World) (ticks : ℕ)
    → GoodBy owner cuts q ((tick opening >> (block >>= and_then
    (tick (does (closed_to (length w.borrows)) >> pure falls)))) w ticks)
    → GoodBy owner cuts q (statement.lending opening block w ticks)
unfolding follows
good_lending owner cuts q opening block w ticks good = good

same_kinds : (kind : IntKind) → same_kind kind kind ≡ true
same_kinds kinds.Nat8 = refl
same_kinds kinds.Nat16 = refl
same_kinds kinds.Nat32 = refl
same_kinds kinds.Nat64 = refl
same_kinds kinds.Int8 = refl
same_kinds kinds.Int16 = refl
same_kinds kinds.Int32 = refl
same_kinds kinds.Int64 = refl
same_kinds kinds.Index = refl

module _ (types : Types) (owner : ClosedType → Option (List ℕ)) {V W : Type 0} (permits : Permits V W)
    (ways : List V) (laws : StepsAreSafe types owner) (key : V) (loose : ℕ → Bool)
    (result : Meaning) (below : List Act) (base : Lying) (fs : List Frame) (sizes : List ℕ) (size : ℕ)
    (running : IsRunning sizes fs size) {I T C K : Type 0} (see : View I T C) (known : Callables I K)
    (invoke : I → List Value → Action Value) (calls_safe : CallsSafe types owner permits (key ∷ ways) known invoke)
    (waiting : AllWait permits ways (is_active below) fs) where
  abbrev Gos : List Act → ℕ → Standing → Names → Made → World → Type 0
  Gos own number h names under w = Goes types owner permits ways laws key loose result below base fs sizes size
      running own
      number h names under w

  abbrev Ending : List Act → (kept next : ℕ) → Names → (Standing → Type 0) → (Names → Type 0) → Made → Flow → World
      → Type 0
  Ending own kept next before A R under flow w =
      Ends types owner permits ways laws key loose result below base fs sizes size running own kept next before A R
      under
      flow w

  -- how a statement ends, said over other types of names that are the same where it counts
  pub ends_based : (own : List Act) (kept less next later : ℕ) (before others : Names) (A : Standing → Type 0)
      (R S : Names → Type 0) (under : Made) (flow : Flow) (w : World) → less ≤ kept → next ≤ later
      → ((k : ℕ) → k < less → before k ≡ others k) → ((ns : Names) → R ns → S ns)
      → Ending own kept next before A R under flow w → Ending own less later others A S under flow w
  ends_based own kept less next later before others A R S under falls w fewer more same so fell = record {
    hold = fell.hold;
    names = fell.names;
    ahead = fell.ahead;
    runs = so fell.names fell.runs;
    same = λ k below_it. fell.same k (omega arith) ∙ same k below_it;
    going = record {
      waits = fell.going.waits;
      clear = λ k from. fell.going.clear k (omega arith);
      fine = fell.going.fine;
      bottom = fell.going.bottom;
      state = fell.going.state;
    };
  }
  ends_based own kept less next later before others A R S under (returns v) w fewer more same so gone = gone

  -- ---- tests

  pub test_safe : (number : ℕ) (scope : Scope) (e : Expression Bytes T C) (own : List Act) (q : Flow → World → Type 0)
      (h : Standing) (names : Names) (under : Made) (w : World) (ticks : ℕ) (one two : Action Flow)
      → IsWholeOf types owner see known result loose permits key (is_active (own ++ below)) names scope e type.truth
      → AreReady h (λ k. uses see k scope e) → Gos own number h names under w
      → ((n : World) (left : ℕ) → Gos own number (after_whole see loose scope e h) names under n
      → GoodHeld types owner permits (key ∷ ways) q (one n left))
      → ((n : World) (left : ℕ) → Gos own number (after_whole see loose scope e h) names under n
      → GoodHeld types owner permits (key ∷ ways) q (two n left))
      → GoodHeld types owner permits (key ∷ ways) q ((whole see invoke scope e >>= (λ v. tick (chosen one two v))) w
      ticks)
  test_safe number scope e own q h names under w ticks one two fits met going goes_one goes_two =
      good_then owner _
      (λ (v : Value) n. Gos own number (after_whole see loose scope e h) names ((v, type.truth) ∷ under) n) q
      (whole see invoke scope e w ticks) (λ v. tick (chosen one two v))
      (value_safe types owner permits ways laws key loose result below base fs sizes size running see known invoke
      calls_safe
      waiting type.truth scope e own number h names under w ticks fits met going)
      (λ v n left on.
      let told = laws.actions.truths (own ++ below) (frame (after_whole see loose scope e h) names ∷ fs) sizes under n v
      on.state in
      let is = truth_is v told.0 in
      let free = goes_with types owner permits ways laws key loose result below base fs sizes size running own number
      (after_whole see loose scope e h) names ((v, type.truth) ∷ under) under n n refl told.1 on in
      ticks_on types owner permits ways laws key loose result below base fs sizes size running waiting q
      (chosen one two v)
      own number (after_whole see loose scope e h) names ((v, type.truth) ∷ under) n left on (λ more.
      subst (λ (u : Value). GoodHeld types owner permits (key ∷ ways) q (chosen one two u n more)) (sym is.1)
      (by n more free is.0)))
    where
      by : (n : World) (more : ℕ) → Gos own number (after_whole see loose scope e h) names under n → (b : Bool)
          → GoodHeld types owner permits (key ∷ ways) q (chosen one two (values.truth b) n more)
      by n more on true = goes_one n more on
      by n more on false = goes_two n more on

  -- ---- `while`

  pub while_safe : (turns number : ℕ) (scope : Scope) (e : Expression Bytes T C) (own : List Act)
      (A : Standing → Type 0)
      (R : Names → Type 0) (h : Standing) (names : Names) (under : Made) (w : World) (ticks : ℕ) (body : Action Flow)
      → IsWholeOf types owner see known result loose permits key (is_active (own ++ below)) names scope e type.truth
      → AreReady h (λ k. uses see k scope e) → ((k : ℕ) → IsKept see k scope e) → A h → R names
      → ((n : World) (left : ℕ) → Gos own number h names under n
      → GoodHeld types owner permits (key ∷ ways) (Ending own number number names (λ f. (k : ℕ) → f k ≡ h k)
      (λ ns. ns ≡ names) under) (body n left))
      → Gos own number h names under w
      → GoodHeld types owner permits (key ∷ ways) (Ending own number number names A R under)
      (while_turns turns (whole see invoke scope e) body w ticks)
  unfolding while_turns
  while_safe zero number scope e own A R h names under w ticks body fits met kept ahead says safe going =
      cut_on types owner permits ways laws key loose result below base fs sizes size running waiting own number h
      names under
      w going
  while_safe (suc turns) number scope e own A R h names under w ticks body fits met kept ahead says safe going =
      let q = Ending own number number names A R under in
      let as_before : (k : ℕ) → after_whole see loose scope e h k ≡ h k =
      λ k. sym (spent_none (uses see k scope e).consumed (h k) (kept k)) in
      test_safe number scope e own (Ending own number number names A R under) h names under w ticks
      (body >>= and_then (while_turns turns (whole see invoke scope e) body)) (pure falls) fits met going
      (λ n left on.
      let on_h = goes_as types owner permits ways laws key loose result below base fs sizes size running own number
      (after_whole see loose scope e h) h names under n as_before on in
      ends_then types owner permits ways laws key loose result below base fs sizes size running own own number number
      number
      number names names (λ f. (k : ℕ) → f k ≡ h k) A (λ ns. ns ≡ names) R under body
      (while_turns turns (whole see invoke scope e) body) n left (safe n left on_h)
      (λ m more fell.
      while_safe turns number scope e own A R h names under m more body fits met kept ahead says safe
      (subst (λ (ns : Names). Gos own number h ns under m) fell.runs
      (goes_as types owner permits ways laws key loose result below base fs sizes size running own number fell.hold h
      fell.names under m fell.ahead fell.going))))
      (λ n left on.
      falls_on types owner permits ways laws key loose result below base fs sizes size running own number number h
      names A R
      under n ahead says
      (goes_as types owner permits ways laws key loose result below base fs sizes size running own number
      (after_whole see loose scope e h) h names under n as_before on))

  -- ---- `for`

  turns_safe : (turns number : ℕ) (kind : IntKind) (own : List Act) (A : Standing → Type 0) (R : Names → Type 0)
      (h : Standing) (names : Names) (under : Made) (w : World) (ticks : ℕ) (body : ℤ → Action Flow) (z last : ℤ)
      → A h → R names → IsPlain (values.number kind z) (integer kind)
      → ((y : ℤ) (n : World) (left : ℕ) → IsPlain (values.number kind y) (integer kind) → Gos own number h names under n
      → GoodHeld types owner permits (key ∷ ways) (Ending own number number names (λ f. (k : ℕ) → f k ≡ h k)
      (λ ns. ns ≡ names) under) (body y n left))
      → Gos own number h names under w
      → GoodHeld types owner permits (key ∷ ways) (Ending own number number names A R under)
      (for_turns turns body z last w ticks)
  unfolding for_turns
  turns_safe zero number kind own A R h names under w ticks body z last ahead says plain safe going =
      cut_on types owner permits ways laws key loose result below base fs sizes size running waiting own number h
      names under
      w going
  turns_safe (suc turns) number kind own A R h names under w ticks body z last ahead says plain safe going =
      ends_then types owner permits ways laws key loose result below base fs sizes size running own own number number
      number
      number names names (λ f. (k : ℕ) → f k ≡ h k) A (λ ns. ns ≡ names) R under (body z)
      (tick (if int_lt z last then for_turns turns body (z +ℤ pos 1) last else pure falls)) w ticks
      (safe z w ticks plain going)
      (λ m more fell.
      let on = subst (λ (ns : Names). Gos own number h ns under m) fell.runs
      (goes_as types owner permits ways laws key loose result below base fs sizes size running own number fell.hold h
      fell.names under m fell.ahead fell.going) in
      ticks_on types owner permits ways laws key loose result below base fs sizes size running waiting
      (Ending own number number names A R under) (if int_lt z last then for_turns turns body (z +ℤ pos 1) last else pure
      falls) own number h names under m more on (λ left. by (int_lt z last) m left on
      (turns_safe turns number kind own A R h names under m left body (z +ℤ pos 1) last ahead says
      ((laws.numbers kind z).1 plain) safe on)))
    where
      by : (b : Bool) (m : World) (left : ℕ) → Gos own number h names under m
          → GoodHeld types owner permits (key ∷ ways) (Ending own number number names A R under)
          (for_turns turns body (z +ℤ pos 1) last m left)
          → GoodHeld types owner permits (key ∷ ways) (Ending own number number names A R under)
          ((if b then for_turns turns body (z +ℤ pos 1) last else pure falls) m left)
      by true m left on rest = rest
      by false m left on rest =
          falls_on types owner permits ways laws key loose result below base fs sizes size running own number number
          h names
          A R under m ahead says on

  pub for_safe : (turns number : ℕ) (scope : Scope) (one two : Expression Bytes T C) (kind : IntKind) (own : List Act)
      (A : Standing → Type 0) (R : Names → Type 0) (h : Standing) (names : Names) (under : Made) (w : World) (ticks : ℕ)
      (body : IntKind → ℤ → Action Flow)
      → IsWholeOf types owner see known result loose permits key (is_active (own ++ below)) names scope one
      (integer kind)
      → IsWholeOf types owner see known result loose permits key (is_active (own ++ below)) names scope two
      (integer kind)
      → AreReady h (λ k. uses see k scope one)
      → AreReady (after_whole see loose scope one h) (λ k. uses see k scope two)
      → A (after_whole see loose scope two (after_whole see loose scope one h)) → R names
      → ((y : ℤ) (n : World) (left : ℕ) → IsPlain (values.number kind y) (integer kind)
      → Gos own number (after_whole see loose scope two (after_whole see loose scope one h)) names under n
      → GoodHeld types owner permits (key ∷ ways) (Ending own number number names
      (λ f. (k : ℕ) → f k ≡ after_whole see loose scope two (after_whole see loose scope one h) k) (λ ns. ns ≡ names)
      under) (body kind y n left))
      → Gos own number h names under w
      → GoodHeld types owner permits (key ∷ ways) (Ending own number number names A R under)
      ((whole see invoke scope one >>= (λ a. whole see invoke scope two >>= (λ b. tick (ranges turns body a b)))) w
      ticks)
  for_safe turns number scope one two kind own A R h names under w ticks body fits_one fits_two met_one met_two ahead
      says safe going =
      good_then owner _
      (λ (v : Value) n. Gos own number (after_whole see loose scope one h) names ((v, integer kind) ∷ under) n)
      (Ending own number number names A R under) (whole see invoke scope one w ticks)
      (λ a. whole see invoke scope two >>= (λ b. tick (ranges turns body a b)))
      (value_safe types owner permits ways laws key loose result below base fs sizes size running see known invoke
      calls_safe
      waiting (integer kind) scope one own number h names under w ticks fits_one met_one going)
      (λ a n left first.
      good_then owner _
      (λ (v : Value) m. Gos own number (after_whole see loose scope two (after_whole see loose scope one h)) names
      ((v, integer kind) ∷ (a, integer kind) ∷ under) m)
      (Ending own number number names A R under) (whole see invoke scope two n left) (λ b. tick (ranges turns body a b))
      (value_safe types owner permits ways laws key loose result below base fs sizes size running see known invoke
      calls_safe
      waiting (integer kind) scope two own number (after_whole see loose scope one h) names ((a, integer kind) ∷ under)
      n left fits_two met_two first)
      (λ b m more second. both a b m more second))
    where
      g : Standing
      g = after_whole see loose scope two (after_whole see loose scope one h)

      go : (b : Bool) (first last : ℤ) (m : World) (left : ℕ)
          → GoodHeld types owner permits (key ∷ ways) (Ending own number number names A R under)
          (for_turns turns (body kind) first last m left)
          → Gos own number (after_whole see loose scope two (after_whole see loose scope one h)) names under m
          → GoodHeld types owner permits (key ∷ ways) (Ending own number number names A R under)
          ((if b then pure falls else for_turns turns (body kind) first last) m left)
      go true first last m left rest on =
          falls_on types owner permits ways laws key loose result below base fs sizes size running own number number
          (after_whole see loose scope two (after_whole see loose scope one h)) names A R under m ahead says on
      go false first last m left rest on = rest

      both : (a b : Value) (m : World) (more : ℕ)
          → Gos own number (after_whole see loose scope two (after_whole see loose scope one h)) names
          ((b, integer kind) ∷ (a, integer kind) ∷ under) m
          → GoodHeld types owner permits (key ∷ ways) (Ending own number number names A R under)
          (tick (ranges turns body a b) m more)
      both a b m more on =
          let told = laws.numbered (own ++ below)
          (frame (after_whole see loose scope two (after_whole see loose scope one h)) names ∷ fs) sizes under m
          laws.actions.typed a b kind on.state in
          let free = goes_with types owner permits ways laws key loose result below base fs sizes size running own
          number
          (after_whole see loose scope two (after_whole see loose scope one h)) names
          ((b, integer kind) ∷ (a, integer kind) ∷ under) under m m refl told.5 on in
          ticks_on types owner permits ways laws key loose result below base fs sizes size running waiting
          (Ending own number number names A R under) (ranges turns body a b) own number
          (after_whole see loose scope two (after_whole see loose scope one h)) names
          ((b, integer kind) ∷ (a, integer kind) ∷ under) m more on
          (λ left.
          subst (λ (v : Value). GoodHeld types owner permits (key ∷ ways) (Ending own number number names A R under)
          (ranges turns body v b m left)) (sym told.2)
          (subst (λ (v : Value). GoodHeld types owner permits (key ∷ ways) (Ending own number number names A R under)
          (ranges turns body (values.number kind told.0) v m left)) (sym told.3)
          (good_where owner _ (Ending own number number names A R under) (same_kind kind kind)
          (if int_lt told.1 told.0 then pure falls else for_turns turns (body kind) told.0 told.1) m left
          (same_kinds kind) (go (int_lt told.1 told.0) told.0 told.1 m left
          (turns_safe turns number kind own A R
          (after_whole see loose scope two (after_whole see loose scope one h)) names under m left (body kind) told.0
          told.1 ahead says (refl, told.4) safe free) free))))
