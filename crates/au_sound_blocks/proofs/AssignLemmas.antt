-- Statements that take values apart, and that assign.
use Rattle.std.proofs.Common.{◌≡◌, inl, inr, ℕ, ◌+◌, ◌≤◌, ◌==◌, Bool, true, false, List, ◌∷◌}
use Rattle.std.proofs.Common.{◌++◌, length, Option, Some, None, sym, ap, subst, ◌∙◌}
use Rattle.std.proofs.lemmas.Bool.{eq-eqb}
use Rattle.au_type_texts.specs.Types.{ClosedType}
use Rattle.au_types.specs.declared.types.Region.{Region}
use Rattle.au_types.specs.Types.{Meaning, writes}
use Rattle.au_ahead.specs.Ready.{Ready}
use Rattle.au_ahead.proofs.ReadyLemmas as ready
use Rattle.au_lives.specs.Mentions.{Counts, one_look, one_write_borrow, plus, unmentioned}
use Rattle.au_syntax.specs.Expressions.{Expression}
use Rattle.au_syntax.specs.Plain.{Bytes}
use Rattle.au_syntax.specs.Types.{Bound}
use Rattle.au_memory.specs.Forests as forest
use Rattle.au_memory.specs.Forests.{Made}
use Rattle.au_memory.specs.Loans.{Types}
use Rattle.au_lending.specs.Laws.{IsReadable}
use Rattle.au_lending.specs.Records.{onto, types_made}
use Rattle.au_sound_expressions.specs.Orders.{Act, Lying, is_active}
use Rattle.au_sound_expressions.specs.Frames.{Frame}
use Rattle.au_meaning.specs.Acts.{apart, puts, refers, sets}
use Rattle.au_meaning.specs.Expressions.{note_of, whole}
use Rattle.au_meaning.specs.Names.{Scope, Variable, path_numbers}
use Rattle.au_meaning.specs.Statements.{Flow, assigns, assigns_behind, binds_fields, falls, fields_noted}
use Rattle.au_meaning.specs.Statements.{takes_apart}
use Rattle.au_meaning.specs.Ticks.{Action, follows, needing, pure, tick, where_true, ◌>>=◌, ◌>>◌}
use Rattle.au_meaning.specs.Views.{Field, View}
use Rattle.au_meaning.specs.Worlds.{Value, World}
use Rattle.au_sound_expressions.specs.Good.{Good, IsIn, IsRunning, lying_in}
use Rattle.au_sound_expressions.specs.Making.{values_of}
use Rattle.au_sound_expressions.proofs.GoodLemmas.{good_needing, good_then, good_uncut}
use Rattle.au_sound_expressions.specs.Blocks.{AreBound, IsRecordOf, IsWholeOf, Names, with_types}
use Rattle.au_sound_expressions.specs.Expressions.{IsNamed, IsOf, LooksInto, Reaches}
use Rattle.au_sound_expressions.specs.Known.{Callables, InScope, with_token}
use Rattle.au_sound_expressions.specs.Lives.{AreReady, Standing, Steps, after_whole, put_each, stand}
use Rattle.au_sound_expressions.specs.Uses.{uses, where_of}
use Rattle.au_sound_expressions.specs.Safe.{AllWait, CallsSafe, frame}
use Rattle.au_sound_expressions.proofs.HoldLemmas.{is_readable, is_ready, plus_nothing, where_own}
use Rattle.au_sound_expressions.proofs.LeafLemmas.{good_where}
use Rattle.au_sound_blocks.specs.Steps.{StepsAreSafe}
use Rattle.au_sound_blocks.proofs.FormLemmas.{binds_good, good_apart, some_same}
use Rattle.au_sound_blocks.proofs.FrameLemmas.{types_before}
use Rattle.au_sound_blocks.proofs.LeaveLemmas.{follows_apart, good_puts, good_sets}
use Rattle.au_sound_blocks.proofs.StateLemmas.{Ends, Goes, Valued, falls_on, goes_with, ticks_on, value_safe}
use Rattle.au_sound_blocks.proofs.StateLemmas.{values_safe}
use Rattle.au_sound_expressions.specs.Held.{GoodHeld, IsCutSo, Permits}

-- the one that is met is good for its own count
pub met_one : (x : Variable) (one : Counts) (h : Standing) → AreReady h (λ k. where_of k (Some x) one)
    → Ready (stand (h x.number)) (plus one unmentioned)
met_one x one h met =
    subst (λ c. Ready (stand (h x.number)) c) (where_own x one ∙ sym (plus_nothing one)) (met x.number)

module _ (types : Types) (owner : ClosedType → Option (List ℕ)) {V W : Type 0} (permits : Permits V W)
    (ways : List V) (laws : StepsAreSafe types owner) (key : V) (loose : ℕ → Bool)
    (result : Meaning) (below : List Act) (base : Lying) (fs : List Frame) (sizes : List ℕ) (size : ℕ)
    (running : IsRunning sizes fs size) {I T C K : Type 0} (see : View I T C) (known : Callables I K)
    (invoke : I → List Value → Action Value) (calls_safe : CallsSafe types owner permits (key ∷ ways) known invoke)
    (waiting : AllWait permits ways (is_active below) fs) where
  abbrev Gos : List Act → ℕ → Standing → Names → Made → World → Type 0
  Gos own number h names under w = Goes types owner permits ways laws key loose result below base fs sizes size
      running own
      number h names under w

  abbrev Ending : List Act → (kept next : ℕ) → Names → (Standing → Type 0) → (Names → Type 0) → Made → Flow → World
      → Type 0
  Ending own kept next before A R under flow w =
      Ends types owner permits ways laws key loose result below base fs sizes size running own kept next before A R
      under
      flow w

  -- an action on a value of an expression, after which the frame goes on
  pub after_value : (number next : ℕ) (scope : Scope) (e : Expression Bytes T C) (t : Meaning) (own : List Act)
      (A : Standing → Type 0) (R : Names → Type 0) (h : Standing) (names : Names) (under : Made) (w : World) (ticks : ℕ)
      (go : Value → Action Flow)
      → IsWholeOf types owner see known result loose permits key (is_active (own ++ below)) names scope e t
      → AreReady h (λ k. uses see k scope e) → Gos own number h names under w
      → ((v : Value) (n : World) (left : ℕ) → Gos own number (after_whole see loose scope e h) names ((v, t) ∷ under) n
      → GoodHeld types owner permits (key ∷ ways) (Ending own number next names A R under) (go v n left))
      → GoodHeld types owner permits (key ∷ ways) (Ending own number next names A R under)
      ((whole see invoke scope e >>= (λ v. tick (go v))) w ticks)
  after_value number next scope e t own A R h names under w ticks go fits met going goes =
      let q = Ending own number next names A R under in
      good_then owner _ (λ (v : Value) n. Gos own number (after_whole see loose scope e h) names ((v, t) ∷ under) n) q
      (whole see invoke scope e w ticks) (λ v. tick (go v))
      (value_safe types owner permits ways laws key loose result below base fs sizes size running see known invoke
      calls_safe
      waiting t scope e own number h names under w ticks fits met going)
      (λ v n left on.
      ticks_on types owner permits ways laws key loose result below base fs sizes size running waiting q (go v) own
      number
      (after_whole see loose scope e h) names ((v, t) ∷ under) n left on (λ more. goes v n more on))

  -- ---- a record is taken apart

  pub destructure_safe : (number : ℕ) (scope : Scope) (e : Expression Bytes T C) (binds : List (Bound Bytes))
      (own : List Act) (A : Standing → Type 0) (R : Names → Type 0) (h : Standing) (names : Names) (under : Made)
      (w : World) (ticks : ℕ) (fields : List Field) (kinds : List Meaning)
      → ((z : ℕ) → is_active (own ++ below) z ≡ false → (of : Meaning)
      × IsOf types owner see known names z (with_token z (is_active (own ++ below))) scope e of
      × IsRecordOf types owner see known result loose permits key kinds of)
      → fields_noted see (note_of e) ≡ Some fields
      → (bound : AreBound types owner see known result loose permits key number fields kinds binds)
      → R (with_types number bound.bound names)
      → Steps see loose scope e h (λ g. A (put_each number (length binds) forest.ready g))
      → number + length binds ≤ size → Gos own number h names under w
      → GoodHeld types owner permits (key ∷ ways) (Ending own number (number + length binds) names A R under)
      ((whole see invoke scope e >>= (λ v. tick (takes_apart see number binds (note_of e) v))) w ticks)
  destructure_safe number scope e binds own A R h names under w ticks fields kinds fits noted bound says steps room
      going =
      good_then owner _
      (Valued types owner permits ways laws key loose result below base fs sizes size running own number
      (IsRecordOf types owner see known result loose permits key kinds) (after_whole see loose scope e h) names under)
      (Ending own number (number + length binds) names A R under) (whole see invoke scope e w ticks)
      (λ v. tick (takes_apart see number binds (note_of e) v))
      (values_safe types owner permits ways laws key loose result below base fs sizes size running see known invoke
      calls_safe waiting (IsRecordOf types owner see known result loose permits key kinds) scope e own number h names
      under w ticks (λ z off. let fit = fits z off in (fit.0, fit.2, fit.1)) steps.0 going)
      (λ v n left valued.
      ticks_on types owner permits ways laws key loose result below base fs sizes size running waiting
      (Ending own number (number + length binds) names A R under) (takes_apart see number binds (note_of e) v) own
      number (after_whole see loose scope e h) names ((v, valued.of) ∷ under) n left valued.going
      (λ more. opened v valued.of valued.is n more valued.going))
    where
      g : Standing
      g = after_whole see loose scope e h

      q : Flow → World → Type 0
      q = Ending own number (number + length binds) names A R under

      mid : Meaning → ℕ × List Value → World → Type 0
      mid of p n =
          (parts : Made) × (p.1 ≡ values_of parts) × (types.fields of p.0 ≡ Some (types_made parts))
          × IsIn types owner (own ++ below) (frame (after_whole see loose scope e h) names ∷ fs) sizes
          (onto parts under) n

      filled : (of : Meaning) → IsRecordOf types owner see known result loose permits key kinds of
          → (p : ℕ × List Value) (m : World)
          (more : ℕ) (parts : Made) → p.1 ≡ values_of parts → types.fields of p.0 ≡ Some (types_made parts)
          → Gos own number (after_whole see loose scope e h) names (onto parts under) m
          → GoodHeld types owner permits (key ∷ ways) (Ending own number (number + length binds) names A R under)
          ((where_true (p.0 == 0) (binds_fields number binds (fields_noted see (note_of e)) p.1) >> pure falls) m more)
      filled of its p m more parts are typed on =
          let zero_is : p.0 ≡ 0 = its.1 p.0 (types_made parts) typed in
          let kinds_are : types_made parts ≡ kinds =
          some_same (types_made parts) kinds
          (sym typed ∙ (ap (λ (n : ℕ). types.fields of n) zero_is ∙ its.0)) in
          let r = λ (u : Unit {0}) (n : World). Gos own (number + length binds)
          (put_each number (length binds) forest.ready (after_whole see loose scope e h))
          (with_types number bound.bound names) under n in
          let bind = binds_good types owner permits ways laws key loose result below base fs sizes size running see
          known
          invoke calls_safe waiting own number binds fields kinds bound (after_whole see loose scope e h) names parts
          under m more kinds_are room on in
          good_then owner _
          (λ (u : Unit {0}) n. Gos own (number + length binds)
          (put_each number (length binds) forest.ready (after_whole see loose scope e h))
          (with_types number bound.bound names) under n)
          (Ending own number (number + length binds) names A R under)
          (where_true (p.0 == 0) (binds_fields number binds (fields_noted see (note_of e)) p.1) m more)
          (λ u. pure falls) (good_where owner _
          (λ (u : Unit {0}) n. Gos own (number + length binds)
          (put_each number (length binds) forest.ready (after_whole see loose scope e h))
          (with_types number bound.bound names) under n) (p.0 == 0)
          (binds_fields number binds (fields_noted see (note_of e)) p.1) m more (eq-eqb p.0 0 zero_is)
          (subst (λ (vs : List Value). GoodHeld types owner permits (key ∷ ways)
          (λ (u : Unit {0}) n. Gos own (number + length binds)
          (put_each number (length binds) forest.ready (after_whole see loose scope e h))
          (with_types number bound.bound names) under n)
          (binds_fields number binds (fields_noted see (note_of e)) vs m more)) (sym are)
          (subst (λ (f : Option (List Field)). GoodHeld types owner permits (key ∷ ways)
          (λ (u : Unit {0}) n. Gos own (number + length binds)
          (put_each number (length binds) forest.ready (after_whole see loose scope e h))
          (with_types number bound.bound names) under n) (binds_fields number binds f (values_of parts) m more))
          (sym noted) bind)))
          (λ u n last on2. record {
            hold = put_each number (length binds) forest.ready (after_whole see loose scope e h);
            names = with_types number bound.bound names;
            ahead = steps.1;
            runs = says;
            same = λ k less. types_before number bound.bound names k less;
            going = on2;
          })

      opened : (v : Value) (of : Meaning) → IsRecordOf types owner see known result loose permits key kinds of
          → (n : World) (left : ℕ)
          → Gos own number (after_whole see loose scope e h) names ((v, of) ∷ under) n
          → GoodHeld types owner permits (key ∷ ways) (Ending own number (number + length binds) names A R under)
          (takes_apart see number binds (note_of e) v n left)
      opened v of its n left on =
          good_then owner _ (λ (p : ℕ × List Value) m. mid of p m × (lying_in m ≡ lying_in n))
          (Ending own number (number + length binds) names A R under) (apart v n left)
          (λ p. where_true (p.0 == 0) (binds_fields number binds (fields_noted see (note_of e)) p.1) >> pure falls)
          (good_apart owner _ (mid of) v n left
          (good_uncut owner (IsCutSo types owner permits (key ∷ ways)) (mid of) (apart v n left)
          (laws.apart (own ++ below) (frame (after_whole see loose scope e h) names ∷ fs) sizes under n left
          laws.actions.typed v of 0 kinds its.0 on.state)))
          (λ p m more both.
          filled of its p m more both.0.0 both.0.1 both.0.2
          (goes_with types owner permits ways laws key loose result below base fs sizes size running own number
          (after_whole see loose scope e h) names ((v, of) ∷ under) (onto both.0.0 under) n m both.1 both.0.3 on))

  -- ---- a part of a variable is set

  pub assign_safe : (number : ℕ) (scope : Scope) (e : Expression Bytes T C) (o : Option Variable) (fields : List Bytes)
      (own : List Act) (A : Standing → Type 0) (R : Names → Type 0) (h : Standing) (names : Names) (under : Made)
      (w : World) (ticks : ℕ) (of : Meaning)
      → IsWholeOf types owner see known result loose permits key (is_active (own ++ below)) names scope e of
      → LooksInto types owner see known names 0 (is_active (own ++ below)) o fields of → R names
      → Steps see loose scope e h (λ g. AreReady g (λ k. where_of k o one_write_borrow) × A g)
      → Gos own number h names under w
      → GoodHeld types owner permits (key ∷ ways) (Ending own number number names A R under)
      ((whole see invoke scope e >>= (λ v. tick (assigns see o fields v))) w ticks)
  assign_safe number scope e None fields own A R h names under w ticks of fits into says steps going = absurd into
  assign_safe number scope e (Some x) fields own A R h names under w ticks of fits into says steps going =
      after_value number number scope e of own A R h names under w ticks (λ v. assigns see (Some x) fields v) fits
      steps.0 going (λ v n left on.
      let is = is_ready (after_whole see loose scope e h x.number)
      (ready.lends (stand (after_whole see loose scope e h x.number)) unmentioned
      (met_one x one_write_borrow (after_whole see loose scope e h) steps.1.0)).0 in
      let typed = laws.actions.typed in
      good_needing owner _ (Ending own number number names A R under) (path_numbers (λ u. see.fields u 0) x.of fields)
      into.0 (λ path. sets x.number path v >> pure falls) n left into.1
      (good_then owner _
      (λ (old : Value) m. IsIn types owner (own ++ below) (frame (after_whole see loose scope e h) names ∷ fs) sizes
      under m × (lying_in m ≡ lying_in n)) (Ending own number number names A R under) (sets x.number into.0 v n left)
      (λ old. pure falls)
      (good_sets owner _
      (λ (old : Value) m. IsIn types owner (own ++ below) (frame (after_whole see loose scope e h) names ∷ fs) sizes
      under m) x.number into.0 v n left
      (good_uncut owner (IsCutSo types owner permits (key ∷ ways))
      (λ (old : Value) m. IsIn types owner (own ++ below) (frame (after_whole see loose scope e h) names ∷ fs) sizes
      under m) (sets x.number into.0 v n left)
      (laws.set (own ++ below) (frame (after_whole see loose scope e h) names) fs sizes size under n left typed.forms
      typed.cases typed.lawful running x.number into.0 v of is into.2 into.3 on.state)))
      (λ old m more both.
      falls_on types owner permits ways laws key loose result below base fs sizes size running own number number
      (after_whole see loose scope e h) names A R under m steps.1.1 says
      (goes_with types owner permits ways laws key loose result below base fs sizes size running own number
      (after_whole see loose scope e h) names ((v, of) ∷ under) under n m both.1 both.0 on))))

  -- ---- a part of what the reference in a variable leads to is set

  pub through_safe : (number : ℕ) (scope : Scope) (e : Expression Bytes T C) (o : Option Variable) (fields : List Bytes)
      (own : List Act) (A : Standing → Type 0) (R : Names → Type 0) (h : Standing) (names : Names) (under : Made)
      (w : World) (ticks : ℕ) (of : Meaning) (region : Region)
      → IsWholeOf types owner see known result loose permits key (is_active (own ++ below)) names scope e of
      → types.is_free of ≡ true
      → Reaches types owner see known names 0 (is_active (own ++ below)) o fields region of
      (λ u. IsNamed types owner see known names 0 (is_active (own ++ below)) o (writes u region))
      → R names → Steps see loose scope e h (λ g. AreReady g (λ k. where_of k o one_look) × A g)
      → Gos own number h names under w
      → GoodHeld types owner permits (key ∷ ways) (Ending own number number names A R under)
      ((whole see invoke scope e >>= (λ v. tick (assigns_behind see o fields v))) w ticks)
  through_safe number scope e None fields own A R h names under w ticks of region fits free to says steps going =
      absurd to
  through_safe number scope e (Some x) fields own A R h names under w ticks of region fits free to says steps going =
      after_value number number scope e of own A R h names under w ticks (λ v. assigns_behind see (Some x) fields v)
      fits steps.0 going (λ v n left on.
      let is = is_readable (after_whole see loose scope e h x.number)
      (ready.looks (stand (after_whole see loose scope e h x.number)) unmentioned
      (met_one x one_look (after_whole see loose scope e h) steps.1.0)).0 in
      let q = Ending own number number names A R under in
      subst (λ (p : Option (List ℕ)). GoodHeld types owner permits (key ∷ ways)
      (Ending own number number names A R under)
      (follows (needing p (refers x.number) n left) (λ one. puts one v >> pure falls))) (sym to.2)
      (subst (λ out. GoodHeld types owner permits (key ∷ ways) (Ending own number number names A R under) out)
      (follows_apart (refers x.number to.0 n left) (λ one. puts one v) (λ old. pure falls))
      (good_then owner _
      (λ (old : Value) m. IsIn types owner (own ++ below) (frame (after_whole see loose scope e h) names ∷ fs) sizes
      under m × (lying_in m ≡ lying_in n)) (Ending own number number names A R under)
      (follows (refers x.number to.0 n left) (λ one. puts one v)) (λ old. pure falls)
      (good_puts owner (IsCutSo types owner permits (key ∷ ways))
      (λ (old : Value) m. IsIn types owner (own ++ below) (frame (after_whole see loose scope e h) names ∷ fs) sizes
      under m) x.number to.0 v n left
      (good_uncut owner (IsCutSo types owner permits (key ∷ ways))
      (λ (old : Value) m. IsIn types owner (own ++ below) (frame (after_whole see loose scope e h) names ∷ fs) sizes
      under m) (follows (refers x.number to.0 n left) (λ one. puts one v)) (put v n left on is to.4)))
      (λ old m more both.
      falls_on types owner permits ways laws key loose result below base fs sizes size running own number number
      (after_whole see loose scope e h) names A R under m steps.1.1 says
      (goes_with types owner permits ways laws key loose result below base fs sizes size running own number
      (after_whole see loose scope e h) names ((v, of) ∷ under) under n m both.1 both.0 on)))))
    where
      put : (v : Value) (n : World) (left : ℕ)
          → Gos own number (after_whole see loose scope e h) names ((v, of) ∷ under) n
          → IsReadable (after_whole see loose scope e h x.number) → InScope (is_active (own ++ below)) region
          → Good owner (λ (old : Value) m. IsIn types owner (own ++ below)
          (frame (after_whole see loose scope e h) names ∷ fs) sizes under m)
          (follows (refers x.number to.0 n left) (λ one. puts one v))
      put v n left on is (inl static) =
          absurd (laws.actions.named_statics (own ++ below) (frame (after_whole see loose scope e h) names) fs sizes
          size ((v, of) ∷ under) n x.number to.1 is (inl (to.3 ∙ ap (writes to.1) static)) on.state)
      put v n left on is (inr scoped) =
          laws.put (own ++ below) (frame (after_whole see loose scope e h) names) fs sizes size under n left
          laws.actions.typed running x.number to.0 v to.1 of scoped.0 is (to.3 ∙ ap (writes to.1) scoped.1) scoped.2
          to.5 free on.state
