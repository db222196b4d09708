-- A `case`, once the blocks of its arms are safe.
use Rattle.std.proofs.Common.{◌≡◌, inl, inr, ℕ, ◌+◌, ◌<◌, ◌≤◌, Bool, List, ◌∷◌}
use Rattle.std.proofs.Common.{◌++◌, length, map, Option, Some, sym, subst, arith}
use Rattle.au_effects.specs.Cases.{told_apart}
use Rattle.au_type_texts.specs.Types.{ClosedType}
use Rattle.au_types.specs.declared.types.Region.{Region}
use Rattle.au_types.specs.Types.{Meaning, reads, writes}
use Rattle.au_syntax.specs.Expressions.{Expression}
use Rattle.au_syntax.specs.Plain.{Bytes}
use Rattle.au_syntax.specs.Types.{Bound}
use Rattle.au_memory.specs.Forests as forest
use Rattle.au_memory.specs.Forests.{Made, empty}
use Rattle.au_memory.specs.Loans.{Types}
use Rattle.au_lending.specs.Records.{onto, types_made}
use Rattle.au_sound_expressions.specs.Orders.{Act, Lying, is_active}
use Rattle.au_sound_expressions.specs.Frames.{Frame}
use Rattle.au_meaning.specs.Acts.{tells_apart}
use Rattle.au_meaning.specs.Expressions.{whole}
use Rattle.au_meaning.specs.Names.{Scope}
use Rattle.au_meaning.specs.Statements.{Flow, binds_fields}
use Rattle.au_meaning.specs.Statements.{within}
use Rattle.au_meaning.specs.Ticks.{Action, tick, ◌>>=◌, ◌>>◌}
use Rattle.au_meaning.specs.Views.{Field, View}
use Rattle.au_meaning.specs.Worlds.{Value, World}
use Rattle.au_sound_expressions.specs.Good.{Good, IsIn, IsRunning, lying_in}
use Rattle.au_sound_expressions.specs.Making.{values_of}
use Rattle.au_sound_expressions.proofs.GoodLemmas.{good_so, good_then, good_uncut}
use Rattle.au_sound_expressions.specs.Blocks.{AreBound, AreTold, IsWholeOf, Names, Told}
use Rattle.au_sound_expressions.specs.Blocks.{owned, through, to_read, to_write, with_types}
use Rattle.au_sound_expressions.specs.Known.{Callables}
use Rattle.au_sound_expressions.specs.Lives.{AreReady, IsOver, Standing, after_whole, put_each}
use Rattle.au_sound_expressions.specs.Uses.{uses}
use Rattle.au_sound_expressions.specs.Safe.{AllWait, CallsSafe, frame}
use Rattle.au_sound_blocks.specs.Steps.{StepsAreSafe}
use Rattle.au_sound_blocks.proofs.AssignLemmas.{after_value}
use Rattle.au_sound_blocks.proofs.FormLemmas.{binds_good}
use Rattle.au_sound_blocks.proofs.FrameLemmas.{types_before}
use Rattle.au_sound_blocks.proofs.StateLemmas.{Ends, Goes, goes_with, good_stored}
use Rattle.au_sound_blocks.proofs.StateLemmas.{within_safe}
use Rattle.au_sound_expressions.specs.Telling.{HasTold}
use Rattle.au_sound_blocks.proofs.LoopLemmas.{ends_based}
use Rattle.au_sound_expressions.specs.Held.{GoodHeld, IsCutSo, Permits}

module _ (types : Types) (owner : ClosedType → Option (List ℕ)) {V W : Type 0} (permits : Permits V W)
    (ways : List V) (laws : StepsAreSafe types owner) (key : V) (loose : ℕ → Bool)
    (result : Meaning) (below : List Act) (base : Lying) (fs : List Frame) (sizes : List ℕ) (size : ℕ)
    (running : IsRunning sizes fs size) {I T C K : Type 0} (see : View I T C) (known : Callables I K)
    (invoke : I → List Value → Action Value) (calls_safe : CallsSafe types owner permits (key ∷ ways) known invoke)
    (waiting : AllWait permits ways (is_active below) fs) where
  abbrev Gos : List Act → ℕ → Standing → Names → Made → World → Type 0
  Gos own number h names under w = Goes types owner permits ways laws key loose result below base fs sizes size
      running own
      number h names under w

  abbrev Ending : List Act → (kept next : ℕ) → Names → (Standing → Type 0) → (Names → Type 0) → Made → Flow → World
      → Type 0
  Ending own kept next before A R under flow w =
      Ends types owner permits ways laws key loose result below base fs sizes size running own kept next before A R
      under
      flow w

  -- ---- one arm

  pub arm_safe : (own : List Act) (number more : ℕ) (binds : List (Bound Bytes)) (o : Option (List Field))
      (fields : List Field) (ts : List Meaning) (A : Standing → Type 0) (S : Names → Type 0) (h : Standing)
      (names : Names)
      (parts under : Made) (n : World) (left : ℕ) (block : Action Flow) → o ≡ Some fields
      → (bound : AreBound types owner see known result loose permits key number fields ts binds) → types_made parts ≡ ts
      → number + (length binds + more) ≤ size → S names → Gos own number h names (onto parts under) n
      → ((m : World) (last : ℕ)
      → Gos own (number + length binds) (put_each number (length binds) forest.ready h)
      (with_types number bound.bound names) under m
      → GoodHeld types owner permits (key ∷ ways)
      (Ending own (number + length binds) ((number + length binds) + more) (with_types number bound.bound names)
      (λ g. ((k : ℕ) → number ≤ k → k < number + (length binds + more) → IsOver (loose k) (g k))
      × A (put_each number (length binds + more) empty g)) (λ ns. Unit {0}) under) (block m last))
      → GoodHeld types owner permits (key ∷ ways) (Ending own number number names A S under)
      (within number (length binds + more) (binds_fields number binds o (values_of parts) >> block) n left)
  arm_safe own number more binds o fields ts A S h names parts under n left block noted bound same room says going safe
      =
      within_safe types owner permits ways laws key loose result below base fs sizes size running own number
      (length binds + more) names A (λ ns. Unit {0}) S under (binds_fields number binds o (values_of parts) >> block) n
      left room says (good_then owner _
      (λ (u : Unit {0}) m. Gos own (number + length binds) (put_each number (length binds) forest.ready h)
      (with_types number bound.bound names) under m) q
      (binds_fields number binds o (values_of parts) n left) (λ u. block)
      (subst (λ (f : Option (List Field)). GoodHeld types owner permits (key ∷ ways)
      (λ (u : Unit {0}) m. Gos own (number + length binds) (put_each number (length binds) forest.ready h)
      (with_types number bound.bound names) under m) (binds_fields number binds f (values_of parts) n left)) (sym noted)
      (binds_good types owner permits ways laws key loose result below base fs sizes size running see known invoke
      calls_safe
      waiting own number binds fields ts bound h names parts under n left same (omega arith) going))
      (λ u m last on.
      good_so owner _
      (Ending own (number + length binds) ((number + length binds) + more) (with_types number bound.bound names)
      (λ g. ((k : ℕ) → number ≤ k → k < number + (length binds + more) → IsOver (loose k) (g k))
      × A (put_each number (length binds + more) empty g)) (λ ns. Unit {0}) under) q (block m last)
      (λ flow p ended. ends_based types owner permits ways laws key loose result below base fs sizes size running see
      known
      invoke calls_safe waiting own (number + length binds) number ((number + length binds) + more)
      (number + (length binds + more)) (with_types number bound.bound names) names
      (λ g. ((k : ℕ) → number ≤ k → k < number + (length binds + more) → IsOver (loose k) (g k))
      × A (put_each number (length binds + more) empty g)) (λ ns. Unit {0}) (λ ns. Unit {0}) under flow p (omega arith)
      (omega arith) (λ k less. types_before number bound.bound names k less) (λ ns u. tt) ended)
      (safe m last on)))
    where
      q : Flow → World → Type 0
      q = Ending own number (number + (length binds + more)) names
          (λ g. ((k : ℕ) → number ≤ k → k < number + (length binds + more) → IsOver (loose k) (g k))
          × A (put_each number (length binds + more) empty g)) (λ ns. Unit {0}) under

  -- ---- what is told apart

  told_good : (told : Told) (own : List Act) (number : ℕ) (h : Standing) (names : Names) (under : Made) (v : Value)
      (of : Meaning) (tag : ℕ) (ts : List Meaning) (w : World) (ticks : ℕ) → AreTold (is_active (own ++ below)) told
      → types.fields of tag ≡ Some ts
      → IsIn types owner (own ++ below) (frame h names ∷ fs) sizes ((v, through told of) ∷ under) w
      → Good owner (HasTold types owner (own ++ below) (frame h names ∷ fs) sizes under types of (through told))
      (tells_apart v w ticks)
  told_good owned own number h names under v of tag ts w ticks scoped fields state =
      laws.values (own ++ below) (frame h names ∷ fs) sizes under w ticks laws.actions.typed v of tag ts fields state
  told_good (to_write region) own number h names under v of tag ts w ticks (inl static) fields state =
      absurd (laws.actions.statics (own ++ below) (frame h names ∷ fs) sizes under w v of
      (inl (subst (λ (r : Region). IsIn types owner (own ++ below) (frame h names ∷ fs) sizes ((v, writes of r) ∷ under)
      w) static state)))
  told_good (to_write region) own number h names under v of tag ts w ticks (inr scoped) fields state =
      subst (λ (r : Region). Good owner
      (HasTold types owner (own ++ below) (frame h names ∷ fs) sizes under types of (through (to_write r)))
      (tells_apart v w ticks)) (sym scoped.1)
      (laws.writers (own ++ below) (frame h names ∷ fs) sizes under w ticks laws.actions.typed v of scoped.0 tag ts
      fields scoped.2
      (subst (λ (r : Region). IsIn types owner (own ++ below) (frame h names ∷ fs) sizes ((v, writes of r) ∷ under) w)
      scoped.1 state))
  told_good (to_read region) own number h names under v of tag ts w ticks (inl static) fields state =
      absurd (laws.actions.statics (own ++ below) (frame h names ∷ fs) sizes under w v of
      (inr (subst (λ (r : Region). IsIn types owner (own ++ below) (frame h names ∷ fs) sizes ((v, reads of r) ∷ under)
      w) static state)))
  told_good (to_read region) own number h names under v of tag ts w ticks (inr scoped) fields state =
      subst (λ (r : Region). Good owner
      (HasTold types owner (own ++ below) (frame h names ∷ fs) sizes under types of (through (to_read r)))
      (tells_apart v w ticks)) (sym scoped.1)
      (laws.readers (own ++ below) (frame h names ∷ fs) sizes under w ticks laws.actions.typed v of scoped.0 tag ts
      fields scoped.2
      (subst (λ (r : Region). IsIn types owner (own ++ below) (frame h names ∷ fs) sizes ((v, reads of r) ∷ under) w)
      scoped.1 state))

  -- ---- a whole `case`

  pub case_safe : (number next : ℕ) (scope : Scope) (e : Expression Bytes T C) (own : List Act) (A : Standing → Type 0)
      (R : Names → Type 0) (h : Standing) (names : Names) (under : Made) (w : World) (ticks : ℕ) (of : Meaning)
      (told : Told)
      (tag : ℕ) (ts : List Meaning) (go : ℕ × List Value → Action Flow) → AreTold (is_active (own ++ below)) told
      → IsWholeOf types owner see known result loose permits key (is_active (own ++ below)) names scope e
      (through told of)
      → types.fields of tag ≡ Some ts → AreReady h (λ k. uses see k scope e)
      → ((number_of_case : ℕ) (of_parts : List Meaning) (parts : Made) (n : World) (left : ℕ)
      → types.fields of number_of_case ≡ Some of_parts → types_made parts ≡ map (through told) of_parts
      → Gos own number (after_whole see loose scope e h) names (onto parts under) n
      → GoodHeld types owner permits (key ∷ ways) (Ending own number next names A R under)
      (go (number_of_case, values_of parts) n left))
      → Gos own number h names under w
      → GoodHeld types owner permits (key ∷ ways) (Ending own number next names A R under)
      ((whole see invoke scope e >>= (λ v. tick (tells_apart v >>= go))) w ticks)
  case_safe number next scope e own A R h names under w ticks of told tag ts go scoped fits fields met goes going =
      after_value types owner permits ways laws key loose result below base fs sizes size running see known invoke
      calls_safe
      waiting number next scope e (through told of) own A R h names under w ticks (λ v. tells_apart v >>= go) fits met
      going (λ v n left on.
      good_then owner _
      (λ (p : ℕ × List Value) m. HasTold types owner (own ++ below)
      (frame (after_whole see loose scope e h) names ∷ fs) sizes under types of (through told) p m
      × (lying_in m ≡ lying_in n)) (Ending own number next names A R under) (tells_apart v n left) go
      (good_stored owner (IsCutSo types owner permits (key ∷ ways))
      (HasTold types owner (own ++ below) (frame (after_whole see loose scope e h) names ∷ fs) sizes under types of
      (through told)) (told_apart v n.store) n left
      (good_uncut owner (IsCutSo types owner permits (key ∷ ways))
      (HasTold types owner (own ++ below) (frame (after_whole see loose scope e h) names ∷ fs) sizes under types of
      (through told)) (tells_apart v n left)
      (told_good told own number (after_whole see loose scope e h) names under v of tag ts n left scoped fields
      on.state))) (λ p m more both. came p v n m more both.0 both.1 on))
    where
      came : (p : ℕ × List Value) (v : Value) (n m : World) (more : ℕ)
          → HasTold types owner (own ++ below) (frame (after_whole see loose scope e h) names ∷ fs) sizes under types of
          (through told) p m
          → lying_in m ≡ lying_in n
          → Gos own number (after_whole see loose scope e h) names ((v, through told of) ∷ under) n
          → GoodHeld types owner permits (key ∷ ways) (Ending own number next names A R under) (go p m more)
      came p v n m more has lies on =
          subst (λ (vs : List Value). GoodHeld types owner permits (key ∷ ways) (Ending own number next names A R under)
          (go (p.0, vs) m more)) (sym has.3)
          (goes p.0 has.0 has.1 m more has.2 has.4
          (goes_with types owner permits ways laws key loose result below base fs sizes size running own number
          (after_whole see loose scope e h) names ((v, through told of) ∷ under) (onto has.1 under) n m lies has.5 on))
