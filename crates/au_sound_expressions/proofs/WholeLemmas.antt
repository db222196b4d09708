-- A whole expression is safe, with its token.
use Rattle.std.proofs.Common.{◌≡◌, ℕ, false, List, ◌∷◌, length, Option, refl, sym, ap, ap₂, subst}
use Rattle.std.proofs.Common.{◌∙◌}
use Rattle.au_type_texts.specs.Types.{ClosedType}
use Rattle.au_types.specs.Types.{Meaning}
use Rattle.au_ahead.specs.Ready.{Ready}
use Rattle.au_lives.specs.Mentions.{unmentioned}
use Rattle.au_syntax.specs.Expressions.{Expression}
use Rattle.au_syntax.specs.Plain.{Bytes}
use Rattle.au_memory.specs.Forests.{Made}
use Rattle.au_memory.specs.Loans.{Types}
use Rattle.au_lending.specs.Ending.{freed}
use Rattle.au_borrows.specs.Orders.{Act, Lying, is_active}
use Rattle.au_running_judgements.specs.Frames.{Frame}
use Rattle.au_meaning.specs.Acts.{closed_to, closing}
use Rattle.au_meaning.specs.Expressions.{eval, whole}
use Rattle.au_meaning.specs.Names.{Scope}
use Rattle.au_meaning.specs.Ticks.{Action, Out, aborts, cut, does, follows, gives, no_rule, pure, ◌>>◌}
use Rattle.au_meaning.specs.Views.{View}
use Rattle.au_meaning.specs.Worlds.{Value, World}
use Rattle.au_running_judgements.specs.Closing.{freed_frames}
use Rattle.au_running_judgements.specs.Good.{GoodBy, IsIn, IsRunning, lying_in}
use Rattle.au_running_judgements.proofs.GoodLemmas.{good_so}
use Rattle.au_running_judgements.specs.Expressions.{IsOf}
use Rattle.au_running_judgements.specs.Known.{Callables, with_token}
use Rattle.au_running_judgements.specs.Lives.{AreReady, Standing, spent, stand}
use Rattle.au_running_judgements.specs.Uses.{uses}
use Rattle.au_sound_expressions.specs.Actions.{ActionsAreSafe}
use Rattle.au_sound_expressions.specs.Safe.{After, AllWait, CallsSafe, Stands, frame}
use Rattle.au_sound_expressions.proofs.EvalLemmas.{eval_safe}
use Rattle.au_sound_expressions.proofs.HoldLemmas.{plus_nothing}
use Rattle.au_sound_expressions.proofs.WaitLemmas.{active_more, all_held, all_more, frames_stay, fresh, waits_more}
use Rattle.au_running_judgements.specs.Held.{GoodHeld, Permits}

-- What an action opens is closed behind it.
closes_out : {A : Type 0} (owner : ClosedType → Option (List ℕ)) (cuts : World → Type 0) (q : A → World → Type 0)
    (count : ℕ) (out : Out A)
    → GoodBy owner cuts (λ (v : A) n. q v (closed_to count n)) out
    → GoodBy owner cuts q (follows out (λ v. does (closed_to count) >> pure v))
unfolding follows
closes_out owner cuts q count (gives v n left) good = good
closes_out owner cuts q count (aborts fault n left) good = good
closes_out owner cuts q count (cut n) good = good
closes_out owner cuts q count (no_rule n left) good = absurd good

pub good_closing : {A : Type 0} (owner : ClosedType → Option (List ℕ)) (cuts : World → Type 0)
    (q : A → World → Type 0) (m : Action A) (w : World)
    (ticks : ℕ) → GoodBy owner cuts (λ (v : A) n. q v (closed_to (length w.borrows) n)) (m w ticks)
    → GoodBy owner cuts q (closing m w ticks)
unfolding follows
good_closing owner cuts q m w ticks good = closes_out owner _ q (length w.borrows) (m w ticks) good

module _ (types : Types) (owner : ClosedType → Option (List ℕ)) {V W : Type 0} (permits : Permits V W)
    (way : V) (ways : List V) (laws : ActionsAreSafe types owner)
    (older : List Act) (names : ℕ → Meaning) (fs : List Frame) (sizes : List ℕ) (size : ℕ)
    (running : IsRunning sizes fs size) {I T C K : Type 0} (see : View I T C) (known : Callables I K)
    (invoke : I → List Value → Action Value) (calls_safe : CallsSafe types owner permits (way ∷ ways) known invoke)
    (waiting : AllWait permits ways (is_active older) fs) where
  -- What a whole expression leaves: its value is of a type of which this holds, names are consumed as it says, and as
  -- many borrows lie open as before.
  pub record Gave (A : Meaning → Type 0) (hold : Standing) (under : Made) (lying : Lying) (v : Value) (n : World)
      : Type 0 where
    pub of : Meaning
    pub is : A of
    pub state : IsIn types owner older (frame hold names ∷ fs) sizes ((v, of) ∷ under) n
    pub same : lying_in n ≡ lying

  pub whole_safe : (A : Meaning → Type 0) (scope : Scope) (e : Expression Bytes T C) (h : Standing) (under : Made)
      (w : World) (ticks : ℕ)
      → ((z : ℕ) → is_active older z ≡ false
      → (t : Meaning) × A t × IsOf types owner see known names z (with_token z (is_active older)) scope e t)
      → AreReady h (λ k. uses see k scope e) → Stands permits way (is_active older) h names
      → IsIn types owner older (frame h names ∷ fs) sizes under w
      → GoodHeld types owner permits (way ∷ ways) (Gave A (λ k. spent (uses see k scope e).consumed (h k)) under
      (lying_in w))
      (whole see invoke scope e w ticks)
  whole_safe A scope e h under w ticks fits met waits state =
      let begun = laws.begun older (frame h names ∷ fs) sizes under w state in
      let a : Act = record { token = begun.0; base = lying_in w } in
      let fit = fits begun.0 begun.1 in
      let q = Gave A (λ k. spent (uses see k scope e).consumed (h k)) under (lying_in w) in
      let counts = λ (k : ℕ). (uses see k scope e).consumed in
      let left = λ (v : Value) (n : World).
      After types owner permits way (a ∷ older) names fs sizes a.token h (λ k. (uses see k scope e).consumed)
      (λ k. unmentioned)
      ((v, fit.0) ∷ under) n in
      good_closing owner _ q (eval see invoke scope e) w ticks
      (good_so owner _ left (λ (v : Value) n. q v (closed_to (length w.borrows) n)) (eval see invoke scope e w ticks)
      (λ v n after. ends a begun.1 refl v n fit.0 fit.1 after)
      (eval_safe types owner permits way ways laws a older names fs sizes size running
      (all_held permits ways (is_active older) fs waiting) see known invoke calls_safe
      (all_more permits ways (is_active older) (is_active (a ∷ older)) (active_more a older) fs waiting) scope e
      fit.0 fit.2
      (λ k. unmentioned) h under w ticks
      (λ k. subst (λ n. Ready (stand (h k)) n) (sym (plus_nothing (uses see k scope e))) (met k))
      (λ k. waits_more (is_active older) (is_active (a ∷ older)) (active_more a older) (h k) (waits.0 k), waits.1)
      begun.2))
    where
      ends : (a : Act) → is_active older a.token ≡ false → a.base ≡ lying_in w → (v : Value) (n : World) (t : Meaning)
          → A t
          → After types owner permits way (a ∷ older) names fs sizes a.token h (λ k. (uses see k scope e).consumed)
          (λ k. unmentioned) ((v, t) ∷ under) n
          → Gave A (λ k. spent (uses see k scope e).consumed (h k)) under (lying_in w) v
          (closed_to (length w.borrows) n)
      ends a off based v n t is after =
          let z = a.token in
          let made = (v, t) ∷ under in
          let count : length a.base ≡ length w.borrows =
          ap (λ (xs : Lying). length xs) based
          ∙ sym (laws.counted older (frame h names ∷ fs) sizes under w).0 in
          let ended = laws.ended (a ∷ older) (frame after.hold names ∷ fs) sizes ((v, t) ∷ under) n a older refl
          after.state in
          let lies = (laws.counted (a ∷ older) (frame after.hold names ∷ fs) sizes ((v, t) ∷ under) n).1 a older refl
          after.state in
          let held : (k : ℕ) → freed a.token (after.hold k) ≡ spent (uses see k scope e).consumed (h k) =
          λ k. after.gone k ∙ ap (spent (uses see k scope e).consumed)
          (fresh (is_active older) a.token (h k) (waits.0 k) off)
          in
          let own : frame (λ k. freed a.token (after.hold k)) names
          ≡ frame (λ k. spent (uses see k scope e).consumed (h k)) names =
          λ i. frame (λ k. held k i) names in
          let all : freed_frames a.token (frame after.hold names ∷ fs)
          ≡ frame (λ k. spent (uses see k scope e).consumed (h k)) names ∷ fs =
          ap₂ (λ (g : Frame) (gs : List Frame). g ∷ gs) own
          (frames_stay permits ways (is_active older) a.token fs waiting off) in
          record {
            of = t;
            is = is;
            state = subst (λ (c : ℕ). IsIn types owner older
                (frame (λ k. spent (uses see k scope e).consumed (h k)) names ∷ fs) sizes ((v, t) ∷ under)
                (closed_to c n)) count
                (subst (λ (gs : List Frame). IsIn types owner older gs sizes ((v, t) ∷ under)
                (closed_to (length a.base) n)) all ended);
            same = subst (λ (c : ℕ). lying_in (closed_to c n) ≡ a.base) count lies ∙ based;
          }
