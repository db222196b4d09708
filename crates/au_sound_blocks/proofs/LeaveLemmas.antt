-- Statements that take apart, assign, discard and return.
use Rattle.std.proofs.Common.{◌≡◌, ◌⊎◌, inl, inr, ℕ, ◌≤◌, Bool, false, List, ◌∷◌}
use Rattle.std.proofs.Common.{◌++◌, Option, Some, None, refl, sym, ap, subst, ◌∙◌, arith}
use Rattle.au_effects.specs.Parts.{along}
use Rattle.au_effects.specs.Places.{exchanged}
use Rattle.au_effects.specs.References.{put_behind, reference_along}
use Rattle.au_effects.specs.Values.{Place}
use Rattle.au_type_texts.specs.Types.{ClosedType}
use Rattle.au_types.specs.Types.{Meaning, writes}
use Rattle.au_ahead.specs.Ready.{Ready}
use Rattle.au_lives.specs.Mentions.{unmentioned}
use Rattle.au_syntax.specs.Expressions.{Expression}
use Rattle.au_syntax.specs.Plain.{Bytes}
use Rattle.au_memory.specs.Forests.{Hold, Made, empty}
use Rattle.au_memory.specs.Loans.{Types}
use Rattle.au_lending.specs.Ending.{freed}
use Rattle.au_sound_expressions.specs.Orders.{Act, Lying, is_active}
use Rattle.au_sound_expressions.specs.Frames.{Frame, IsDroppable}
use Rattle.au_meaning.specs.Acts.{place_of, puts, reference_held, refers, sets}
use Rattle.au_meaning.specs.Expressions.{eval, whole}
use Rattle.au_meaning.specs.Names.{Scope}
use Rattle.au_meaning.specs.Statements.{Flow, falls, returns}
use Rattle.au_meaning.specs.Ticks.{Action, Out, aborts, cut, follows, gives, needing, no_rule, pure, tick}
use Rattle.au_meaning.specs.Ticks.{◌>>=◌}
use Rattle.au_meaning.specs.Views.{View}
use Rattle.au_meaning.specs.Worlds.{Value, World}
use Rattle.au_sound_expressions.specs.Good.{GoodBy, IsIn, IsRunning, lying_in}
use Rattle.au_sound_expressions.proofs.GoodLemmas.{good_then}
use Rattle.au_sound_expressions.specs.Blocks.{IsFine, IsWholeOf, MayDrop, Names}
use Rattle.au_sound_expressions.specs.Expressions.{IsOf}
use Rattle.au_sound_expressions.specs.Known.{Callables, with_token}
use Rattle.au_sound_expressions.specs.Lives.{IsOver, Standing, Steps, after_whole, freed_each, spent}
use Rattle.au_sound_expressions.specs.Lives.{stand}
use Rattle.au_sound_expressions.specs.Uses.{uses}
use Rattle.au_sound_expressions.specs.Safe.{After, AllWait, CallsSafe, frame}
use Rattle.au_sound_expressions.proofs.EvalLemmas.{eval_safe}
use Rattle.au_sound_expressions.proofs.HoldLemmas.{plus_nothing}
use Rattle.au_sound_expressions.proofs.WaitLemmas.{active_more, all_held, all_more, fresh, waits_more}
use Rattle.au_sound_blocks.specs.Flows.{Going, tokens}
use Rattle.au_sound_blocks.specs.Steps.{StepsAreSafe}
use Rattle.au_sound_blocks.proofs.FormLemmas.{freed_empty}
use Rattle.au_sound_blocks.proofs.FrameLemmas.{spent_empty}
use Rattle.au_sound_blocks.proofs.StateLemmas.{Ends, Goes, Valued, good_stored, more_active, ticks_on}
use Rattle.au_sound_blocks.proofs.StateLemmas.{goes_with, falls_on, stands, values_safe}
use Rattle.au_sound_expressions.specs.Held.{GoodHeld, Permits}

-- one action after two
pub follows_apart : {A B C : Type 0} (out : Out A) (go : A → Action B) (more : B → Action C)
    → follows (follows out go) more ≡ follows out (λ v. go v >>= more)
unfolding follows
follows_apart (gives v w left) go more = refl
follows_apart (aborts fault w left) go more = refl
follows_apart (cut w) go more = refl
follows_apart (no_rule w left) go more = refl

-- a value that is set or put is so in the store alone
pub good_sets : (owner : ClosedType → Option (List ℕ)) (cuts : World → Type 0) (q : Value → World → Type 0) (x : ℕ)
    (path : List ℕ) (v : Value)
    (w : World) (ticks : ℕ) → GoodBy owner cuts q (sets x path v w ticks)
    → GoodBy owner cuts (λ (old : Value) n. q old n × (lying_in n ≡ lying_in w)) (sets x path v w ticks)
good_sets owner cuts q x path v w ticks good =
    good_stored owner cuts q (exchanged (place_of x path w) v w.store) w ticks good

put_keeps : (owner : ClosedType → Option (List ℕ)) (cuts : World → Type 0) (q : Value → World → Type 0)
    (o : Option (ℕ × Place)) (v : Value)
    (w : World) (ticks : ℕ) → GoodBy owner cuts q (follows (needing o pure w ticks) (λ one. puts one v))
    → GoodBy owner cuts (λ (old : Value) n. q old n × (lying_in n ≡ lying_in w))
    (follows (needing o pure w ticks) (λ one. puts one v))
unfolding follows
put_keeps owner cuts q None v w ticks good = absurd good
put_keeps owner cuts q (Some one) v w ticks good = good_stored owner cuts q (put_behind one v w.store) w ticks good

pub good_puts : (owner : ClosedType → Option (List ℕ)) (cuts : World → Type 0) (q : Value → World → Type 0) (x : ℕ)
    (path : List ℕ) (v : Value)
    (w : World) (ticks : ℕ) → GoodBy owner cuts q (follows (refers x path w ticks) (λ one. puts one v))
    → GoodBy owner cuts (λ (old : Value) n. q old n × (lying_in n ≡ lying_in w))
    (follows (refers x path w ticks) (λ one. puts one v))
good_puts owner cuts q x path v w ticks good =
    put_keeps owner cuts q (along (reference_held x w) (λ one. Some (reference_along one path))) v w ticks good

module _ (types : Types) (owner : ClosedType → Option (List ℕ)) {V W : Type 0} (permits : Permits V W)
    (ways : List V) (laws : StepsAreSafe types owner) (key : V) (loose : ℕ → Bool)
    (result : Meaning) (below : List Act) (base : Lying) (fs : List Frame) (sizes : List ℕ) (size : ℕ)
    (running : IsRunning sizes fs size) {I T C K : Type 0} (see : View I T C) (known : Callables I K)
    (invoke : I → List Value → Action Value) (calls_safe : CallsSafe types owner permits (key ∷ ways) known invoke)
    (waiting : AllWait permits ways (is_active below) fs) where
  abbrev Gos : List Act → ℕ → Standing → Names → Made → World → Type 0
  Gos own number h names under w = Goes types owner permits ways laws key loose result below base fs sizes size
      running own
      number h names under w

  abbrev Ending : List Act → (kept next : ℕ) → Names → (Standing → Type 0) → (Names → Type 0) → Made → Flow → World
      → Type 0
  Ending own kept next before A R under flow w =
      Ends types owner permits ways laws key loose result below base fs sizes size running own kept next before A R
      under
      flow w

  -- ---- a value is dropped

  droppable : (own : List Act) (h : Standing) (names : Names) (under : Made) (v : Value) (t : Meaning) (n : World)
      → MayDrop types t → IsIn types owner (own ++ below) (frame h names ∷ fs) sizes ((v, t) ∷ under) n
      → IsDroppable types t
  droppable own h names under v t n (inl free) state = inl free
  droppable own h names under v t n (inr (of, region, same, inl static)) state =
      absurd (laws.actions.statics (own ++ below) (frame h names ∷ fs) sizes under n v of
      (inl (subst (λ (u : Meaning). IsIn types owner (own ++ below) (frame h names ∷ fs) sizes ((v, u) ∷ under) n)
      (same ∙ ap (writes of) static) state)))
  droppable own h names under v t n (inr (of, region, same, inr (z, is_token))) state =
      inr (of, z, same ∙ ap (writes of) is_token)

  pub discard_safe : (number : ℕ) (scope : Scope) (e : Expression Bytes T C) (own : List Act) (A : Standing → Type 0)
      (R : Names → Type 0) (h : Standing) (names : Names) (under : Made) (w : World) (ticks : ℕ)
      → ((z : ℕ) → is_active (own ++ below) z ≡ false → (of : Meaning)
      × IsOf types owner see known names z (with_token z (is_active (own ++ below))) scope e of × MayDrop types of)
      → R names → Steps see loose scope e h A → Gos own number h names under w
      → GoodHeld types owner permits (key ∷ ways) (Ending own number number names A R under)
      ((whole see invoke scope e >>= (λ v. tick (pure falls))) w ticks)
  discard_safe number scope e own A R h names under w ticks fits says steps going =
      let q = Ending own number number names A R under in
      good_then owner _
      (Valued types owner permits ways laws key loose result below base fs sizes size running own number (MayDrop types)
      (after_whole see loose scope e h) names under) q (whole see invoke scope e w ticks) (λ v. tick (pure falls))
      (values_safe types owner permits ways laws key loose result below base fs sizes size running see known invoke
      calls_safe waiting (MayDrop types) scope e own number h names under w ticks
      (λ z off. let fit = fits z off in (fit.0, fit.2, fit.1)) steps.0 going)
      (λ v n left valued.
      ticks_on types owner permits ways laws key loose result below base fs sizes size running waiting q (pure falls)
      own
      number (after_whole see loose scope e h) names ((v, valued.of) ∷ under) n left valued.going
      (λ more.
      falls_on types owner permits ways laws key loose result below base fs sizes size running own number number
      (after_whole see loose scope e h) names A R under n steps.1 says
      (goes_with types owner permits ways laws key loose result below base fs sizes size running own number
      (after_whole see loose scope e h) names ((v, valued.of) ∷ under) under n n refl
      (laws.dropped (own ++ below) (frame (after_whole see loose scope e h) names ∷ fs) sizes under n laws.actions.typed
      v valued.of
      (droppable own (after_whole see loose scope e h) names under v valued.of n valued.is valued.state) valued.state)
      valued.going)))

  -- ---- a return

  pub return_safe : (number : ℕ) (scope : Scope) (e : Expression Bytes T C) (own : List Act) (A : Standing → Type 0)
      (R : Names → Type 0) (h : Standing) (names : Names) (under : Made) (w : World) (ticks : ℕ)
      → IsWholeOf types owner see known result loose permits key (is_active (own ++ below)) names scope e result
      → Steps see loose scope e h (λ g. (k : ℕ) → IsOver (loose k) (freed_each (tokens own) (g k))) → number ≤ size
      → Gos own number h names under w
      → GoodHeld types owner permits (key ∷ ways) (Ending own number number names A R under)
      ((eval see invoke scope e >>= (λ v. tick (pure (returns v)))) w ticks)
  return_safe number scope e own A R h names under w ticks fits steps room going =
      let begun = laws.actions.begun (own ++ below) (frame h names ∷ fs) sizes under w going.state in
      let a : Act = record { token = begun.0; base = lying_in w } in
      let q = Ending own number number names A R under in
      good_then owner _
      (λ (v : Value) n. After types owner permits key (a ∷ (own ++ below)) names fs sizes a.token h
      (λ k. (uses see k scope e).consumed) (λ k. unmentioned) ((v, result) ∷ under) n) q (eval see invoke scope e w
      ticks) (λ v. tick (pure (returns v)))
      (eval_safe types owner permits key ways laws.actions a (own ++ below) names fs sizes size running
      (all_held permits ways (is_active below) fs waiting) see known invoke calls_safe
      (all_more permits ways (is_active below) (is_active (a ∷ (own ++ below)))
      (λ z is. active_more a (own ++ below) z (more_active own below z is)) fs waiting) scope e result
      (fits begun.0 begun.1) (λ k. unmentioned) h under w ticks
      (λ k. subst (λ n. Ready (stand (h k)) n) (sym (plus_nothing (uses see k scope e))) (steps.0 k)) (
        λ k. waits_more (is_active (own ++ below)) (is_active (a ∷ (own ++ below))) (active_more a (own ++ below)) (h k)
            (going.waits k),
        (stands types owner permits ways laws key loose result below base fs sizes size running own number h names
            under w
            going).1,
      ) begun.2)
      (λ v n left after.
      let gone : Going types owner permits key loose result below base fs sizes size (a ∷ own) size after.hold names
      ((v, result) ∷ under) n = record {
        waits = after.waits.0;
        clear = λ k from. emptied a after.hold k (after.gone k) (going.clear k (omega arith));
        fine = λ k. fine_on a after.hold k (after.gone k) (going.fine k);
        bottom = going.bottom;
        state = after.state;
      } in
      ticks_on types owner permits ways laws key loose result below base fs sizes size running waiting q
      (pure (returns v))
      (a ∷ own) size after.hold names ((v, result) ∷ under) n left gone
      (λ more. record {
        newest = a;
        own = own;
        hold = after.hold;
        names = names;
        over = λ k. subst (λ (g : Hold). IsOver (loose k) (freed_each (tokens own) g))
            (sym (after.gone k ∙ ap (spent (uses see k scope e).consumed)
            (fresh (is_active (own ++ below)) a.token (h k) (going.waits k) begun.1))) (steps.1 k);
        going = gone;
      }))
    where
      emptied : (a : Act) (g : Standing) (k : ℕ)
          → freed a.token (g k) ≡ spent (uses see k scope e).consumed (freed a.token (h k)) → h k ≡ empty → g k ≡ empty
      emptied a g k same is =
          freed_empty a.token (g k)
          (same ∙ spent_empty (uses see k scope e).consumed (freed a.token (h k)) (ap (freed a.token) is))

      fine_on : (a : Act) (g : Standing) (k : ℕ)
          → freed a.token (g k) ≡ spent (uses see k scope e).consumed (freed a.token (h k))
          → (h k ≡ empty) ⊎ IsFine types loose permits key k (names k)
          → (g k ≡ empty) ⊎ IsFine types loose permits key k (names k)
      fine_on a g k same (inl is) = inl (emptied a g k same is)
      fine_on a g k same (inr fine) = inr fine
