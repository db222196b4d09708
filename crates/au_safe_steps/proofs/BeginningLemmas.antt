-- How a run begins and ends, and which borrows lie open.
use Rattle.std.proofs.Common.{◌≡◌, ◌⊎◌, inl, inr, ℕ, suc, Bool, true, false, List, [], ◌∷◌, length, Option, Some, refl}
use Rattle.std.proofs.Common.{sym, ap, subst, ◌∙◌}
use Rattle.std.specs.Prelude.{None, codes, map}
use Rattle.au_effects.specs.Values.{Base, content_of, made, name_of, root}
use Rattle.au_effects.specs.Worlds.{bears, nothing}
use Rattle.au_type_texts.specs.Types.{ClosedType}
use Rattle.au_memory.specs.Forests.{Made, empty}
use Rattle.au_memory.specs.Loans.{Types}
use Rattle.au_lending.specs.Records.{fields_made, types_made}
use Rattle.au_safe_acts.specs.Orders.{Act}
use Rattle.au_safe_acts.specs.Told.{with_birth}
use Rattle.au_acting.specs.Starting.{no_memory, nothing_told}
use Rattle.au_acting.proofs.EndLemmas.{finishes}
use Rattle.au_acting.proofs.GrantLemmas.{makes_roots}
use Rattle.au_acting.proofs.StartLemmas.{agrees, starts}
use Rattle.au_acting.proofs.ValueLemmas.{drops, opens_cases}
use Rattle.au_safe_acts.specs.Stores.{memory_of, told_of}
use Rattle.au_safe_acts.proofs.StoreLemmas.{births_begin}
use Rattle.au_safe_acts.proofs.ToldLemmas.{births_told}
use Rattle.au_safe_acts.specs.Frames.{Frame, hold_at, type_at}
use Rattle.au_meaning.specs.Meanings.{exit_in, first_world}
use Rattle.au_meaning.specs.Worlds.{Borrow, World, exit}
use Rattle.au_safe_acts.proofs.SoundLemmas.{home_fits, sound_as}
use Rattle.au_safe_acts.specs.Good.{IsIn, lying_in, open_of}
use Rattle.au_safe_acts.proofs.CloseLemmas.{left_lying}
use Rattle.au_safe_steps.specs.Beginning.{CountsLying, ExitsWell, FinishesWell, RootsComeWell, StartsWell}

-- ---- the first world

pub starts_well : StartsWell
starts_well types owner input = record {
  keeps = refl;
  sized = refl;
  safe = agrees ClosedType types owner [] (λ frame x. empty) (type_at []) [] no_memory nothing_told (hold_at [])
      (type_at []) (memory_of (first_world input).store) (λ frame x. refl) (λ frame x. inr refl) none_at (λ i. refl)
      (starts ClosedType types owner (type_at []));
}
  where
    none_at : (base : Base) → None ≡ (memory_of (first_world input).store).at base
    none_at (name_of frame x) = refl
    none_at (content_of i) = refl

pub finishes_well : FinishesWell
finishes_well types owner sizes w state =
    finishes ClosedType types owner [] (hold_at []) (type_at []) [] (memory_of w.store) (told_of (lying_in w) w.store)
    refl refl (λ frame x. refl) state.safe

length_map : {A B : Type 0} (go : A → B) (xs : List A) → length (map go xs) ≡ length xs
length_map go [] = refl
length_map go (x ∷ xs) = ap suc (length_map go xs)

no_parts : (parts : Made) → types_made parts ≡ [] → parts ≡ []
no_parts [] h = refl
no_parts (v ∷ vs) h = absurd cc

module _ (types : Types) (owner : ClosedType → Option (List ℕ)) (acts : List Act) (fs : List Frame)
    (sizes : List ℕ) (under : Made) (w : World) where
  pub counts_lying : CountsLying types owner acts fs sizes under w
  counts_lying = (
    sym (length_map open_of w.borrows),
    λ a older acts_are state. left_lying types owner acts fs sizes under w a older acts_are state,
  )

  pub roots_come_well : RootsComeWell types owner acts fs sizes under w
  roots_come_well t of is home state =
      let s = w.store in
      let id = length s.births in
      let module' = codes "Austral.Pervasive" in
      let safe = makes_roots ClosedType types owner acts (hold_at fs) (type_at fs) under (memory_of s)
      (told_of (lying_in w) s) t of module' is (home_fits owner id of module' home) state.safe in
      sound_as ClosedType types owner acts (hold_at fs) (type_at fs) ((root id, t) ∷ under) (lying_in w) sizes
      (bears of module' nothing s) (memory_of s) (with_birth of module' (told_of (lying_in w) s)) state.keeps state.sized
      (births_begin s of module').1 ((births_told s state.keeps (lying_in w)).0 of module') safe

  pub exits_well : ExitsWell types owner acts fs sizes under w
  exits_well typed v t exits state =
      let s = w.store in
      let done = opens_cases ClosedType types owner acts (hold_at fs) (type_at fs) under (memory_of s)
      (told_of (lying_in w) s) typed.forms typed.cases v t 0 [] exits.success state.safe in
      let gone : IsIn types owner acts fs sizes under w = record {
        keeps = state.keeps;
        sized = state.sized;
        safe = drops ClosedType types owner acts (hold_at fs) (type_at fs) under (memory_of s) (told_of (lying_in w) s)
            typed.lawful v t exits.free state.safe;
      } in
      by done.0 done.1 done.2 done.3 done.4 (exits.only done.0 (types_made done.2) done.4) gone
    where
      by : (tag : ℕ) (birth : Option ℕ) (parts : Made) → v ≡ made tag birth (fields_made parts)
          → types.fields t tag ≡ Some (types_made parts) → (tag ≡ 0) ⊎ (tag ≡ 1)
          → IsIn types owner acts fs sizes under w
          → (b : Bool) × (exit_in v ≡ exit b) × IsIn types owner acts fs sizes under w
      by tag birth parts is fields (inl e) gone =
          let at : types.fields t 0 ≡ Some (types_made parts) =
          subst (λ (n : ℕ). types.fields t n ≡ Some (types_made parts)) e fields in
          let known = exits.success in
          let none : types_made parts ≡ [] = cc in
          let value = is ∙ ap (λ (n : ℕ). made n birth (fields_made parts)) e
          ∙ ap (λ (ps : Made). made 0 birth (fields_made ps)) (no_parts parts none) in
          (true, ap exit_in value, gone)
      by tag birth parts is fields (inr e) gone =
          let at : types.fields t 1 ≡ Some (types_made parts) =
          subst (λ (n : ℕ). types.fields t n ≡ Some (types_made parts)) e fields in
          let known = exits.failure in
          let none : types_made parts ≡ [] = cc in
          let value = is ∙ ap (λ (n : ℕ). made n birth (fields_made parts)) e
          ∙ ap (λ (ps : Made). made 1 birth (fields_made ps)) (no_parts parts none) in
          (false, ap exit_in value, gone)
