-- Regions and types of names.
use Rattle.std.proofs.Common.{◌≡◌, ◌⊎◌, inl, inr, ℕ, ◌==◌, Bool, true, false, List, [], ◌∷◌, length, Option, refl, sym, ap, subst, ◌∙◌}
use Rattle.std.proofs.Common.{if◌then◌else◌}
use Rattle.au_effects.specs.References.{reference_in}
use Rattle.au_running_types.specs.Running.{token}
use Rattle.au_types.specs.declared.types.Region.{Region}
use Rattle.au_types.specs.declared.types.Region.TheVariants.{Static}
use Rattle.au_types.specs.Types.{Meaning}
use Rattle.au_type_texts.specs.Types.{ClosedType}
use Rattle.au_memory.specs.Forests.{Hold, Made, empty}
use Rattle.au_memory.specs.Loans.{Types}
use Rattle.au_borrows.specs.Orders.{Act}
use Rattle.au_running_judgements.proofs.StartLemmas.{agrees}
use Rattle.au_running_judgements.specs.Stores.{memory_of, told_of}
use Rattle.au_running_judgements.specs.Frames.{Frame, hold_at, type_at}
use Rattle.au_meaning.specs.Acts as meaning
use Rattle.au_meaning.specs.Ticks.{Out, needing}
use Rattle.au_meaning.specs.Worlds.{Value, World}
use Rattle.au_running_judgements.specs.Good.{Good, IsIn, lying_in}
use Rattle.au_running_judgements.specs.Regions.{IsToken}
use Rattle.au_running_judgements.proofs.ReachingLemmas.{operands_copy_well}
use Rattle.au_running_judgements.proofs.RegionLemmas.{names_have_tokens, references_have_tokens}
use Rattle.au_safe_ships.specs.Named.{EmptyNamesAreFree, NoNamedStatics, NoStatics, WritersLookWell}

-- `Static` is no token
pub no_token : IsToken Static → ⊥
no_token h = let e : Static ≡ token h.0 = h.1 in cc

module _ (types : Types) (owner : ClosedType → Option (List ℕ)) (acts : List Act) (fs : List Frame)
    (sizes : List ℕ) (under : Made) (w : World) where
  pub no_statics : NoStatics types owner acts fs sizes under w
  no_statics typed v of (inl state) =
      no_token ((references_have_tokens types owner acts fs sizes [] under w typed v of Static).1 state)
  no_statics typed v of (inr state) =
      no_token ((references_have_tokens types owner acts fs sizes [] under w typed v of Static).0 state)

  pub empty_names_are_free : EmptyNamesAreFree types owner acts fs sizes under w
  empty_names_are_free hold names others same state =
      let f : Frame = record { hold = hold; type = names } in
      let g : Frame = record { hold = hold; type = others } in
      record {
        keeps = state.keeps;
        sized = state.sized;
        safe = agrees ClosedType types owner acts (hold_at (f ∷ fs)) (type_at (f ∷ fs)) under (memory_of w.store)
            (told_of (lying_in w) w.store) (hold_at (g ∷ fs)) (type_at (g ∷ fs)) (memory_of w.store) (λ k x. refl)
            (λ k x. by (length fs == k) k x) (λ base. refl) (λ i. refl) state.safe;
      }
    where
      by : (b : Bool) (k x : ℕ) → ((if b then hold x else hold_at fs k x) ≡ empty)
          ⊎ ((if b then names x else type_at fs k x) ≡ (if b then others x else type_at fs k x))
      by true k x = same x
      by false k x = inr refl

module _ (types : Types) (owner : ClosedType → Option (List ℕ)) (acts : List Act) (f : Frame) (fs : List Frame)
    (sizes : List ℕ) (size : ℕ) (under : Made) (w : World) where
  pub no_named_statics : NoNamedStatics types owner acts f fs sizes size under w
  no_named_statics typed x of is (inl kind) state =
      no_token ((names_have_tokens types owner acts f fs sizes under w typed x of Static is state).1 kind)
  no_named_statics typed x of is (inr kind) state =
      no_token ((names_have_tokens types owner acts f fs sizes under w typed x of Static is state).0 kind)

  pub writers_look_well : (ticks : ℕ) → WritersLookWell types owner acts f fs sizes size under w ticks
  writers_look_well ticks typed running x t z is kind on free state =
      let done = operands_copy_well types owner acts f fs sizes size under w ticks typed running x t z is kind free on
      state in
      subst (λ (o : Out Value). Good owner
      (λ (r : Value) n. IsIn types owner acts (f ∷ fs) sizes under n
      × ((left : ℕ) → Good owner (λ (v : Value) m. IsIn types owner acts (f ∷ fs) sizes ((v, t) ∷ under) m)
      (needing (reference_in r) meaning.reads n left))) o) (sym done.1) (state, done.2)
