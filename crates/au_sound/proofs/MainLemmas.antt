-- Every run from an entry is seen well.
use Rattle.std.proofs.Common.{◌≡◌, ℕ, suc, Bool, List, [], ◌∷◌, Option, refl, sym, subst, ◌∙◌}
use Rattle.au_effects.specs.Values.{root}
use Rattle.au_type_texts.specs.Types.{ClosedType}
use Rattle.au_types.specs.Types.{Meaning}
use Rattle.au_memory.specs.Loans.{Types}
use Rattle.au_safe_ships.specs.Orders.{is_active}
use Rattle.au_meaning.specs.Meanings.{begun, call_at, first_world, parameters_of, root_born, seen}
use Rattle.au_meaning.specs.Ticks.{Out, aborts, cut, gives, no_rule}
use Rattle.au_meaning.specs.Views.{Field, Function}
use Rattle.au_meaning.specs.Worlds.{Value, World, exit, running}
use Rattle.au_safe_ships.specs.Good.{IsIn, lying_in}
use Rattle.au_sound_blocks.specs.Blocks.{AllRun}
use Rattle.au_sound_blocks.specs.Known.{AreActive, Callables, Calls}
use Rattle.au_sound_blocks.proofs.LoopLemmas.{good_does}
use Rattle.au_safe_ships.specs.Beginning.{IsExitOf}
use Rattle.au_sound.specs.Runs.{EndsWell, HoldsWhereCut, IsSeenWell, RunsAreSafe, RunsWell, TakesRoot}
use Rattle.au_sound.proofs.CallLemmas.{calls_hold}
use Rattle.au_sound_blocks.specs.Held.{GoodHeld, Permits}

module _ (types : Types) (owner : ClosedType → Option (List ℕ)) {K W : Type 0} (permits : Permits K W)
    (laws : RunsAreSafe types owner) where
  -- the value of an entry under way, and nothing else
  abbrev Gave : Meaning → Value → World → Type 0
  Gave t v n = IsIn types owner [] [] [] ((v, t) ∷ []) n × (lying_in n ≡ [])

  -- what comes of an entry is seen well
  seen_well : (ways : List K) (t : Meaning) → IsExitOf types t → (ticks : ℕ) (out : Out Value)
      → GoodHeld types owner permits ways (Gave t) out
      → IsSeenWell owner (seen ticks out)
  seen_well ways t exits ticks (gives v n left) good =
      let told = laws.steps.actions.told [] [] [] ((v, t) ∷ []) n good.0 in
      let over = laws.exits [] [] [] [] n laws.steps.actions.typed v t exits good.0 in
      let ends = laws.finishes types owner [] n over.2 in
      record {
        once = told.0.0;
        inside = told.0.1;
        own = told.0.2;
        ended = subst (EndsWell n) (sym over.1) (ends.0, ends.1 good.1);
      }
  seen_well ways t exits ticks (aborts fault n left) good =
      record { once = good.0; inside = good.1; own = good.2; ended = tt }
  seen_well ways t exits ticks (cut n) good =
      record { once = good.0.0.0; inside = good.0.0.1; own = good.0.0.2; ended = good.0.1 }
  seen_well ways t exits ticks (no_rule n left) good = absurd good

  -- and where it was cut off, names hold what they may
  holds_well : (ways : List K) (t : Meaning) → IsExitOf types t → (ticks : ℕ) (out : Out Value)
      → GoodHeld types owner permits ways (Gave t) out
      → HoldsWhereCut types owner permits ways (seen ticks out)
  holds_well ways t exits ticks (gives v n left) good is =
      let over = laws.exits [] [] [] [] n laws.steps.actions.typed v t exits good.0 in
      let clash : exit over.0 ≡ running = sym over.1 ∙ is in
      absurd cc
  holds_well ways t exits ticks (aborts fault n left) good is = absurd cc
  holds_well ways t exits ticks (cut n) good is = good.1
  holds_well ways t exits ticks (no_rule n left) good is = absurd good

  module _ {I T C E : Type 0} (known : Callables I K) (calls : Calls K E) (functions : I → Option (Function I T C))
      (all : AllRun types owner permits known calls functions) (key : K) (open_none : known.tokens key ≡ [])
      (depth : ℕ) where
    none_active : (active : ℕ → Bool) → AreActive active (known.tokens key)
    none_active active = subst (AreActive active) (sym open_none) tt

    begun_good : (ts : List Meaning) (ps : List Field) → TakesRoot types owner ts ps → ts ≡ known.parameters key
        → (input : List ℕ) (ticks : ℕ)
        → GoodHeld types owner permits (key ∷ []) (Gave (known.result key))
        (begun ps (call_at functions (suc depth) (known.of key)) (first_world input) ticks)
    begun_good [] [] takes same input ticks =
        calls_hold types owner permits laws known calls functions all [] depth key [] [] [] [] [] (first_world input)
        ticks
        (none_active (is_active [])) tt refl same (laws.starts types owner input)
    begun_good [] (p ∷ ps) takes same input ticks = absurd takes
    begun_good (t ∷ []) [] takes same input ticks = absurd takes
    begun_good (t ∷ []) (p ∷ []) takes same input ticks =
        good_does owner _ (Gave (known.result key)) (root_born p.of)
        (call_at functions (suc depth) (known.of key) (root 0 ∷ [])) (first_world input) ticks
        (calls_hold types owner permits laws known calls functions all [] depth key [] [] [] ((root 0, t) ∷ []) []
        (root_born p.of (first_world input)) ticks (none_active (is_active [])) tt refl same
        (laws.rooted [] [] [] [] (first_world input) t p.of takes.0 takes.1 (laws.starts types owner input)))
    begun_good (t ∷ []) (p ∷ r ∷ ps) takes same input ticks = absurd takes
    begun_good (t ∷ u ∷ ts) ps takes same input ticks = absurd takes

  pub runs_well : {I T C E : Type 0} (known : Callables I K) (calls : Calls K E)
      (functions : I → Option (Function I T C))
      → RunsWell types owner permits known calls functions
  runs_well known calls functions all key entry input ticks =
      let out = begun (parameters_of (functions (known.of key))) (call_at functions (suc ticks) (known.of key))
      (first_world input) ticks in
      let good = begun_good known calls functions all key entry.open_none ticks (known.parameters key)
      (parameters_of (functions (known.of key))) entry.takes refl input ticks in (
        seen_well (key ∷ []) (known.result key) entry.gives ticks out good,
        holds_well (key ∷ []) (known.result key) entry.gives ticks out good,
      )
