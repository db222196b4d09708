-- Calls are safe in the ways in which they are made, whatever they do, where those of functions are.
use Rattle.std.proofs.Common.{◌≡◌, ℕ, Bool, true, false, List, ◌∷◌, Option, None, Some, refl, sym, subst}
use Rattle.au_effects.specs.Answers as answer
use Rattle.au_effects.specs.Answers.{Answer}
use Rattle.au_shipped.specs.declared.prims.ShippedCall.{ShippedCall}
use Rattle.au_syntax.specs.Plain.{Bytes}
use Rattle.au_type_texts.specs.Types.{ClosedType}
use Rattle.au_types.specs.Types.{Meaning}
use Rattle.au_memory.specs.Loans.{Types}
use Rattle.au_lending.specs.Records.{types_made}
use Rattle.au_meaning.specs.Acts.{answered, makes_value, operation, shipped_by, ships_call, told}
use Rattle.au_meaning.specs.Expressions as evaluator
use Rattle.au_meaning.specs.Ticks.{Out, Action, aborts, comes, cut, follows, gives, no_rule}
use Rattle.au_meaning.specs.Views.{View, invokes, makes, ships}
use Rattle.au_meaning.specs.Views as views
use Rattle.au_meaning.specs.Worlds.{Value, World}
use Rattle.au_running_judgements.specs.Expressions.{Bears, Performs}
use Rattle.au_safe_ships.specs.Good.{IsIn, lying_in}
use Rattle.au_safe_ships.specs.Making.{values_of}
use Rattle.au_safe_ships.specs.Orders.{Lying, is_active}
use Rattle.au_safe_ships.proofs.GoodLemmas.{good_uncut}
use Rattle.au_sound_blocks.specs.Actions.{ActionsAreSafe}
use Rattle.au_sound_blocks.specs.Held.{GoodHeld, IsCutSo, Permits}
use Rattle.au_sound_blocks.specs.Known.{Callables}
use Rattle.au_sound_blocks.specs.Safe.{CallsSafe}
use Rattle.au_caps_laws.proofs.AlwaysLemmas.{performed}

-- ---- borrows lie as they did

abbrev Lies : {A : Type 0} → Lying → Out A → Type 0
Lies lying (gives a w left) = lying_in w ≡ lying
Lies lying (aborts fault w left) = Unit {0}
Lies lying (cut w) = Unit {0}
Lies lying (no_rule w left) = Unit {0}

answered_lies : (a : Answer Bytes ClosedType) (w : World) (ticks : ℕ) → Lies (lying_in w) (answered a w ticks)
answered_lies (answer.gives value store) w ticks = refl
answered_lies (answer.writes bytes store) w ticks = refl
answered_lies answer.waits w ticks = tt
answered_lies (answer.aborts fault store) w ticks = tt
answered_lies answer.none w ticks = tt

told_lies : (args : List Value) (a : Answer Bytes ClosedType) (w : World) (ticks : ℕ)
    → Lies (lying_in w) (told args a w ticks)
told_lies args (answer.gives value store) w ticks = refl
told_lies args (answer.writes bytes store) w ticks = refl
told_lies args answer.waits w ticks = answered_lies _ _ ticks
told_lies args (answer.aborts fault store) w ticks = tt
told_lies args answer.none w ticks = tt

comes_lies : (r : answer.Result Bytes) (w : World) (ticks : ℕ) → Lies (lying_in w) (comes r w ticks)
comes_lies (answer.value value) w ticks = refl
comes_lies (answer.fault fault) w ticks = tt
comes_lies answer.no_rule w ticks = tt

shipped_lies : (o : Option (answer.Result Bytes)) (call : ShippedCall) (born : Option ClosedType) (args : List Value)
    (w : World) (ticks : ℕ) → Lies (lying_in w) (shipped_by o call born args w ticks)
shipped_lies None call born args w ticks = told_lies args _ w ticks
shipped_lies (Some r) call born args w ticks = comes_lies r w ticks

made_lies : (linear : Bool) (of : ClosedType) (tag : ℕ) (home : Bytes) (args : List Value) (w : World) (ticks : ℕ)
    → Lies (lying_in w) (makes_value linear of tag home args w ticks)
unfolding follows
made_lies false of tag home args w ticks = refl
made_lies true of tag home args w ticks = refl

module _ (types : Types) (owner : ClosedType → Option (List ℕ)) {V W : Type 0} (permits : Permits V W)
    (ways : List V) where
  lies_too : {A : Type 0} (q : A → World → Type 0) (lying : Lying) (out : Out A)
      → GoodHeld types owner permits ways q out → Lies lying out
      → GoodHeld types owner permits ways (λ (a : A) n. q a n × (lying_in n ≡ lying)) out
  lies_too q lying (gives a w left) good lies = (good, lies)
  lies_too q lying (aborts fault w left) good lies = good
  lies_too q lying (cut w) good lies = good
  lies_too q lying (no_rule w left) good lies = absurd good

  module _ (laws : ActionsAreSafe types owner) {I T C U D K : Type 0} (see : View I T C) (other : View I U D)
      (linear : (of : ClosedType) → other.is_linear of ≡ see.is_linear of) (known : Callables I K)
      (invoke : I → List Value → Action Value) (calls_safe : CallsSafe types owner permits ways known invoke) where
    pub acts_safe : CallsSafe types owner permits ways (performed types owner see known)
        (evaluator.acts other invoke)
    acts_safe one acts fs sizes made under w ticks active waiting many typed state =
        by one.act (subst (λ ks. Performs types owner see known (is_active acts) one.act ks one.result) (sym typed)
        (one.performs (is_active acts) active))
      where
        Done : Value → World → Type 0
        Done v n = IsIn types owner acts fs sizes ((v, one.result) ∷ under) n

        Safe : Out Value → Type 0
        Safe out = GoodHeld types owner permits ways (λ (v : Value) n. Done v n × (lying_in n ≡ lying_in w)) out

        by_made : (of : ClosedType) (tag : ℕ) (home : Bytes) (b : Bool)
            → types.fields one.result tag ≡ Some (types_made made)
            → Bears types owner see known of home b one.result
            → GoodHeld types owner permits ways Done (makes_value b of tag home (values_of made) w ticks)
        by_made of tag home true fields bears =
            good_uncut owner (IsCutSo types owner permits ways) Done
            (makes_value true of tag home (values_of made) w ticks)
            (laws.made_linear acts fs sizes under w ticks made one.result of tag home fields bears.0 bears.1 state)
        by_made of tag home false fields bears =
            good_uncut owner (IsCutSo types owner permits ways) Done
            (makes_value false of tag home (values_of made) w ticks)
            (laws.made_free acts fs sizes under w ticks made one.result of tag home fields bears state)

        by : (act : views.Act I)
            → Performs types owner see known (is_active acts) act (types_made made) one.result
            → Safe (evaluator.acts other invoke act (values_of made) w ticks)
        by (invokes f) (key, of, takes, leads, on) =
            subst (λ (g : I). Safe (invoke g (values_of made) w ticks)) of
            (subst (λ (t : Meaning). GoodHeld types owner permits ways
            (λ (v : Value) n. IsIn types owner acts fs sizes ((v, t) ∷ under) n × (lying_in n ≡ lying_in w))
            (invoke (known.of key) (values_of made) w ticks)) leads
            (calls_safe key acts fs sizes made under w ticks on waiting many (sym takes) state))
        by (makes of tag home) (fields, bears) =
            subst (λ b. Safe (makes_value b of tag home (values_of made) w ticks)) (sym (linear of))
            (lies_too Done (lying_in w) (makes_value (see.is_linear of) of tag home (values_of made) w ticks)
            (by_made of tag home (see.is_linear of) fields bears)
            (made_lies (see.is_linear of) of tag home (values_of made) w ticks))
        by (ships call born) h =
            lies_too Done (lying_in w) (ships_call call born (values_of made) w ticks)
            (good_uncut owner (IsCutSo types owner permits ways) Done (ships_call call born (values_of made) w ticks)
            (laws.shipped acts fs sizes under w ticks call born made one.result h state))
            (shipped_lies (operation call (values_of made)) call born (values_of made) w ticks)
