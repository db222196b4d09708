-- Programs: a call that may go deeper, and what is seen of a run with more ticks.
use Rattle.std.specs.Prelude.{codes}
use Rattle.std.proofs.Common.{◌≡◌, ℕ, zero, suc, ◌+◌, ◌-◌, ◌==◌, ◌≤◌, true, List, [], ◌∷◌, length, Option}
use Rattle.std.proofs.Common.{Some, None, refl, sym, ap, subst, ◌∙◌, arith}
use Rattle.au_effects.specs.Values.{root}
use Rattle.au_effects.specs.Worlds.{nothing}
use Rattle.au_meaning.specs.Acts.{new_names}
use Rattle.au_meaning.specs.Names.{names_in_block}
use Rattle.au_meaning.specs.Laws.{Continues, MoreTicksTellMore, EndingsStay, TicksAreSpent, is_over}
use Rattle.au_meaning.specs.Meanings.{scope_of, returned, enters, call_at, exit_in, seen, first_world}
use Rattle.au_meaning.specs.Meanings.{root_born, begun, parameters_of}
use Rattle.au_meaning.specs.Statements.{Flow, falls, returns}
use Rattle.au_meaning.specs.Ticks.{Out, Action, gives, aborts, cut, no_rule}
use Rattle.au_meaning.specs.Views.{Field, Function}
use Rattle.au_meaning.specs.Worlds.{Value, World, Ending, Outcome, abort, stuck}
use Rattle.au_meaning.proofs.ActGrowth.{store_continues, begins_continues, ends_continues, closing_grows}
use Rattle.au_meaning.proofs.CallGrowth.{kept_bears}
use Rattle.au_meaning.proofs.Growing.{world_in, continues_refl, proper_over, More, Grows, grows_bind}
use Rattle.au_meaning.proofs.Growing.{grows_then, grows_pure, grows_stuck, grows_over, grows_where}
use Rattle.au_meaning.proofs.Growing.{grows_does}
use Rattle.au_meaning.proofs.StatementGrowth.{block_grows}

returned_grows : (flow : Flow) → Grows (returned flow) (returned flow)
returned_grows falls = grows_stuck
returned_grows (returns value) = grows_pure

module _ {I T C : Type 0} where
  enters_grows : (invoke invoke2 : I → List Value → Action Value)
      → ((one : I) (args : List Value) → Grows (invoke one args) (invoke2 one args)) → (depth more : ℕ)
      → depth ≤ more
      → (f : Option (Function I T C)) (args : List Value)
      → Grows (enters invoke depth f args) (enters invoke2 more f args)
  enters_grows invoke invoke2 deeper depth more le None args = grows_stuck
  enters_grows invoke invoke2 deeper depth more le (Some f) args =
      grows_where (length args == length f.parameters) (grows_then (grows_does (begins_continues
      (new_names f.first args (names_in_block f.body))))
      (grows_bind (closing_grows (grows_bind (block_grows f.view invoke invoke2 deeper depth more le
      (f.first + length args) (scope_of f) f.body) returned_grows)) (λ value.
      grows_then (grows_does ends_continues) grows_pure)))

  module _ (functions : I → Option (Function I T C)) where
    -- a call goes on, at each depth
    call_itself : (depth : ℕ) (one : I) (args : List Value)
        → Grows (call_at functions depth one args) (call_at functions depth one args)
    unfolding call_at
    call_itself zero one args = grows_over proper_over
    call_itself (suc depth) one args =
        enters_grows (call_at functions depth) (call_at functions depth) (call_itself depth) depth depth
        (omega arith)
        (functions one) args

    call_grows : (depth more : ℕ) → depth ≤ more → (one : I) (args : List Value)
        → Grows (call_at functions depth one args) (call_at functions more one args)
    unfolding call_at
    call_grows zero more le one args = grows_over (call_itself more one args).proper
    call_grows (suc depth) zero le one args = absurd (omega (arith, le))
    call_grows (suc depth) (suc more) le one args =
        enters_grows (call_at functions depth) (call_at functions more) (call_grows depth more (omega
        (arith, le)))
        depth more (omega (arith, le)) (functions one) args

    begun_grows : (fields : List Field) {call call2 : List Value → Action Value}
        → ((args : List Value) → Grows (call args) (call2 args))
        → Grows (begun fields call) (begun fields call2)
    begun_grows [] g = g []
    begun_grows (p ∷ []) g =
        grows_then (grows_does {change = root_born p.of} (λ w.
        store_continues w _ (kept_bears p.of (codes "Austral.Pervasive") nothing w.store))) (g (root 0 ∷ []))
    begun_grows (p ∷ q ∷ rest) g = grows_stuck

-- ---- what is seen

seen_world : (n : ℕ) (r : Out Value) → (seen n r).world ≡ world_in r
seen_world n (gives value w l) = refl
seen_world n (aborts fault w l) = refl
seen_world n (cut w) = refl
seen_world n (no_rule w l) = refl

more_continues : (j : ℕ) (r r2 : Out Value) → More j r r2 → Continues (world_in r) (world_in r2)
more_continues j (gives a w l) r2 e = subst (λ r. Continues w (world_in r)) (sym e) (continues_refl w)
more_continues j (aborts f w l) r2 e = subst (λ r. Continues w (world_in r)) (sym e) (continues_refl w)
more_continues j (cut w) r2 c = c
more_continues j (no_rule w l) r2 e = subst (λ r. Continues w (world_in r)) (sym e) (continues_refl w)

seen_continues : (n k : ℕ) (r r2 : Out Value) → Continues (world_in r) (world_in r2)
    → Continues (seen n r).world (seen k r2).world
seen_continues n k r r2 c =
    subst (λ w. Continues w (seen k r2).world) (sym (seen_world n r))
    (subst (λ w. Continues (world_in r) w) (sym (seen_world k r2)) c)

same_made : (n j l : ℕ) → (n + j) - (l + j) ≡ n - l
same_made n j l = omega arith

-- a run that made so many ticks
abbrev made_in : World → Ending → ℕ → Outcome
made_in w ending k = record { world = w; made = k; ending = ending }

seen_stays : (n j : ℕ) (r r2 : Out Value) → More j r r2 → is_over (seen n r).ending ≡ true
    → seen (n + j) r2 ≡ seen n r
seen_stays n j (gives value w l) r2 e done =
    ap (seen (n + j)) e
    ∙ ap (made_in w (exit_in value)) (same_made n j l)
seen_stays n j (aborts fault w l) r2 e done =
    ap (seen (n + j)) e
    ∙ ap (made_in w (abort fault)) (same_made n j l)
seen_stays n j (cut w) r2 c done = absurd cc
seen_stays n j (no_rule w l) r2 e done =
    ap (seen (n + j)) e
    ∙ ap (made_in w stuck) (same_made n j l)

module _ {I T C : Type 0} where
  mean_grows : (functions : I → Option (Function I T C)) (entry : I) (n j : ℕ)
      → Grows (begun (parameters_of (functions entry)) (call_at functions (suc n) entry))
      (begun (parameters_of (functions entry)) (call_at functions (suc (n + j)) entry))
  mean_grows functions entry n j =
      begun_grows functions (parameters_of (functions entry))
      (call_grows functions (suc n) (suc (n + j)) (omega arith) entry)

  -- what a run comes to that has so many ticks
  abbrev ran : (I → Option (Function I T C)) → I → List ℕ → ℕ → Out Value
  ran functions entry input n =
      begun (parameters_of (functions entry)) (call_at functions (suc n) entry) (first_world input) n

  ran_more : (functions : I → Option (Function I T C)) (entry : I) (input : List ℕ) (n j : ℕ)
      → More j (ran functions entry input n) (ran functions entry input (n + j))
  ran_more functions entry input n j = (mean_grows functions entry n j).more (first_world input) n j

  pub more_tells : MoreTicksTellMore I T C
  more_tells functions entry input n j =
      seen_continues n (n + j) (ran functions entry input n) (ran functions entry input (n + j))
      (more_continues j (ran functions entry input n) (ran functions entry input (n + j))
      (ran_more functions entry input n j))

  pub endings_stay : EndingsStay I T C
  endings_stay functions entry input n j done =
      seen_stays n j (ran functions entry input n) (ran functions entry input (n + j))
      (ran_more functions entry input n j) done

  pub ticks_are_spent : TicksAreSpent I T C
  ticks_are_spent functions depth one args world n =
      (call_itself functions depth one args).proper.spends world n
