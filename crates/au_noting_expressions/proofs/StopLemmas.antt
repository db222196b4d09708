-- Where a step of a clause stops, the clause stops.
use Rattle.std.proofs.Common.{◌≡◌, Result, Ok, Err, subst, sym}
use Rattle.au_noting.specs.declared.faults.Fault as told
use Rattle.au_noting.specs.Giving.{Gives, Stops}
use Rattle.au_typing.specs.Faults.{Noting, ◌>>=◌}
use Rattle.au_noting_expressions.proofs.Steps.{stops_first}

-- a step behind one that gives something
pub stops_behind : {X A B D : Type 0} (view : X → D) (result : Result X told.Fault) (e : told.Fault)
    (found : Noting A) (x : A) (f : A → Noting B) (g : B → Noting D) →
    (y : told.Fault) × (result ≡ Err y) × (y ≡ e) → found ≡ Ok x → Stops e (f x) →
    Gives view result (found >>= λ a. f a >>= g)
stops_behind {X = X} view result e found x f g is gives stops =
    subst (λ (r : Result X told.Fault). Gives view r (found >>= λ a. f a >>= g)) (sym is.1)
    (subst (λ (y : told.Fault). Stops y (found >>= λ a. f a >>= g)) (sym is.2)
    (subst (λ r. Stops e (r >>= λ a. f a >>= g)) (sym gives) (stops_first e (f x) g stops)))
