-- Steps of noting: what comes of them where each part gives something, and what each part gave.
use Rattle.std.proofs.Common.{◌≡◌, Bool, true, refl, ap, ◌∙◌}
use Rattle.std.specs.Prelude.{Ok, Err, if◌then◌else◌}
use Rattle.au_base.specs.declared.places.Pos.{Pos}
use Rattle.au_typing.specs.Faults.{Noting, Why, ◌>>=◌, check}
use Rattle.au_typing.specs.DerivationFaults.{Judged, ◌then◌, placed}

-- ---- where each part gives something

pub bind_from : {A B : Type 0} {r : Noting A} {x : A} {y : B} (next : A → Noting B) → r ≡ Ok x
    → next x ≡ Ok y → (r >>= next) ≡ Ok y
bind_from next e h = ap (λ s. s >>= next) e ∙ h

pub then_from : {A B : Type 0} {r : Judged A} {x : A} {y : B} (next : A → Judged B) → r ≡ Ok x
    → next x ≡ Ok y → (r then next) ≡ Ok y
then_from next e h = ap (λ s. s then next) e ∙ h

pub check_from : {A : Type 0} {test : Bool} {y : A} (cause : Why) (rest : Noting A) → test ≡ true
    → rest ≡ Ok y → check test cause rest ≡ Ok y
check_from cause rest e h = ap (λ b. check b cause rest) e ∙ h

pub placed_from : {A : Type 0} {r : Noting A} {x : A} (at : Pos) → r ≡ Ok x → placed at r ≡ Ok x
placed_from at e = ap (placed at) e

-- ---- what each part gave

pub judged_is : {A : Type 0} (x y : A) → ◌≡◌ {A = Judged A} (Ok x) (Ok y) → x ≡ y
judged_is x y e = cc

pub then_gave : {A B : Type 0} (r : Judged A) (next : A → Judged B) (y : B) → (r then next) ≡ Ok y
    → (x : A) × (r ≡ Ok x) × (next x ≡ Ok y)
then_gave (Ok x) next y e = (x, refl, e)
then_gave (Err fault) next y e = absurd cc

pub placed_gave : {A : Type 0} (at : Pos) (r : Noting A) (y : A) → placed at r ≡ Ok y → r ≡ Ok y
placed_gave at (Ok x) y e = ap Ok (judged_is x y e)
placed_gave at (Err fault) y e = absurd cc
