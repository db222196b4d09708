-- What a name is declared by, where each stands with its target.
use Rattle.std.proofs.Common.{◌≡◌, Bool, true, false, cond, List, [], ◌∷◌, Some, refl}
use Rattle.std.specs.Option.{option_map}
use Rattle.std.specs.Str.{bytes_eq}
use Rattle.au_syntax.specs.Plain.{Bytes}
use Rattle.au_types.specs.Tables.{find}
use Rattle.au_names.specs.declared.targets.Target.{Target}
use Rattle.au_names.specs.Meanings.{declared_by}

-- a name is declared where its target is
pub find_declared : (name : Bytes) (pairs : List (Bytes × Target)) → find name (declared_by pairs)
    ≡ option_map (λ (t : Target). t.at) (find name pairs)
find_declared name [] = refl
find_declared name (p ∷ pairs) = by (bytes_eq name p.0) (find_declared name pairs)
  where
    by : (b : Bool) → find name (declared_by pairs) ≡ option_map (λ (t : Target). t.at) (find name pairs)
        → cond b (Some p.1.at) (find name (declared_by pairs)) ≡ option_map (λ (t : Target). t.at)
        (cond b (Some p.1) (find name pairs))
    by true on = refl
    by false on = on
