-- Steps that the code takes in one with the readers.
use Rattle.std.proofs.Common.{◌≡◌, ◌≢◌, ℕ, zero, suc, ◌-◌, List, [], ◌∷◌, map, refl, ap, arith}
use Rattle.au_base.specs.declared.tokens.Token.{Token}
use Rattle.au_syntax.specs.declared.types.TypeText.{TypeText}
use Rattle.au_syntax.specs.Types.{types}
use Rattle.au_syntax.specs.Views.{written, written_all}
use Rattle.au_read_expressions.specs.Bounds.{Bounds}
use Rattle.au_read_expressions.specs.TypeReading.{types_of, type_with, type_within}

pub types_written : (xs : List TypeText) → types_of (map written xs) ≡ written_all xs
types_written [] = refl
types_written (x ∷ xs) = ap (types (written x)) (types_written xs)

-- a level deeper
pub deeper : (b : Bounds) (n : ℕ) (ts : List Token) → n ≢ 0 → type_within b n ts ≡ type_with (type_within b (n - 1)) ts
unfolding type_within
deeper b zero ts some = absurd (some refl)
deeper b (suc n) ts some = ap (λ k. type_with (type_within b k) ts) (let e : n ≡ suc n - 1 = omega arith in e)

-- no level left
pub deepest : (b : Bounds) (n : ℕ) (ts : List Token) → n ≡ 0 → type_within b n ts ≡ type_within b 0 ts
deepest b n ts is = ap (λ k. type_within b k ts) is
