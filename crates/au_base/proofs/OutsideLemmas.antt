-- What several calls of a sink add, one after another.
use Rattle.std.proofs.Common.{◌≡◌, ◌≤◌, ◌+◌, ◌-◌, ℕ, min, List, [], ◌++◌, length, take, drop, Option, Some}
use Rattle.std.proofs.Common.{None, Result, Ok, Err, OnErr, ap, ◌∙◌, sym, refl, subst, append_assoc, arith}
use Rattle.std.proofs.Common.{length-drop}
use Rattle.std.proofs.lemmas.List.{append-nil, take-append-drop, take-append-le, take_all, take_min}
use Rattle.std.proofs.lemmas.List.{length-take-le}
use Rattle.std.proofs.Math.Seq.{take-append-add}
use Rattle.au_base.specs.Outside.{Adds, AddsFront, written_more}

-- one piece behind another
written_twice : (old : Option (List ℕ)) (x y : List ℕ) → written_more (written_more old x) y ≡ written_more old (x ++ y)
written_twice None x y = refl
written_twice (Some bytes) x y = ap Some (append_assoc bytes x y)

-- what two calls add
pub adds_both : (old between new : Option (List ℕ)) (x y : List ℕ) → Adds old between x → Adds between new y →
    Adds old new (x ++ y)
adds_both old between new x y first second = second ∙ ap (λ w. written_more w y) first ∙ written_twice old x y

-- no byte
pub adds_none : (old : Option (List ℕ)) → Adds old old []
adds_none None = refl
adds_none (Some bytes) = ap Some (sym (append-nil bytes))

-- a front of what is added first is a front of the whole
pub front_first : (old new : Option (List ℕ)) (x y : List ℕ) → AddsFront old new x
    → AddsFront old new (x ++ y)
front_first old new x y front =
    let n : ℕ = min front.0 (length x) in
    let same : take n (x ++ y) ≡ take front.0 x = take-append-le n x y (omega arith) ∙ take_min front.0 x in
    (n, subst (Adds old new) (sym same) front.1)

-- a fact at an `Err`
pub on_err : {T E P : Type 0} (r : Result T E) → P → OnErr r P
on_err (Ok x) p = tt
on_err (Err e) p = p

-- the front of a list, cut in two
pub take_split : {X : Type 0} (i n : ℕ) (xs : List X) → i ≤ length xs → take (i + n) xs ≡ take i xs
    ++ take n (drop i xs)
take_split i n xs h =
    let front : length (take i xs) ≡ i = length-take-le i xs h in
    ap (take (i + n)) (sym (take-append-drop i xs)) ∙ ap (λ k. take (k + n) (take i xs ++ drop i xs))
    (sym front) ∙ take-append-add (take i xs) (drop i xs) n

-- n more bytes behind the first i, as a slice from i on has them
pub take_on : (i n : ℕ) (xs : List ℕ) → i ≤ length xs → n ≤ length xs - i → take i xs
    ++ take n (take (length xs - i) (drop i xs)) ≡ take (i + n) xs
take_on i n xs h k = ap (λ r. take i xs ++ take n r)
    (take_all (length xs - i) (drop i xs) (omega (arith, length-drop i xs))) ∙ sym (take_split i n xs h)

-- how long that slice is
pub length_rest : (i : ℕ) (xs : List ℕ) → length (take (length xs - i) (drop i xs)) ≡ length xs - i
length_rest i xs = ap length (take_all (length xs - i) (drop i xs) (omega (arith, length-drop i xs))) ∙ length-drop i xs
