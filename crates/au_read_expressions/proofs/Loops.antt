-- What the loops over lists of parts keep: what was read stands before what is still read.
use Rattle.std.proofs.Common.{◌≡◌, ℕ, zero, suc, Bool, true, false, List, [], ◌∷◌, ◌++◌, map, drop, Option}
use Rattle.std.proofs.Common.{Ok, Err, refl, sym, ap, ◌∙◌, append_assoc}
use Rattle.std.proofs.lemmas.List.{append-nil, map-append}
use Rattle.std.proofs.lemmas.Bool.{cond-true, cond-false}
use Rattle.au_base.specs.declared.tokens.Token.{Token}
use Rattle.au_base.specs.declared.tokens.What.{What}
use Rattle.au_read_expressions.specs.declared.faults.Fault.{Fault}
use Rattle.au_read_expressions.specs.Reading.{Read, ◌>>=◌, front, begins_with, no, read_of, before_all}
use Rattle.au_read_expressions.specs.Reading.{then_all, repeated_at, after_part, separated_at}

-- one more behind what was read, as contracts see it
pub map_pushed : {X A : Type 0} (see : X → A) (xs ys : List X) (x : X) → ys ≡ xs ++ x ∷ [] →
    map see ys ≡ map see xs ++ see x ∷ []
map_pushed see xs ys x is = ap (map see) is ∙ map-append see xs (x ∷ [])

module _ {A : Type 0} where
  -- what was read, before what is read further
  abbrev pub put_before : List A → List A × List Token → Read (List A)
  put_before read y = Ok (read ++ y.0, y.1)

  abbrev pub with_front : List A → Read (List A) → Read (List A)
  with_front read others = others >>= put_before read

  pub with_none : (r : Read (List A)) → with_front [] r ≡ r
  with_none (Ok y) = refl
  with_none (Err f) = refl

  pub one_more : (read : List A) (x : A) (r : Read (List A)) → with_front read (r >>= before_all x)
      ≡ with_front (read ++ x ∷ []) r
  one_more read x (Ok y) = ap (λ xs. read_of xs y.1) (sym (append_assoc read (x ∷ []) y.0))
  one_more read x (Err f) = refl

  module _ (begins : Option What → Bool) (part : List Token → Read A) where
    pub repeated_on : (read : List A) (x : A) (k j : ℕ) (rest next : List Token) → k ≡ suc j →
        begins (front rest) ≡ true → part rest ≡ Ok (x, next)
        → with_front read (repeated_at begins part k rest) ≡ with_front (read ++ x ∷ [])
        (repeated_at begins part j next)
    repeated_on read x k j rest next is starts one =
        ap (λ n. with_front read (repeated_at begins part n rest)) is
        ∙ ap (with_front read) (cond-true (begins (front rest))
        (part rest >>= then_all (repeated_at begins part j)) (read_of [] rest) starts)
        ∙ ap (λ r. with_front read (r >>= then_all (repeated_at begins part j))) one
        ∙ one_more read x (repeated_at begins part j next)

    pub repeated_fails : (read : List A) (f : Fault) (k j : ℕ) (rest : List Token) → k ≡ suc j →
        begins (front rest) ≡ true → part rest ≡ Err f
        → with_front read (repeated_at begins part k rest) ≡ Err f
    repeated_fails read f k j rest is starts one =
        ap (λ n. with_front read (repeated_at begins part n rest)) is
        ∙ ap (with_front read) (cond-true (begins (front rest))
        (part rest >>= then_all (repeated_at begins part j)) (read_of [] rest) starts)
        ∙ ap (λ r. with_front read (r >>= then_all (repeated_at begins part j))) one

    pub repeated_ends : (read : List A) (k j : ℕ) (rest : List Token) → k ≡ suc j → begins (front rest) ≡ false
        → with_front read (repeated_at begins part k rest) ≡ Ok (read, rest)
    repeated_ends read k j rest is stops =
        ap (λ n. with_front read (repeated_at begins part n rest)) is
        ∙ ap (with_front read) (cond-false (begins (front rest))
        (part rest >>= then_all (repeated_at begins part j)) (read_of [] rest) stops)
        ∙ ap (λ xs. read_of xs rest) (append-nil read)

    pub repeated_over : (read : List A) (k : ℕ) (rest : List Token) → k ≡ zero →
        with_front read (repeated_at begins part k rest) ≡ Ok (read, rest)
    repeated_over read k rest is =
        ap (λ n. with_front read (repeated_at begins part n rest)) is ∙ ap (λ xs. read_of xs rest) (append-nil read)

  module _ (between : What) (part : List Token → Read A) where
    pub separated_on : (read : List A) (x : A) (k j : ℕ) (rest next : List Token) → k ≡ suc j →
        part rest ≡ Ok (x, next) → begins_with between next ≡ true
        → with_front read (separated_at between part k rest) ≡ with_front (read ++ x ∷ [])
        (separated_at between part j (drop 1 next))
    separated_on read x k j rest next is one more =
        ap (λ n. with_front read (separated_at between part n rest)) is
        ∙ ap (λ r. with_front read (r >>= after_part between (separated_at between part j))) one
        ∙ ap (with_front read) (cond-true (begins_with between next)
        (separated_at between part j (drop 1 next) >>= before_all x) (read_of (x ∷ []) next) more)
        ∙ one_more read x (separated_at between part j (drop 1 next))

    pub separated_ends : (read : List A) (x : A) (k j : ℕ) (rest next : List Token) → k ≡ suc j →
        part rest ≡ Ok (x, next) → begins_with between next ≡ false
        → with_front read (separated_at between part k rest) ≡ Ok (read ++ x ∷ [], next)
    separated_ends read x k j rest next is one last =
        ap (λ n. with_front read (separated_at between part n rest)) is
        ∙ ap (λ r. with_front read (r >>= after_part between (separated_at between part j))) one
        ∙ ap (with_front read) (cond-false (begins_with between next)
        (separated_at between part j (drop 1 next) >>= before_all x) (read_of (x ∷ []) next) last)

    pub separated_fails : (read : List A) (f : Fault) (k j : ℕ) (rest : List Token) → k ≡ suc j → part rest ≡ Err f
        → with_front read (separated_at between part k rest) ≡ Err f
    separated_fails read f k j rest is one =
        ap (λ n. with_front read (separated_at between part n rest)) is
        ∙ ap (λ r. with_front read (r >>= after_part between (separated_at between part j))) one

    pub separated_over : (read : List A) (k : ℕ) (rest : List Token) → k ≡ zero →
        with_front read (separated_at between part k rest) ≡ no rest
    separated_over read k rest is = ap (λ n. with_front read (separated_at between part n rest)) is
