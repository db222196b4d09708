-- Fields that are each bound once, from the test of it.
use Rattle.std.proofs.Common.{◌≡◌, ℕ, ◌+◌, ◌≤◌, Bool, true, false, List, [], ◌∷◌, map, refl, sym, ap, subst}
use Rattle.std.proofs.Common.{◌∙◌, arith, ◌==◌, cond}
use Rattle.std.specs.List.{count_by, list_all, list_any}
use Rattle.std.specs.Str.{bytes_eq}
use Rattle.std.proofs.lemmas.List.Sums.{sum_by-cons}
use Rattle.std.proofs.lemmas.Slice.Eq.{bytes_eq-Decides}
use Rattle.au_syntax.specs.Plain.{Bytes}
use Rattle.au_syntax.specs.Types.{Bound}
use Rattle.au_typing.specs.Scopes.{Typed}
use Rattle.au_typing.specs.Parts.{binds_each}
use Rattle.au_lowered.specs.Binds.{fields_bound}
use Rattle.au_lowered.specs.Premises.{Lacks, Once}

-- how often a name stands in a list
abbrev times : Bytes → List Bytes → ℕ
times name all = count_by (bytes_eq name) all

-- one more name stands there once more, where it is the same
times_more : (name other : Bytes) (rest : List Bytes)
    → times name (other ∷ rest) ≡ cond (bytes_eq name other) 1 0 + times name rest
times_more name other rest = sum_by-cons (λ x. cond (bytes_eq name x) 1 0) other rest

none_more : (a : ℕ) → 0 + a ≡ 0 → a ≡ 0
none_more a e = grind arith

no_more : (a : ℕ) → 1 + a ≡ 0 → ⊥
no_more a e = grind arith

-- what doesn't stand in a list, the list lacks
lacking : (name : Bytes) (all : List Bytes) → times name all ≡ 0 → Lacks name all
lacking name [] e = tt
lacking name (other ∷ rest) e = by_test (bytes_eq name other) refl (lacking name rest)
  where
    by_test : (b : Bool) → bytes_eq name other ≡ b → (times name rest ≡ 0 → Lacks name rest)
        → Lacks name (other ∷ rest)
    by_test true is more =
        absurd (no_more (times name rest)
        (sym (ap (λ b. cond b 1 0 + times name rest) is) ∙ sym (times_more name other rest) ∙ e))
    by_test false is more = (
      is,
      more (none_more (times name rest)
          (sym (ap (λ b. cond b 1 0 + times name rest) is) ∙ sym (times_more name other rest) ∙ e)),
    )

-- what one of some names is that each stand once in a list stands once in it
stands_once : (all names : List Bytes) → list_all (λ name. times name all == 1) names ≡ true
    → (one : Bytes) → list_any (bytes_eq one) names ≡ true → times one all ≡ 1
stands_once all [] each one is = absurd cc
stands_once all (name ∷ names) each one is =
    by_test (bytes_eq one name) refl (stands_once all names (grind (arith, each)) one)
  where
    by_test : (b : Bool) → bytes_eq one name ≡ b → (list_any (bytes_eq one) names ≡ true → times one all ≡ 1)
        → times one all ≡ 1
    by_test true same more = grind (arith, each, same, bytes_eq-Decides one name)
    by_test false other more = more (grind (arith, is, other))

-- of what stands once in all, none is left where one is taken
at_most : (a b : ℕ) → 1 + a ≤ b → b ≡ 1 → a ≡ 0
at_most a b le is = grind arith

fewer_yet : (one a b : ℕ) → one + a ≤ b → a ≤ b
fewer_yet one a b le = grind arith

-- names that are among those are each there once
once_among : (names all some : List Bytes) → list_all (λ name. times name all == 1) names ≡ true
    → list_all (λ other. list_any (bytes_eq other) names) some ≡ true
    → ((x : Bytes) → times x some ≤ times x all) → Once some
once_among names all [] each among fewer = tt
once_among names all (one ∷ rest) each among fewer =
    let is = stands_once all names each one (grind (arith, among)) in
    let itself : bytes_eq one one ≡ true = grind (arith, bytes_eq-Decides one one) in
    let none : times one rest ≡ 0 = at_most (times one rest) (times one all)
    (subst (λ b. cond b 1 0 + times one rest ≤ times one all) itself
    (subst (λ n. n ≤ times one all) (times_more one one rest) (fewer one))) is in (
      lacking one rest none,
      once_among names all rest each (grind (arith, among))
          (λ x. fewer_yet (cond (bytes_eq x one) 1 0) (times x rest) (times x all)
          (subst (λ n. n ≤ times x all) (times_more x one rest) (fewer x))),
    )

-- fields that are each bound once have names of their own
pub binds_once : (fields : List Typed) (binds : List (Bound Bytes)) → binds_each fields binds ≡ true
    → Once (fields_bound binds)
binds_once fields binds each =
    let names = map (λ (field : Typed). field.name) fields in
    let all = fields_bound binds in
    once_among names all all (grind (arith, each)) (grind (arith, each)) (λ x. grind arith)
