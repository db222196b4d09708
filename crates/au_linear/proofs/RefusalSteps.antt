-- What is told of one variable, by first places and a trimmed path.
use Rattle.std.proofs.Common.{◌≡◌, ◌≢◌, ℕ, zero, suc, ◌+◌, ◌-◌, ◌<◌, ◌≤◌, List, [], ◌∷◌, ◌++◌, length, take}
use Rattle.std.proofs.Common.{get_or, refl, sym, ap, ◌∙◌, arith, Option, None, Some}
use Rattle.std.proofs.lemmas.List.{take_more}
use Rattle.au_base.specs.declared.places.Pos.{Pos}
use Rattle.au_syntax.specs.Plain.{Bytes, PlainStatements}
use Rattle.au_lives.specs.declared.lives.Sort.{Sort}
use Rattle.au_lives.specs.Places.{loop_places, part_places}
use Rattle.au_lives.specs.Refusals.{Refusal, in_loop, in_part, at_first, by_walk, refusal}
use Rattle.au_lives.specs.Trimming.{before, without_zeros}
use Rattle.au_lives.specs.Walks.{checked}
use Rattle.au_linear.specs.Firsts.{first_of}

-- what a first place tells, or else the other
abbrev pub first_tells : Option Pos → (Pos → Refusal) → Option Refusal → Option Refusal
first_tells None tell other = other
first_tells (Some at) tell other = Some (tell at)

told_first : (places : List Pos) (tell : Pos → Refusal) (other : Option Refusal) →
    at_first places tell other ≡ first_tells (first_of places) tell other
told_first [] tell other = refl
told_first (at ∷ rest) tell other = refl

pub by_firsts : (x : Bytes) (sort : Sort) (b : PlainStatements) →
    refusal x sort b
    ≡ first_tells (first_of (loop_places x sort b)) in_loop
    (first_tells (first_of (part_places x sort b)) in_part (by_walk (checked x sort b)))
by_firsts x sort b =
    told_first (loop_places x sort b) in_loop (at_first (part_places x sort b) in_part (by_walk (checked x sort b)))
    ∙ ap (first_tells (first_of (loop_places x sort b)) in_loop)
    (told_first (part_places x sort b) in_part (by_walk (checked x sort b)))

zero_end : (ns : List ℕ) → without_zeros (ns ++ 0 ∷ []) ≡ without_zeros ns
zero_end [] = refl
zero_end (n ∷ ns) = ap (before n) (zero_end ns)

before_some : (m : ℕ) (ns : List ℕ) (n : ℕ) → before m (ns ++ n ∷ []) ≡ m ∷ (ns ++ n ∷ [])
before_some m [] n = refl
before_some m (k ∷ ns) n = refl

other_end : (ns : List ℕ) (n : ℕ) → n ≢ 0 → without_zeros (ns ++ n ∷ []) ≡ ns ++ n ∷ []
other_end [] zero h = absurd (h refl)
other_end [] (suc n) h = refl
other_end (m ∷ ns) n h = ap (before m) (other_end ns n h) ∙ before_some m ns n

last_split : (ns : List ℕ) (n d : ℕ) → 0 < n → n ≤ length ns → take n ns ≡ take (n - 1) ns ++ get_or ns (n - 1) d ∷ []
last_split ns n d some within =
    let e : (n - 1) + 1 ≡ n = omega (arith, some) in
    ap (λ k. take k ns) (sym e) ∙ take_more ns (n - 1) d (omega (arith, some, within))

-- a zero at the end goes
pub zero_goes : (ns : List ℕ) (n d : ℕ) → 0 < n → n ≤ length ns → get_or ns (n - 1) d ≡ 0 → (all : List ℕ) →
    without_zeros (take n ns) ≡ all → without_zeros (take (n - 1) ns) ≡ all
zero_goes ns n d some within z all h =
    sym (zero_end (take (n - 1) ns))
    ∙ sym (ap without_zeros (last_split ns n d some within ∙ ap (λ k. take (n - 1) ns ++ k ∷ []) z))
    ∙ h

-- another number stays, with all before it
pub other_stays : (ns : List ℕ) (n d : ℕ) → 0 < n → n ≤ length ns → get_or ns (n - 1) d ≢ 0 → (all : List ℕ) →
    without_zeros (take n ns) ≡ all → all ≡ take n ns
other_stays ns n d some within z all h =
    let e = last_split ns n d some within in
    sym h ∙ ap without_zeros e ∙ other_end (take (n - 1) ns) (get_or ns (n - 1) d) z ∙ sym e
