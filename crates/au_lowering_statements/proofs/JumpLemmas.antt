-- Jumps to an end that is found later.
use Rattle.std.proofs.Common.{◌≡◌, ◌≢◌, ℕ, ◌+◌, ◌<◌, ◌≤◌, Bool, true, false, ◌||◌, not, List, [], ◌∷◌, ◌++◌}
use Rattle.std.proofs.Common.{drop, get_or, length, set, Option, Some, None, refl, sym, ap, subst, ◌∙◌, arith}
use Rattle.std.proofs.lemmas.List.{append-nil, at_drop_more, append_assoc, length-append, length-set}
use Rattle.std.proofs.lemmas.List.{length_push, set_at, set_comm, set-append_left}
use Rattle.au_low.specs.declared.instructions.Instr.TheVariants.{Jump, JumpNot}
use Rattle.au_lowered.specs.Drafts.{Draft, plain, Written, ◌>>◌, nothing, one, does, unless, count_unless, when}
use Rattle.au_lowering_expressions.specs.Wrote.{wrote}
use Rattle.au_lowering_expressions.proofs.WroteLemmas.{wrote_nothing, wrote_row}
use Rattle.au_lowering_statements.specs.Ends.{AllBelow, Apart, Holed, branch_upto, first_to, with_jumps}
use Rattle.au_lowering_statements.proofs.HoleLemmas.{head_written, put_length}

pub wrote_longer : (w : Written) (d : List Draft) → length d ≤ length (wrote w d)
unfolding wrote
wrote_longer w d = omega (arith, length-append d (w (length d)))

pub all_below_more : (all : List ℕ) (n k : ℕ) → n ≤ k → AllBelow all n → AllBelow all k
all_below_more [] n k le b = tt
all_below_more (at ∷ rest) n k le b = (omega (arith, b.0), all_below_more rest n k le b.1)

below_push : (all : List ℕ) (n k : ℕ) → n < k → AllBelow all n → AllBelow (all ++ n ∷ []) k
below_push [] n k lt b = (lt, tt)
below_push (at ∷ rest) n k lt b = (omega (arith, b.0), below_push rest n k lt b.1)

pub apart_below : (all : List ℕ) (n : ℕ) → AllBelow all n → Apart n all
apart_below [] n b = tt
apart_below (at ∷ rest) n b = (omega (arith, b.0), apart_below rest n b.1)

apart_push : (all : List ℕ) (p n : ℕ) → p < n → Apart p all → Apart p (all ++ n ∷ [])
apart_push [] p n lt a = (omega arith, tt)
apart_push (at ∷ rest) p n lt a = (a.0, apart_push rest p n lt a.1)

module _ (m : ℕ) where
  pub jumps_length : (all : List ℕ) (d : List Draft) → length (with_jumps m all d) ≡ length d
  jumps_length [] d = refl
  jumps_length (at ∷ rest) d =
      jumps_length rest (set d at (plain (Jump m))) ∙ length-set d at (plain (Jump m))

  pub jumps_join : (xs ys : List ℕ) (d : List Draft)
      → with_jumps m (xs ++ ys) d ≡ with_jumps m ys (with_jumps m xs d)
  jumps_join [] ys d = refl
  jumps_join (at ∷ rest) ys d = jumps_join rest ys (set d at (plain (Jump m)))

  -- what is written behind the jumps stays
  pub jumps_under : (w : Written) (all : List ℕ) (d : List Draft) → AllBelow all (length d)
      → with_jumps m all (wrote w d) ≡ wrote w (with_jumps m all d)
  unfolding wrote
  jumps_under w [] d b = refl
  jumps_under w (at ∷ rest) d b =
      let filled = set d at (plain (Jump m)) in
      let long : length filled ≡ length d = length-set d at (plain (Jump m)) in
      ap (with_jumps m rest)
      (set-append_left d (w (length d)) at (plain (Jump m)) b.0 ∙ ap (λ n. filled ++ w n) (sym long))
      ∙ jumps_under w rest filled (subst (AllBelow rest) (sym long) b.1)

  -- so does what stands in another place
  pub jumps_apart : (p : ℕ) (x : Draft) (all : List ℕ) (d : List Draft) → Apart p all
      → with_jumps m all (set d p x) ≡ set (with_jumps m all d) p x
  jumps_apart p x [] d a = refl
  jumps_apart p x (at ∷ rest) d a =
      ap (with_jumps m rest) (set_comm d p at x (plain (Jump m)) a.0)
      ∙ jumps_apart p x rest (set d at (plain (Jump m))) a.1

-- the first of the jumps that are left is filled
pub jumps_more : (m : ℕ) (xs : List ℕ) (i : ℕ) (d : List Draft) → i < length xs
    → with_jumps m (drop i xs) d ≡ with_jumps m (drop (i + 1) xs) (set d (get_or xs i 0) (plain (Jump m)))
jumps_more m xs i d inside = at_drop_more (λ rest. with_jumps m rest d) xs i 0 inside

-- code without jumps to the end
pub holed_plain : (w : Written) (jumps : List ℕ) (before after : List Draft) → after ≡ wrote w before
    → Holed (λ m. w) jumps before jumps after
holed_plain w jumps before after is =
    let long : length before ≤ length after = omega (arith, wrote_longer w before, ap length is) in
    record {
      longer = long;
      below = λ b. all_below_more jumps (length before) (length after) long b;
      apart = λ p h a. a;
      filled = λ b m. ap (with_jumps m jumps) is ∙ jumps_under m w jumps before b;
    }

-- one piece behind another
pub holed_row : (v w : ℕ → Written) (j0 j1 j2 : List ℕ) (d0 d1 d2 : List Draft)
    → Holed v j0 d0 j1 d1 → Holed w j1 d1 j2 d2 → Holed (λ m. v m >> w m) j0 d0 j2 d2
holed_row v w j0 j1 j2 d0 d1 d2 first second = record {
  longer = omega (arith, first.longer, second.longer);
  below = λ b. second.below (first.below b);
  apart = λ p h a. second.apart p (omega (arith, h, first.longer)) (first.apart p h a);
  filled = λ b m.
      second.filled (first.below b) m ∙ ap (wrote (w m)) (first.filled b m)
      ∙ sym (wrote_row (v m) (w m) (with_jumps m j0 d0));
}

pub holed_nothing : (jumps : List ℕ) (d : List Draft) → Holed (λ m. nothing) jumps d jumps d
holed_nothing jumps d = holed_plain nothing jumps d d (sym (wrote_nothing d))

-- a jump to the end, unless it isn't needed
pub holed_none : (unneeded : Bool) (jumps : List ℕ) (d : List Draft) → unneeded ≡ true
    → Holed (λ m. unless unneeded (Jump m)) jumps d jumps d
holed_none unneeded jumps d is =
    subst (λ u. Holed (λ m. unless u (Jump m)) jumps d jumps d) (sym is) (holed_nothing jumps d)

jump_filled : (m : ℕ) (jumps : List ℕ) (d : List Draft) → AllBelow jumps (length d)
    → with_jumps m (jumps ++ length d ∷ []) (wrote (does (Jump 0)) d)
    ≡ wrote (does (Jump m)) (with_jumps m jumps d)
unfolding wrote
jump_filled m jumps d b =
    jumps_join m jumps (length d ∷ []) (d ++ plain (Jump 0) ∷ [])
    ∙ ap (λ x. set x (length d) (plain (Jump m))) (jumps_under m (does (Jump 0)) jumps d b)
    ∙ set_at (with_jumps m jumps d) (plain (Jump 0)) [] (plain (Jump m)) (length d) (jumps_length m jumps d)

hole_put : (jumps : List ℕ) (d : List Draft)
    → Holed (λ m. does (Jump m)) jumps d (jumps ++ length d ∷ []) (wrote (does (Jump 0)) d)
hole_put jumps d =
    let grown : length (wrote (does (Jump 0)) d) ≡ length d + 1 = put_length (plain (Jump 0)) d in
    record {
      longer = omega (arith, grown);
      below = λ b. below_push jumps (length d) (length (wrote (does (Jump 0)) d)) (omega (arith, grown)) b;
      apart = λ p h a. apart_push jumps p (length d) h a;
      filled = λ b m. jump_filled m jumps d b;
    }

pub holed_some : (unneeded : Bool) (jumps all : List ℕ) (before after : List Draft) → unneeded ≡ false
    → all ≡ jumps ++ length before ∷ [] → after ≡ wrote (does (Jump 0)) before
    → Holed (λ m. unless unneeded (Jump m)) jumps before all after
holed_some unneeded jumps all before after is more grows =
    subst (λ u. Holed (λ m. unless u (Jump m)) jumps before all after) (sym is)
    (subst (λ a. Holed (λ m. does (Jump m)) jumps before a after) (sym more)
    (subst (λ x. Holed (λ m. does (Jump m)) jumps before (jumps ++ length before ∷ []) x) (sym grows)
    (hole_put jumps before)))

-- ---- branches

pub unless_length : (u : Bool) (m p : ℕ) → length (unless u (Jump m) p) ≡ count_unless u
unless_length true m p = refl
unless_length false m p = refl

unless_place : (u : Bool) (m p q : ℕ) → unless u (Jump m) p ≡ unless u (Jump m) q
unless_place true m p q = refl
unless_place false m p q = refl

-- what a branch is behind its test: the block, and its jump where something follows
abbrev pub rest_upto : Bool → Bool → ℕ → Written → Written
rest_upto followed returns m a = a >> unless (returns || not followed) (Jump m)

branch_is : (followed returns : Bool) (m : ℕ) (a : Written) (d : List Draft)
    → d ++ (plain (JumpNot (length d + 1 + length (rest_upto followed returns m a (length d + 1))))
    ∷ rest_upto followed returns m a (length d + 1))
    ≡ wrote (branch_upto followed returns m a) d
unfolding wrote
branch_is true true m a d =
    let chosen = a (length d + 1) in
    let none : chosen ++ [] ≡ chosen = append-nil chosen in
    let same : length d + 1 + length chosen ≡ length d + 1 + length chosen + 0 = omega arith in
    ap (λ x. d ++ (plain (JumpNot (length d + 1 + length x)) ∷ (chosen ++ []))) none
    ∙ ap (λ l. d ++ (plain (JumpNot l) ∷ (chosen ++ []))) same
branch_is true false m a d =
    let chosen = a (length d + 1) in
    let same : length d + 1 + length (chosen ++ plain (Jump m) ∷ []) ≡ length d + 1 + length chosen + 1 =
    omega (arith, length_push chosen (plain (Jump m))) in
    ap (λ l. d ++ (plain (JumpNot l) ∷ (chosen ++ plain (Jump m) ∷ []))) same
branch_is false true m a d =
    ap (λ x. d ++ (plain (JumpNot (length d + 1 + length x)) ∷ x)) (append-nil (a (length d + 1)))
branch_is false false m a d =
    ap (λ x. d ++ (plain (JumpNot (length d + 1 + length x)) ∷ x)) (append-nil (a (length d + 1)))

-- a branch is written behind a hole for its test, and then the hole is filled
pub holed_branch : (followed returns : Bool) (a : Written) (j0 j2 : List ℕ) (d d1 d2 d3 d4 : List Draft)
    (at : ℕ)
    → at ≡ length d → d1 ≡ wrote (does (JumpNot 0)) d → d2 ≡ wrote a d1
    → Holed (λ m. unless (returns || not followed) (Jump m)) j0 d2 j2 d3
    → d4 ≡ set d3 at (plain (JumpNot (length d3)))
    → Holed (λ m. branch_upto followed returns m a) j0 d j2 d4
holed_branch followed returns a j0 j2 d d1 d2 d3 d4 at here first block jump ended =
    let one_more = holed_plain (does (JumpNot 0)) j0 d d1 first in
    let two_more = holed_plain a j0 d1 d2 block in
    let inner = holed_row (λ m. a) (λ m. unless (returns || not followed) (Jump m)) j0 j0 j2 d1 d2 d3
    two_more jump in
    let same : length d4 ≡ length d3 = ap length ended ∙ length-set d3 at (plain (JumpNot (length d3))) in
    let grown : length d1 ≡ length d + 1 = ap length first ∙ put_length (plain (JumpNot 0)) d in
    record {
      longer = omega (arith, one_more.longer, inner.longer, same);
      below = λ b. subst (AllBelow j2) (sym same) (inner.below (one_more.below b));
      apart = λ p h x. inner.apart p (omega (arith, h, one_more.longer)) x;
      filled = λ b m.
          let free : Apart (length d) j2 =
          inner.apart (length d) (omega (arith, grown)) (apart_below j0 (length d) b) in
          let many : length (with_jumps m j2 d3) ≡ length d3 = jumps_length m j2 d3 in
          let size : length (with_jumps m j0 d) ≡ length d = jumps_length m j0 d in
          let under : with_jumps m j0 d1 ≡ wrote (does (JumpNot 0)) (with_jumps m j0 d) = one_more.filled b
          m in
          let rest : with_jumps m j2 d3 ≡ wrote (rest_upto followed returns m a) (with_jumps m j0 d1) =
          inner.filled (one_more.below b) m in
          let patched : with_jumps m j2 d4
          ≡ set (with_jumps m j2 d3) (length d) (plain (JumpNot (length (with_jumps m j2 d3)))) =
          ap (with_jumps m j2) (ended ∙ ap (λ p. set d3 p (plain (JumpNot (length d3)))) here)
          ∙ jumps_apart m (length d) (plain (JumpNot (length d3))) j2 d3 free
          ∙ ap (λ n. set (with_jumps m j2 d3) (length d) (plain (JumpNot n))) (sym many) in
          head_written JumpNot (plain (JumpNot 0)) (rest_upto followed returns m a) (with_jumps m j0 d)
          (with_jumps m j0 d1) (with_jumps m j2 d3) (with_jumps m j2 d4) (length d) (sym size) under rest
          patched
          ∙ branch_is followed returns m a (with_jumps m j0 d);
    }
