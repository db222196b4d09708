-- What words pass by the limits, where so many levels are left, and where they stand one level deeper.
use Rattle.std.proofs.Common.{◌≡◌, ℕ, zero, suc, nat_le, Option, None, Some, cond, refl, ap, ◌∙◌, ◌≤◌, Bool}
use Rattle.std.proofs.Common.{List, ◌++◌, append_assoc, sym, subst, true, false, arith}
use Rattle.std.proofs.lemmas.Bool.{leb-true, leb-false, le-leb}
use Rattle.au_syntax.specs.Words.{Printed}
use Rattle.au_read_expressions.specs.Bounds.{Bounds}
use Rattle.au_parser.specs.Measures.{Measured, plain, lower, some_level, sunk, raised, inside, rooted}
use Rattle.au_parser.specs.Measures.{unknown, not_first, known_late, known_second}
use Rattle.au_parser.specs.Passing.{passed_by, SameMeasure, IsTold, Excess, of_nesting, of_depth}
use Rattle.au_parser.specs.Passing.{of_nodes, of_bytes}
use Rattle.au_parser.proofs.Told.{Passing}
use Rattle.au_parser.proofs.Turns.{Turns, map_turns, root_turns, second_turns, Moves, late_moves}
use Rattle.au_base.specs.declared.limits.Limit.{Limit}
use Rattle.au_base.specs.declared.tokens.Token.{Token}

-- two tests of numbers that say the same
both_by : (a c m n : ℕ) → (a ≤ c → m ≤ n) → (m ≤ n → a ≤ c) → (v u : Bool) → nat_le a c ≡ v → nat_le m n ≡ u → v ≡ u
both_by a c m n h k true true d e = refl
both_by a c m n h k false false d e = refl
both_by a c m n h k true false d e =
    let less = leb-false m n e in let more = h (leb-true a c d) in
    absurd (let wrong : ⊥ = omega (arith, less, more) in wrong)
both_by a c m n h k false true d e =
    let less = leb-false a c d in let more = k (leb-true m n e) in
    absurd (let wrong : ⊥ = omega (arith, less, more) in wrong)

pub both_le : (a c m n : ℕ) → (a ≤ c → m ≤ n) → (m ≤ n → a ≤ c) → nat_le a c ≡ nat_le m n
both_le a c m n h k = both_by a c m n h k (nat_le a c) (nat_le m n) refl refl

-- the tests of a word, one after another
abbrev pub tests : ℕ → Bool → Bool → Bool → Bool → Option Excess
tests before level depth nodes bytes =
    cond level (cond depth (cond nodes (cond bytes None (Some of_bytes)) (Some (of_nodes before))) (Some of_depth))
    (Some of_nesting)

pub plain_none : (b : Bounds) (n : ℕ) (w : Printed) → passed_by b n (plain w) ≡ None
plain_none b n w =
    ap (λ v. tests 0 v (nat_le 0 b.depth) (nat_le 0 b.nodes) (nat_le 0 b.bytes)) (le-leb 0 n (omega arith))
    ∙ ap (λ v. tests 0 true v (nat_le 0 b.nodes) (nat_le 0 b.bytes)) (le-leb 0 b.depth (omega arith))
    ∙ ap (λ v. tests 0 true true v (nat_le 0 b.bytes)) (le-leb 0 b.nodes (omega arith))
    ∙ ap (λ v. tests 0 true true true v) (le-leb 0 b.bytes (omega arith))

-- with more tokens in front the same is told
pub told_more : (b : Bounds) (l : Limit) (us front back : List Token) (what : Excess) → IsTold b what front back l →
    IsTold b what (us ++ front) back l
told_more b l us front back of_nesting h = h
told_more b l us front back of_depth h = h
told_more b l us front back (of_nodes before) h = record {
  others = us ++ h.others;
  begun = h.begun;
  same = ap (λ ts. us ++ ts) h.same ∙ sym (append_assoc us h.others h.begun);
  size = h.size;
  count = h.count;
  nodes = h.nodes;
  limit = h.limit;
}
told_more b l us front back of_bytes h = h

abbrev pub passing : Bounds → ℕ → Passing
passing b n = record {
  of = passed_by b n;
  plain = plain_none b n;
  placed = λ at w. refl;
  told = λ l what front back left. IsTold b what front back l;
  more = λ l what us front back left h. told_more b l us front back what h;
}

-- ---- one level deeper

pub lower_le : (l n : ℕ) → nat_le (lower l) (suc n) ≡ nat_le l n
lower_le zero n = both_le 0 (suc n) 0 n (λ h. omega arith) (λ h. omega arith)
lower_le (suc l) n = both_le (suc (suc l)) (suc n) (suc l) n (λ h. omega (arith, h)) (λ h. omega (arith, h))

pub some_le : (l n : ℕ) → nat_le (some_level l) (suc n) ≡ nat_le l (suc n)
some_le zero n = both_le 1 (suc n) 0 (suc n) (λ h. omega arith) (λ h. omega arith)
some_le (suc l) n = refl

pub first_le : (l n : ℕ) → nat_le (not_first l) (suc n) ≡ nat_le l (suc n)
first_le zero n = refl
first_le (suc zero) n = both_le 0 (suc n) 1 (suc n) (λ h. omega arith) (λ h. omega arith)
first_le (suc (suc l)) n = refl

module _ (b : Bounds) (n : ℕ) where
  sunk_same : (w : Measured) → passed_by b (suc n) (sunk w) ≡ passed_by b n w
  sunk_same w =
      ap (λ v. cond v (cond (nat_le w.depth b.depth) (cond (nat_le w.nodes b.nodes)
      (cond (nat_le w.bytes b.bytes) None (Some of_bytes)) (Some (of_nodes w.before))) (Some of_depth)) (Some of_nesting))
      (lower_le w.level n)

  raised_same : (w : Measured) → passed_by b (suc n) (raised w) ≡ passed_by b (suc n) w
  raised_same w =
      ap (λ v. cond v (cond (nat_le w.depth b.depth) (cond (nat_le w.nodes b.nodes)
      (cond (nat_le w.bytes b.bytes) None (Some of_bytes)) (Some (of_nodes w.before))) (Some of_depth)) (Some of_nesting))
      (some_le w.level n)

  sunk_like : (w v : Measured) → SameMeasure w v → SameMeasure (sunk w) (sunk v)
  sunk_like w v h = (ap lower h.0, h.1)

  pub inside_turns : Turns (passing b n) (passing b (suc n)) inside
  inside_turns = map_turns (passing b n) (passing b (suc n)) sunk (λ w. refl) sunk_same sunk_like (λ l what front back left h. h)

  pub node_turns : Turns (passing b (suc n)) (passing b (suc n)) rooted
  node_turns = root_turns (passing b (suc n)) raised_same

  unknown_same : (w : Measured) → passed_by b (suc n) (unknown w) ≡ passed_by b (suc n) w
  unknown_same w =
      ap (λ v. cond v (cond (nat_le w.depth b.depth) (cond (nat_le w.nodes b.nodes)
      (cond (nat_le w.bytes b.bytes) None (Some of_bytes)) (Some (of_nodes w.before))) (Some of_depth)) (Some of_nesting))
      (first_le w.level n)

  pub late_at : Moves (passing b (suc n)) (passing b (suc n)) known_late
  late_at = late_moves (passing b (suc n)) raised_same unknown_same

  pub call_turns : Turns (passing b (suc n)) (passing b (suc n)) known_second
  call_turns = second_turns (passing b (suc n)) raised_same

-- where a level is left
pub moves_late : (b : Bounds) (n m : ℕ) → n ≡ suc m → Moves (passing b n) (passing b n) known_late
moves_late b n m e = subst (λ k. Moves (passing b k) (passing b k) known_late) (sym e) (late_at b m)
