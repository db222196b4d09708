-- Sums, differences and products of numbers that differ by multiples of one number.
use Rattle.std.proofs.Common.{◌≡◌, ℕ, ◌+◌, ◌-◌, ◌*◌, ◌/◌, ◌%◌, ◌<◌, ◌≤◌, ap, sym, ◌∙◌, arith, ℤ, pos, negsuc}
use Rattle.std.proofs.Common.{◌+ℤ◌, ◌-ℤ◌, ◌*ℤ◌, neg_ℤ}
use Rattle.std.proofs.lemmas.Int.{ints}
use Rattle.std.proofs.lemmas.Nat.{div-add-mod'}
use Rattle.std.specs.Int.{int_rem_euclid}
use borrow.Author.Differences.{up, down, same_in, sum_is_lem, product_is, neg_is}
use Rattle.au_ints.specs.declared.operations.WrapOp.{WrapOp}
use Rattle.au_ints.specs.declared.operations.WrapOp.TheVariants as wrap_op
use Rattle.au_ints.specs.Operations.{exact, unwrapped, IsCongruent}

-- both sides of an equation, times a number
times : (k : ℕ) (m n : ℕ) → m ≡ n → m * k ≡ n * k
times k m n e = ap (λ x. x * k) e

-- a product with a sum
pub times_sum : (k l m : ℤ) → (k +ℤ l) *ℤ m ≡ (k *ℤ m) +ℤ (l *ℤ m)
times_sum k l m =
    let sum = sum_is_lem k l in
    let whole = product_is (k +ℤ l) m in
    let left = product_is k m in
    let right = product_is l m in
    let both = sum_is_lem (k *ℤ m) (l *ℤ m) in
    same_in _ _ (omega (
      arith,
      whole.0,
      whole.1,
      left.0,
      left.1,
      right.0,
      right.1,
      both,
      times (up m) _ _ sum,
      times (down m) _ _ sum,
    ))

-- a product of three
pub times_times : (k l m : ℤ) → (k *ℤ l) *ℤ m ≡ k *ℤ (l *ℤ m)
times_times k l m =
    let inner_left = product_is k l in
    let inner_right = product_is l m in
    let left = product_is (k *ℤ l) m in
    let right = product_is k (l *ℤ m) in
    let ups : up ((k *ℤ l) *ℤ m) ≡ up (k *ℤ (l *ℤ m)) =
    omega (
      arith,
      left.0,
      right.0,
      times (up m) _ _ inner_left.0,
      times (down m) _ _ inner_left.1,
      times (up k) _ _ inner_right.0,
      times (down k) _ _ inner_right.1,
    ) in
    let downs : down ((k *ℤ l) *ℤ m) ≡ down (k *ℤ (l *ℤ m)) =
    omega (
      arith,
      left.1,
      right.1,
      times (down m) _ _ inner_left.0,
      times (up m) _ _ inner_left.1,
      times (down k) _ _ inner_right.0,
      times (up k) _ _ inner_right.1,
    ) in
    same_in _ _ (omega (arith, ups, downs))

-- the order of the factors is free
pub times_turned : (k l : ℤ) → k *ℤ l ≡ l *ℤ k
times_turned k l = omega (arith, ints)

-- a multiple of the opposite
pub times_opposite : (k m : ℤ) → neg_ℤ k *ℤ m ≡ neg_ℤ (k *ℤ m)
times_opposite k m =
    let turned = neg_is k in
    let whole = product_is (neg_ℤ k) m in
    let part = product_is k m in
    let back = neg_is (k *ℤ m) in
    same_in _ _ (omega (
      arith,
      whole.0,
      whole.1,
      part.0,
      part.1,
      back.0,
      back.1,
      times (up m) _ _ turned.0,
      times (down m) _ _ turned.0,
      times (up m) _ _ turned.1,
      times (down m) _ _ turned.1,
    ))

-- each number differs from itself by no multiple
pub congruent_same : (m : ℕ) (a b : ℤ) → a ≡ b → IsCongruent m a b
congruent_same m a b e = record { turns = pos 0; differs = omega (arith, ints) }

-- two multiples make one
pub congruent_then : (m : ℕ) (a b c : ℤ) → IsCongruent m a b → IsCongruent m b c → IsCongruent m a c
congruent_then m a b c p q = record {
  turns = p.turns +ℤ q.turns;
  differs =
      omega (arith, ints, p.differs, q.differs, times_sum p.turns q.turns (pos m));
}

-- a multiple on either side
pub congruent_back : (m : ℕ) (a b : ℤ) → IsCongruent m a b → IsCongruent m b a
congruent_back m a b p = record
    { turns = neg_ℤ p.turns; differs = omega (arith, ints, p.differs, times_opposite p.turns (pos m)) }

-- sums, differences and products
pub congruent_sum : (m : ℕ) (a b x y : ℤ) → IsCongruent m a x → IsCongruent m b y → IsCongruent m (a +ℤ b) (x +ℤ y)
congruent_sum m a b x y p q = record {
  turns = p.turns +ℤ q.turns;
  differs =
      omega (arith, ints, p.differs, q.differs, times_sum p.turns q.turns (pos m));
}

pub congruent_difference : (m : ℕ) (a b x y : ℤ) → IsCongruent m a x → IsCongruent m b y →
    IsCongruent m (a -ℤ b) (x -ℤ y)
congruent_difference m a b x y p q =
    record {
      turns = p.turns +ℤ neg_ℤ q.turns;
      differs =
          omega (
            arith,
            ints,
            p.differs,
            q.differs,
            times_sum p.turns (neg_ℤ q.turns) (pos m),
            times_opposite q.turns (pos m),
          );
    }

congruent_first : (m : ℕ) (a b x : ℤ) → IsCongruent m a x → IsCongruent m (a *ℤ b) (x *ℤ b)
congruent_first m a b x p = record {
  turns = p.turns *ℤ b;
  differs = ap (λ z. z *ℤ b) p.differs ∙ times_sum a (p.turns *ℤ pos m) b
      ∙ ap (λ z. (a *ℤ b) +ℤ z) (times_times p.turns (pos m) b
      ∙ ap (λ z. p.turns *ℤ z) (times_turned (pos m) b) ∙ sym (times_times p.turns b (pos m)));
}

pub congruent_product : (m : ℕ) (a b x y : ℤ) → IsCongruent m a x → IsCongruent m b y → IsCongruent m (a *ℤ b) (x *ℤ y)
congruent_product m a b x y p q =
    let first = congruent_first m a b x p in
    let second = congruent_first m b x y q in
    let turned : IsCongruent m (x *ℤ b) (x *ℤ y) = congruent_then m (x *ℤ b) (b *ℤ x) (x *ℤ y)
    (congruent_same m _ _ (times_turned x b))
    (congruent_then m (b *ℤ x) (y *ℤ x) (x *ℤ y) second (congruent_same m _ _ (times_turned y x))) in
    congruent_then m (a *ℤ b) (x *ℤ b) (x *ℤ y) first turned

-- what a division by m leaves
pub congruent_rest : (m n : ℕ) → IsCongruent m (pos n) (pos (n % m))
congruent_rest m n = record {
  turns = neg_ℤ (pos (n / m));
  differs =
      omega (arith, ints, div-add-mod' n m, times_opposite (pos (n / m)) (pos m));
}

-- and what is left of a number of either sign
pub congruent_residue : (m : ℕ) (z : ℤ) → 0 < m → IsCongruent m z (int_rem_euclid z (pos m))
congruent_residue m (pos n) some = congruent_rest m n
congruent_residue m (negsuc n) some =
    record { turns = pos (n / m + 1); differs = omega (arith, ints, div-add-mod' n m) }

-- the results of an operation on numbers that differ by multiples
pub congruent_exact : (op : WrapOp) (m : ℕ) (a b x y : ℤ) → IsCongruent m a x → IsCongruent m b y →
    IsCongruent m (exact (unwrapped op) a b) (exact (unwrapped op) x y)
congruent_exact wrap_op.Add m a b x y p q = congruent_sum m a b x y p q
congruent_exact wrap_op.Subtract m a b x y p q = congruent_difference m a b x y p q
congruent_exact wrap_op.Multiply m a b x y p q = congruent_product m a b x y p q

-- the results on residues: a sum, a difference that is lifted by m, and a product
pub congruent_added : (op : WrapOp) (m first second : ℕ) → op ≡ wrap_op.Add →
    IsCongruent m (exact (unwrapped op) (pos first) (pos second)) (pos ((first + second) % m))
congruent_added wrap_op.Add m first second e = congruent_rest m (first + second)
congruent_added wrap_op.Subtract m first second e = cc
congruent_added wrap_op.Multiply m first second e = cc

pub congruent_subtracted : (op : WrapOp) (m first second : ℕ) → op ≡ wrap_op.Subtract → second ≤ m →
    IsCongruent m (exact (unwrapped op) (pos first) (pos second)) (pos ((first + (m - second)) % m))
congruent_subtracted wrap_op.Add m first second e small = cc
congruent_subtracted wrap_op.Subtract m first second e small =
    let lifted : IsCongruent m (pos first -ℤ pos second) (pos (first + (m - second))) =
    record { turns = pos 1; differs = omega (arith, ints) } in
    congruent_then m (pos first -ℤ pos second) (pos (first + (m - second))) (pos ((first + (m - second)) % m))
    lifted (congruent_rest m (first + (m - second)))
congruent_subtracted wrap_op.Multiply m first second e small = cc

pub congruent_multiplied : (op : WrapOp) (m first second : ℕ) → op ≡ wrap_op.Multiply →
    IsCongruent m (exact (unwrapped op) (pos first) (pos second)) (pos (first * second % m))
congruent_multiplied wrap_op.Add m first second e = cc
congruent_multiplied wrap_op.Subtract m first second e = cc
congruent_multiplied wrap_op.Multiply m first second e = congruent_rest m (first * second)
