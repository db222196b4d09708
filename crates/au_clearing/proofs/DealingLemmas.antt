-- Numbers and touches of dealings that are put together.
use Rattle.std.proofs.Common.{◌≡◌, ◌≢◌, ℕ, zero, suc, ◌+◌, ◌≤◌, ◌<◌, Bool, true, false, refl, ap, arith, if◌then◌else◌}
use Rattle.au_syntax.specs.declared.types.Access.{Access}
use Rattle.au_lives.specs.Lives.{Hold, unlent, read_lent, write_lent, hidden}
use Rattle.au_lives.specs.Choices.{counted}
use Rattle.au_clearing.specs.Touches.{behind_spent}
use Rattle.au_clearing.specs.Dealings.{Dealing, sum, chain, fork, turns, lend, lend_by}
use Rattle.au_clearing.proofs.TouchLemmas.{rank, two, worse_rank, behind_rank, kept_above, lent_rank}

-- the most that can be counted
abbrev pub most : ℕ
most = 18446744073709551615

pub sum_exact : (m n : ℕ) → sum m n < most → sum m n ≡ m + n
sum_exact zero n h = omega arith
sum_exact (suc m) n h = omega (arith, h)

pub sum_small : (m n : ℕ) → m ≤ most → n ≤ most → sum m n ≤ most
sum_small zero n g h = h
sum_small (suc m) n g h = omega arith

pub sum_within : (a b m n : ℕ) → a ≤ m → b ≤ n → n ≤ most → sum a b ≤ sum m n
sum_within zero b zero n g h s = h
sum_within zero b (suc m) n g h s = omega (arith, h, s)
sum_within (suc a) b zero n g h s = absurd (omega (arith, g))
sum_within (suc a) b (suc m) n g h s = omega (arith, g, h)

pub if_within : (b : Bool) (a n : ℕ) → a ≤ n → (if b then a else n) ≤ n
if_within true a n h = h
if_within false a n h = omega arith

-- Touches of what is put together are no less.

pub chain_ranks : (n : ℕ) (d e : Dealing) (r : ℕ) → rank (chain n d e).touch ≤ r →
    (rank d.touch ≤ r) × (rank (behind_spent d.spends e.touch) ≤ r)
chain_ranks n d e r h =
    two _ _ _ (worse_rank d.touch (behind_spent d.spends e.touch)) r h

pub chain_second : (n : ℕ) (d e : Dealing) (r : ℕ) → rank (chain n d e).touch ≤ r → rank e.touch ≤ r
chain_second n d e r h =
    let b = behind_rank d.spends e.touch in
    omega (arith, b, (chain_ranks n d e r h).1)

pub fork_ranks : (d e : Dealing) (r : ℕ) → rank (fork d e).touch ≤ r → (rank d.touch ≤ r) × (rank e.touch ≤ r)
fork_ranks d e r h = two _ _ _ (worse_rank d.touch e.touch) r h

pub turns_rank : (d : Dealing) (r : ℕ) → rank (turns d).touch ≤ r → rank d.touch ≤ r
turns_rank d r h = let b = kept_above d.touch in omega (arith, b, h)

if_lend_rank : (b : Bool) (a : Access) (d : Dealing) → rank d.touch ≤ rank (if b then lend a d else d).touch
if_lend_rank true a d = lent_rank a d.touch
if_lend_rank false a d = omega arith

lend_above : (b : Bool) (a : Access) (h : Hold) (d : Dealing) → rank d.touch ≤ rank (lend_by b a h d).touch
lend_above b a unlent d = if_lend_rank b a d
lend_above b a read_lent d = if_lend_rank b a d
lend_above b a write_lent d = if_lend_rank b a d
lend_above b a hidden d = omega arith

pub lend_rank : (b : Bool) (a : Access) (h : Hold) (d : Dealing) (r : ℕ) → rank (lend_by b a h d).touch ≤ r →
    rank d.touch ≤ r
lend_rank b a h d r le = let e = lend_above b a h d in omega (arith, e, le)

pub sum_none : (m n : ℕ) → m ≡ 0 → sum m n ≡ n
sum_none m n h = ap (λ m. sum m n) h

pub sum_some : (m n : ℕ) → m ≢ 0 → sum m n ≡ counted (m + n)
sum_some zero n h = absurd (h refl)
sum_some (suc m) n h = refl
