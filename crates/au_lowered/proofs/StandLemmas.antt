-- Where what is written stands, its parts stand in a row.
use Rattle.std.proofs.Common.{◌≡◌, ℕ, ◌+◌, Bool, true, false, List, [], ◌∷◌, ◌++◌, length, Option, Some, refl}
use Rattle.std.proofs.Common.{sym, subst, arith}
use Rattle.au_low.specs.declared.instructions.Instr.{Instr}
use Rattle.au_low.specs.declared.instructions.Instr.TheVariants.{Jump, JumpNot, ForTest, ForStep, Look, Store}
use Rattle.au_lowered.specs.Drafts.{Draft, plain, Written, ◌>>◌, one, does, unless, count_unless, when, either, looped}
use Rattle.au_lowered.specs.Standing.{HasAt, Stands, ArmsStand, InOne, InRow, InWhen, InBranches, InLoop}
use Rattle.au_lowered.specs.Standing.{InTurns, InArm, InCases, PartsStand}
use Rattle.au_lowered.specs.Statements.{ArmsWritten, arm_then, cases, turns}
use Rattle.au_lowered.proofs.FitLemmas.{length_both, length_unless, either_length, arm_length}

-- a jump is the same wherever it is written
unless_place : (r : Bool) (i : Instr) (p q : ℕ) → unless r i p ≡ unless r i q
unless_place true i p q = refl
unless_place false i p q = refl

module _ (get : ℕ → Option Draft) where
  -- of two lists that stand one behind the other each stands
  has_both : (p : ℕ) (xs ys : List Draft) → HasAt get p (xs ++ ys)
      → HasAt get p xs × HasAt get (p + length xs) ys
  has_both p [] ys h = let same : p ≡ p + 0 = omega arith in (tt, subst (λ n. HasAt get n ys) same h)
  has_both p (x ∷ xs) ys h =
      let rest = has_both (p + 1) xs ys h.1 in
      let same : p + 1 + length xs ≡ p + length (x ∷ xs) = omega arith in
      ((h.0, rest.0), subst (λ n. HasAt get n ys) same rest.1)

  stands_row : (a b : Written) (p q : ℕ) → Stands get (a >> b) p q → InRow get a b p q
  stands_row a b p q s =
      let parts = has_both p (a p) (b (p + length (a p))) s.has in
      record {
        middle = p + length (a p);
        first = record { has = parts.0; ends = refl };
        second = record { has = parts.1; ends = omega (arith, s.ends, length_both a b p) };
      }

  stands_one : (draft : Draft) (p q : ℕ) → Stands get (one draft) p q → InOne get draft p q
  stands_one draft p q s = record { here = s.has.0; ends = s.ends }

  stands_when : (a : Written) (p q : ℕ) → Stands get (when a) p q → InWhen get a p q
  stands_when a p q s =
      let end : p + 1 + length (a (p + 1)) ≡ q = omega (arith, s.ends) in
      record {
        test = subst (λ l. get p ≡ Some (plain (JumpNot l))) end s.has.0;
        body = record { has = s.has.1; ends = sym end };
      }

  -- a jump to an end that stands at a place
  stands_unless : (r : Bool) (i : ℕ → Instr) (x y p l : ℕ) → x ≡ y → HasAt get p (unless r (i x) l)
      → HasAt get p (unless r (i y) p)
  stands_unless r i x y p l e h =
      subst (λ n. HasAt get p (unless r (i n) p)) e (subst (λ xs. HasAt get p xs) (unless_place r (i x) l p) h)

  stands_branches : (r : Bool) (a b : Written) (p q : ℕ) → Stands get (either r a b) p q
      → InBranches get r a b p q
  stands_branches r a b p q s =
      let m = p + 1 + length (a (p + 1)) in
      let l = m + count_unless r in
      let many = either_length r a b p in
      let end : l + length (b l) ≡ q = omega (arith, s.ends, many) in
      let jump = Jump (l + length (b l)) in
      let parts = has_both (p + 1) (a (p + 1)) (unless r jump l ++ b l) s.has.1 in
      let behind = has_both m (unless r jump l) (b l) parts.1 in
      let wide = length_unless r jump l in
      let also = length_unless r (Jump q) m in
      let place : m + length (unless r jump l) ≡ l = omega (arith, wide) in
      record {
        middle = m;
        other = l;
        test = s.has.0;
        first = record { has = parts.0; ends = refl };
        jump = record {
          has = stands_unless r (λ n. Jump n) (l + length (b l)) q m l end behind.0;
          ends = omega (arith, also);
        };
        second = record { has = subst (λ n. HasAt get n (b l)) place behind.1; ends = sym end };
      }

  stands_loop : (r : Bool) (test body : Written) (p q : ℕ) → Stands get (looped r test body) p q
      → InLoop get r test body p q
  stands_loop r test body p q s =
      let row = stands_row test (when (body >> unless r (Jump p))) p q (record { has = s.has; ends = s.ends }) in
      let inner = stands_when (body >> unless r (Jump p)) row.middle q row.second in
      let turn = stands_row body (unless r (Jump p)) (row.middle + 1) q inner.body in
      record {
        middle = row.middle;
        after = turn.middle;
        first = row.first;
        leave = inner.test;
        turn = turn.first;
        back = turn.second;
      }

  stands_turns : (r : Bool) (slot : ℕ) (body : Written) (p q : ℕ) → Stands get (turns r slot body) p q
      → InTurns get r slot body p q
  unfolding stands_row
  stands_turns r slot body p q s =
      let step = unless r (ForStep slot (slot + 1) (p + 1)) in
      let all = does (Look slot []) >> does (Store (slot + 2)) >> body >> step in
      let end : p + 1 + length (all (p + 1)) ≡ q = omega (arith, s.ends) in
      let first = stands_row (does (Look slot [])) (does (Store (slot + 2)) >> body >> step) (p + 1) q
      (record { has = s.has.1; ends = sym end }) in
      let second = stands_row (does (Store (slot + 2))) (body >> step) (p + 1 + 1) q first.second in
      let third = stands_row body step (p + 1 + 1 + 1) q second.second in
      record {
        after = third.middle;
        leave = subst (λ l. get p ≡ Some (plain (ForTest slot (slot + 1) l))) end s.has.0;
        look = first.first.has.0;
        store = second.first.has.0;
        turn = third.first;
        back = third.second;
      }

  stands_arm : (r : Bool) (tag : Option ℕ) (a : Written) (others : ℕ → ArmsWritten) (p q : ℕ)
      → ArmsStand get (arm_then r tag a others) p q → InArm get r tag a others p q
  stands_arm r tag a others p q s =
      let m = p + length (a p) in
      let l = m + count_unless r in
      let code = (others l).code in
      let many = arm_length r tag a others p in
      let end : l + length code ≡ q = omega (arith, s.ends, many) in
      let jump = Jump (l + length code) in
      let parts = has_both p (a p) (unless r jump l ++ code) s.has in
      let behind = has_both m (unless r jump l) code parts.1 in
      let wide = length_unless r jump l in
      let also = length_unless r (Jump q) m in
      let place : m + length (unless r jump l) ≡ l = omega (arith, wide) in
      record {
        middle = m;
        next = l;
        own = record { has = parts.0; ends = refl };
        jump = record {
          has = stands_unless r (λ n. Jump n) (l + length code) q m l end behind.0;
          ends = omega (arith, also);
        };
        rest = record { has = subst (λ n. HasAt get n code) place behind.1; ends = sym end };
        starts = refl;
      }

  stands_cases : (slot : ℕ) (all : ℕ → ArmsWritten) (p q : ℕ) → Stands get (cases slot all) p q
      → InCases get slot all p q
  stands_cases slot all p q s =
      record { goes = s.has.0; arms = record { has = s.has.1; ends = omega (arith, s.ends) } }

pub parts_stand : PartsStand
parts_stand get = record {
  of_one = λ draft p q s. stands_one get draft p q s;
  of_row = λ a b p q s. stands_row get a b p q s;
  of_when = λ a p q s. stands_when get a p q s;
  of_branches = λ r a b p q s. stands_branches get r a b p q s;
  of_loop = λ r test body p q s. stands_loop get r test body p q s;
  of_turns = λ r slot body p q s. stands_turns get r slot body p q s;
  of_arm = λ r tag a others p q s. stands_arm get r tag a others p q s;
  of_cases = λ slot all p q s. stands_cases get slot all p q s;
}
