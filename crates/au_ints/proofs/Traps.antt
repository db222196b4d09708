-- When a result lies in the range.
use Rattle.std.proofs.Common.{◌≡◌, ◌↔◌, ℕ, zero, suc, Bool, true, false, ◌&&◌, if◌then◌else◌, IsTrue, Option}
use Rattle.std.proofs.Common.{Some, None, SomeIff, FitsSigned, ap, subst, sym, ◌∙◌, refl, arith, rules, ℤ}
use Rattle.std.proofs.Common.{pos, negsuc}
use Rattle.std.proofs.lemmas.Bool.Decides.{nat_tests}
use Rattle.std.proofs.lemmas.Int.{ints}
use Rattle.au_base.specs.declared.kinds.IntKind.{IntKind}
use Rattle.std.specs.Int.{w128}
use Rattle.au_ints.specs.declared.operations.IntOp.{IntOp}
use Rattle.au_ints.specs.declared.operations.IntOp.TheVariants as int_op
use Rattle.au_ints.specs.Operations.{exact, HasResult, has_result, trapped, converted}
use Rattle.au_ints.specs.Ranges.{IsShape, IsWithin, is_within, IsOfKind, is_of_kind, bits_of, sign_of}
use Rattle.au_ints.proofs.Turns.{within_fits}

-- a number that is the exact result, tested against the range
pub trapped_by : (op : IntOp) (bits sign : ℕ) (a b z : ℤ) (r : Option ℤ) → HasResult op b → z ≡ exact op a b →
    SomeIff r (IsWithin bits sign z) z → SomeIff r (HasResult op b × IsWithin bits sign (exact op a b))
    (exact op a b)
trapped_by op bits sign a b z (Some x) some same kept = ((some, subst (IsWithin bits sign) same kept.0), kept.1 ∙ same)
trapped_by op bits sign a b z None some same kept = λ both. kept (subst (IsWithin bits sign) (sym same) both.1)

-- no number of a range passes an `i128`
pub trapped_wide : (op : IntOp) (bits sign : ℕ) (a b z : ℤ) (r : Option ℤ) → IsShape bits sign →
    z ≡ exact op a b → ¬ (FitsSigned w128 z) → r ≡ None →
    SomeIff r (HasResult op b × IsWithin bits sign (exact op a b)) (exact op a b)
trapped_wide op bits sign a b z r shape same wide none =
    let Kept : Option ℤ → Type 0 = λ o. SomeIff o (HasResult op b × IsWithin bits sign (exact op a b)) (exact op a b) in
    let gone : Kept None = λ both. wide
    (within_fits bits sign z shape (subst (IsWithin bits sign) (sym same) both.1)) in
    subst Kept (sym none) gone

-- two choices by one fact are the same
pub chosen_once : (P : Type 0) (v : ℤ) (r s : Option ℤ) → SomeIff r P v → SomeIff s P v → r ≡ s
chosen_once P v (Some x) (Some y) p q = ap Some (p.1 ∙ sym q.1)
chosen_once P v (Some x) None p q = absurd (q p.0)
chosen_once P v None (Some y) p q = absurd (p q.0)
chosen_once P v None None p q = refl

-- no test is both
untrue : IsTrue false → ⊥
untrue e = cc

-- a choice by two tests, and by one
chosen_by : (P Q : Type 0) (s t : Bool) (v : ℤ) → (IsTrue s ↔ P) → (IsTrue t ↔ Q) →
    SomeIff (if s && t then Some v else None) (P × Q) v
chosen_by P Q true true v p q = ((p.0 refl, q.0 refl), refl)
chosen_by P Q true false v p q = λ both. untrue (q.1 both.1)
chosen_by P Q false t v p q = λ both. untrue (p.1 both.0)

chosen_if : (P : Type 0) (t : Bool) (v : ℤ) → (IsTrue t ↔ P) → SomeIff (if t then Some v else None) P v
chosen_if P true v p = (p.0 refl, refl)
chosen_if P false v p = λ h. untrue (p.1 h)

-- whether there is a result
has_result_means : (op : IntOp) (b : ℤ) → IsTrue (has_result op b) ↔ HasResult op b
has_result_means int_op.Add b = (λ t. tt, λ t. refl)
has_result_means int_op.Subtract b = (λ t. tt, λ t. refl)
has_result_means int_op.Multiply b = (λ t. tt, λ t. refl)
has_result_means int_op.Divide (pos zero) = (λ t. absurd (untrue t), λ h. absurd (h refl))
has_result_means int_op.Divide (pos (suc n)) = (λ t e. absurd (omega (arith, ints, e)), λ h. grind (arith, nat_tests))
has_result_means int_op.Divide (negsuc n) = (λ t e. absurd (omega (arith, ints, e)), λ h. grind (arith, nat_tests))

-- whether a number lies in a range
is_within_means : (bits sign : ℕ) (z : ℤ) → IsTrue (is_within bits sign z) ↔ IsWithin bits sign z
is_within_means bits sign z = search rules

pub trapped_chosen : (op : IntOp) (kind : IntKind) (a b : ℤ) →
    SomeIff (trapped op kind a b) (HasResult op b × IsOfKind kind (exact op a b)) (exact op a b)
unfolding trapped
trapped_chosen op kind a b = chosen_by (HasResult op b) (IsOfKind kind (exact op a b)) (has_result op b)
    (is_of_kind kind (exact op a b)) (exact op a b) (has_result_means op b)
    (is_within_means (bits_of kind) (sign_of kind) (exact op a b))

-- so a result that is chosen by these facts is the trapped one
pub trapped_is : (op : IntOp) (kind : IntKind) (a b : ℤ) (r : Option ℤ) →
    SomeIff r (HasResult op b × IsOfKind kind (exact op a b)) (exact op a b) → r ≡ trapped op kind a b
trapped_is op kind a b r kept = chosen_once (HasResult op b × IsOfKind kind (exact op a b)) (exact op a b) r
    (trapped op kind a b) kept (trapped_chosen op kind a b)

-- a number at another kind
pub converted_chosen : (to : IntKind) (z : ℤ) → SomeIff (converted to z) (IsOfKind to z) z
unfolding converted
converted_chosen to z = chosen_if (IsOfKind to z) (is_of_kind to z) z (is_within_means (bits_of to) (sign_of to) z)

pub converted_is : (to : IntKind) (z : ℤ) (r : Option ℤ) → SomeIff r (IsOfKind to z) z → r ≡ converted to z
converted_is to z r kept = chosen_once (IsOfKind to z) z r (converted to z) kept (converted_chosen to z)
