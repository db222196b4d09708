-- The operations of a kind that is known, as those of the kind that was passed.
use Rattle.std.proofs.Common.{◌≡◌, subst, sym, Option, SomeIff, FitsSigned, ℤ, to_z, of_z, to_z-of_z}
use Rattle.std.specs.Int.{w128}
use Rattle.au_base.specs.declared.kinds.IntKind.{IntKind}
use Rattle.au_ints.specs.declared.operations.IntOp.{IntOp}
use Rattle.au_ints.specs.Operations.{exact, HasResult, IsWrapped}
use Rattle.au_ints.specs.Ranges.{IsOfKind}

-- a number of the kind that was passed is one of the known kind
pub asked_at : (kind known : IntKind) (z : ℤ) → kind ≡ known → FitsSigned w128 z → IsOfKind kind z →
    IsOfKind known (to_z w128 (of_z w128 z))
asked_at kind known z is fits inside = subst (IsOfKind known) (sym (to_z-of_z fits))
    (subst (λ k. IsOfKind k z) is inside)

-- what is wrapped at the known kind is wrapped at the one that was passed
pub wrapped_at : (op : IntOp) (kind known : IntKind) (a b r : ℤ) → kind ≡ known → FitsSigned w128 a →
    FitsSigned w128 b → FitsSigned w128 r
    → IsWrapped known (exact op (to_z w128 (of_z w128 a)) (to_z w128 (of_z w128 b))) r →
    IsWrapped kind (exact op a b) (to_z w128 (of_z w128 r))
wrapped_at op kind known a b r is first second fits turned =
    let there = subst (λ x. IsWrapped known (exact op x (to_z w128 (of_z w128 b))) r) (to_z-of_z first) turned in
    let both = subst (λ y. IsWrapped known (exact op a y) r) (to_z-of_z second) there in
    let back = subst (IsWrapped known (exact op a b)) (sym (to_z-of_z fits)) both in
    subst (λ k. IsWrapped k (exact op a b) (to_z w128 (of_z w128 r))) (sym is) back

-- and so of what is trapped
pub trapped_at : (op : IntOp) (kind known : IntKind) (a b : ℤ) (r : Option ℤ) → kind ≡ known →
    FitsSigned w128 a → FitsSigned w128 b
    → SomeIff r (HasResult op (to_z w128 (of_z w128 b))
    × IsOfKind known (exact op (to_z w128 (of_z w128 a)) (to_z w128 (of_z w128 b))))
    (exact op (to_z w128 (of_z w128 a)) (to_z w128 (of_z w128 b)))
    → SomeIff r (HasResult op b × IsOfKind kind (exact op a b)) (exact op a b)
trapped_at op kind known a b r is first second kept =
    let there = subst (λ x. SomeIff r
    (HasResult op (to_z w128 (of_z w128 b)) × IsOfKind known (exact op x (to_z w128 (of_z w128 b))))
    (exact op x (to_z w128 (of_z w128 b)))) (to_z-of_z first) kept in
    let both = subst (λ y. SomeIff r (HasResult op y × IsOfKind known (exact op a y)) (exact op a y))
    (to_z-of_z second) there in
    subst (λ k. SomeIff r (HasResult op b × IsOfKind k (exact op a b)) (exact op a b)) (sym is) both

-- and of what is converted
pub converted_at : (to known : IntKind) (z : ℤ) (r : Option ℤ) → to ≡ known → FitsSigned w128 z
    → SomeIff r (IsOfKind known (to_z w128 (of_z w128 z))) (to_z w128 (of_z w128 z)) → SomeIff r (IsOfKind to z) z
converted_at to known z r is fits kept = subst (λ k. SomeIff r (IsOfKind k z) z) (sym is)
    (subst (λ x. SomeIff r (IsOfKind known x) x) (to_z-of_z fits) kept)
