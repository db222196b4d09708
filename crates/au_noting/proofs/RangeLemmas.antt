-- Numbers that no kind of integers has.
use Rattle.std.proofs.Common.{arith, ◌<◌, zero, suc, subst, sym, FitsSigned, of_z, ◌≡◌, ◌-◌, ◌^◌, ℤ, pos}
use Rattle.std.proofs.Common.{negsuc, neg_ℤ, ◌-ℤ◌, Bool, true, false, Some, None, is_some, if◌then◌else◌, Ok}
use Rattle.std.proofs.Common.{refl, ap, ◌∙◌}
use lib.IntN.{+ℤ_idl}
use mir.Syntax.{w128}
use Rattle.au_base.specs.declared.kinds.IntKind.{IntKind}
use Rattle.au_base.specs.declared.kinds.IntKind.TheVariants as kinds
use Rattle.au_ints.specs.Operations.{converted}
use Rattle.au_ints.specs.Ranges.{is_of_kind}
use Rattle.au_types.specs.Types.{integer}
use Rattle.au_typing.specs.Faults.{◌>>=◌, check, shape, range_wanted}
use Rattle.au_typing.specs.Notes.{Mode}
use Rattle.au_typing.specs.Rules.{literal_kind, noted}
use Rattle.au_typing.specs.Search.{literal_note}

out_of_each : (kind : IntKind) → is_of_kind kind (pos (2 ^ 127)) ≡ is_of_kind kind (pos (2 ^ 127 - 1))
out_of_each kinds.Nat8 = refl
out_of_each kinds.Nat16 = refl
out_of_each kinds.Nat32 = refl
out_of_each kinds.Nat64 = refl
out_of_each kinds.Int8 = refl
out_of_each kinds.Int16 = refl
out_of_each kinds.Int32 = refl
out_of_each kinds.Int64 = refl
out_of_each kinds.Index = refl

-- the notes of literals with two numbers that no kind has are those of either
pub out_of_all : (mode : Mode) (value : ℤ) → value ≡ negsuc (2 ^ 127 - 1) → literal_note mode (neg_ℤ value)
    ≡ literal_note mode (pos (2 ^ 127 - 1))
out_of_all mode value least =
    ap (λ z. literal_note mode (neg_ℤ z)) least
    ∙ ap (λ b. noted mode (integer (literal_kind mode)) >>=
    λ n. check b (shape (range_wanted (literal_kind mode))) (Ok n)) (out_of_each (literal_kind mode))

pub zero_minus : (value : ℤ) → pos 0 -ℤ value ≡ neg_ℤ value
zero_minus value = +ℤ_idl (neg_ℤ value)

is_some_if : (b : Bool) (z : ℤ) → is_some (if b then Some z else None) ≡ b
is_some_if true z = refl
is_some_if false z = refl

pub is_converted : (kind : IntKind) (z : ℤ) → is_some (converted kind z) ≡ is_of_kind kind z
unfolding converted
is_converted kind z = is_some_if (is_of_kind kind z) z

-- the negative of a number of 128 bits that isn't the least is one
negative_fits : (v : ℤ) → FitsSigned w128 v → (of_z w128 v ≡ 170141183460469231731687303715884105728 → ⊥) →
    FitsSigned w128 (neg_ℤ v)
negative_fits (pos zero) fits other = record { sfits = omega arith }
negative_fits (pos (suc n)) fits other =
    let small : suc n < 170141183460469231731687303715884105728 = fits.sfits in
    let less : n < 170141183460469231731687303715884105728 = omega (arith, small) in
    record { sfits = less }
negative_fits (negsuc n) fits other =
    let small : n < 170141183460469231731687303715884105728 = fits.sfits in
    let apart : (340282366920938463463374607431768211456 - suc n ≡ 170141183460469231731687303715884105728) →
    ⊥ = other in
    let less : suc n < 170141183460469231731687303715884105728 = omega (arith, small, apart) in
    record { sfits = less }

pub minus_fits : (v : ℤ) → FitsSigned w128 v → (of_z w128 v ≡ 170141183460469231731687303715884105728 → ⊥) →
    FitsSigned w128 (pos 0 -ℤ v)
minus_fits v fits other = subst (FitsSigned w128) (sym (zero_minus v)) (negative_fits v fits other)
