-- Kinds that have one number are one kind.
use Rattle.std.proofs.Common.{◌≡◌, ℕ, zero, suc, Option, Some, refl, sym, ap, ◌∙◌, subst, ℤ}
use Rattle.au_base.specs.declared.kinds.IntKind.{IntKind}
use Rattle.au_base.specs.declared.kinds.IntKind.TheVariants.{Nat8, Nat16, Nat32, Nat64, Int8, Int16, Int32}
use Rattle.au_base.specs.declared.kinds.IntKind.TheVariants.{Int64, Index}
use Rattle.au_ints.specs.Ranges.{IsOfKind}
use Rattle.au_effects.specs.Answers.{Result}
use Rattle.au_effects.specs.Numbers.{kind_number, on_both}

-- the kind of a number
kind_at : ℕ → IntKind
kind_at zero = Nat8
kind_at (suc zero) = Nat16
kind_at (suc (suc zero)) = Nat32
kind_at (suc (suc (suc zero))) = Nat64
kind_at (suc (suc (suc (suc zero)))) = Int8
kind_at (suc (suc (suc (suc (suc zero))))) = Int16
kind_at (suc (suc (suc (suc (suc (suc zero)))))) = Int32
kind_at (suc (suc (suc (suc (suc (suc (suc zero))))))) = Int64
kind_at (suc (suc (suc (suc (suc (suc (suc (suc n)))))))) = Index

at_number : (kind : IntKind) → kind_at (kind_number kind) ≡ kind
unfolding kind_at
at_number Nat8 = refl
at_number Nat16 = refl
at_number Nat32 = refl
at_number Nat64 = refl
at_number Int8 = refl
at_number Int16 = refl
at_number Int32 = refl
at_number Int64 = refl
at_number Index = refl

pub one_kind : (a b : IntKind) → kind_number a ≡ kind_number b → a ≡ b
one_kind a b e = sym (at_number a) ∙ ap kind_at e ∙ at_number b

-- a number of a kind is one of a kind with the same number
pub of_one_kind : (a b : IntKind) (z : ℤ) → kind_number a ≡ kind_number b → IsOfKind a z → IsOfKind b z
of_one_kind a b z e within = subst (λ kind. IsOfKind kind z) (one_kind a b e) within

-- an operation on two numbers that are there
pub both_there : {A : Type 0} (go : A → A → Result ℕ) (a b : Option A) (x y : A) → Some x ≡ a
    → Some y ≡ b → go x y ≡ on_both go a b
both_there go a b x y p q = ap (on_both go (Some x)) q ∙ ap (λ (o : Option _). on_both go o b) p
