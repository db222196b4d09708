-- What a call leads to is told from its key.
use Rattle.std.proofs.Common.{◌≡◌, ℕ, zero, suc, List, [], ◌∷◌, refl, sym, ap, ◌∙◌}
use Rattle.au_base.specs.declared.kinds.IntKind.{IntKind}
use Rattle.au_base.specs.declared.kinds.IntKind.TheVariants as kinds
use Rattle.au_types.specs.declared.types.DeclAt.{DeclAt}
use Rattle.au_instances.specs.declared.constructors.Constructor.{Constructor}
use Rattle.au_instances.specs.declared.constructors.Constructor.TheVariants as constructors
use Rattle.au_caps.specs.Calls.{Callee, a_birth, a_function, a_method, an_instance, a_class}
use Rattle.au_caps.specs.Keys.{constructor_key, key_of, kind_number}

-- ---- what is told from numbers

abbrev kind_told : ℕ → IntKind
kind_told zero = kinds.Nat8
kind_told (suc zero) = kinds.Nat16
kind_told (suc (suc zero)) = kinds.Nat32
kind_told (suc (suc (suc zero))) = kinds.Nat64
kind_told (suc (suc (suc (suc zero)))) = kinds.Int8
kind_told (suc (suc (suc (suc (suc zero))))) = kinds.Int16
kind_told (suc (suc (suc (suc (suc (suc zero)))))) = kinds.Int32
kind_told (suc (suc (suc (suc (suc (suc (suc zero))))))) = kinds.Int64
kind_told (suc (suc (suc (suc (suc (suc (suc (suc other)))))))) = kinds.Index

abbrev nowhere : DeclAt
nowhere = record { «module» = 0; decl = 0 }

-- the declaration whose numbers come first
abbrev place_told : List ℕ → DeclAt
place_told [] = nowhere
place_told (place ∷ []) = nowhere
place_told (place ∷ number ∷ more) = record { «module» = place; decl = number }

-- the first number, or 0
abbrev first_told : List ℕ → ℕ
first_told [] = 0
first_told (n ∷ more) = n

-- what is behind the first number
abbrev rest_told : List ℕ → List ℕ
rest_told [] = []
rest_told (n ∷ more) = more

abbrev constructor_by : ℕ → List ℕ → Constructor
constructor_by zero more = constructors.Unit
constructor_by (suc zero) more = constructors.Bool
constructor_by (suc (suc zero)) more = constructors.Text
constructor_by (suc (suc (suc zero))) more = constructors.Int (kind_told (first_told more))
constructor_by (suc (suc (suc (suc other)))) more = constructors.Declared (place_told more)

abbrev constructor_told : List ℕ → Constructor
constructor_told key = constructor_by (first_told key) (rest_told key)

abbrev told_by : ℕ → List ℕ → Callee
told_by zero more = a_birth (place_told more)
told_by (suc zero) more = a_function (first_told more) (rest_told more)
told_by (suc (suc zero)) more = a_method (place_told more) (rest_told (rest_told more))
told_by (suc (suc (suc zero))) more =
    an_instance (place_told more) (constructor_told (rest_told (rest_told more)))
told_by (suc (suc (suc (suc other)))) more = a_class (place_told more)

abbrev told : List ℕ → Callee
told key = told_by (first_told key) (rest_told key)

kind_again : (kind : IntKind) → kind_told (kind_number kind) ≡ kind
kind_again kinds.Nat8 = refl
kind_again kinds.Nat16 = refl
kind_again kinds.Nat32 = refl
kind_again kinds.Nat64 = refl
kind_again kinds.Int8 = refl
kind_again kinds.Int16 = refl
kind_again kinds.Int32 = refl
kind_again kinds.Int64 = refl
kind_again kinds.Index = refl

constructor_again : (one : Constructor) → constructor_told (constructor_key one) ≡ one
constructor_again constructors.Unit = refl
constructor_again constructors.Bool = refl
constructor_again constructors.Text = refl
constructor_again (constructors.Int kind) = ap constructors.Int (kind_again kind)
constructor_again (constructors.Declared at) = refl

again : (c : Callee) → told (key_of c) ≡ c
again (a_birth at) = refl
again (a_function place name) = refl
again (a_method class name) = refl
again (an_instance class one) = ap (an_instance class) (constructor_again one)
again (a_class class) = refl

-- so what has the same key is the same
pub same_callee : (c d : Callee) → key_of c ≡ key_of d → c ≡ d
same_callee c d same = sym (again c) ∙ ap told same ∙ again d
