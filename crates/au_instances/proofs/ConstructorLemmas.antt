-- The test of two constructors is true exactly for equal ones.
use Rattle.std.proofs.Common.{◌≡◌, true, Option, None, Some, refl, sym, ap, subst}
use denote.Enum.Bare.{same_true, true_same}
use Rattle.au_base.specs.contracts.kinds.IntKind.{the_type as kind}
use Rattle.au_types.specs.Types.{Meaning, unit, truth, integer, text, parameter, named, reads, writes}
use Rattle.au_types.proofs.SameLemmas.{place_is, place_self}
use Rattle.au_matching.specs.Bindings.{Bindings}
use Rattle.au_matching.specs.Substituted.{substituted}
use Rattle.au_instances.specs.declared.constructors.Constructor.{Constructor}
use Rattle.au_instances.specs.declared.constructors.Constructor.TheVariants as constructors
use Rattle.au_instances.specs.Constructors.{constructor_of, same_constructor, is_constructor}

pub constructor_is : (a b : Constructor) → same_constructor a b ≡ true → a ≡ b
constructor_is constructors.Unit constructors.Unit e = refl
constructor_is constructors.Bool constructors.Bool e = refl
constructor_is (constructors.Int a) (constructors.Int b) e = ap constructors.Int (same_true kind tt a b e)
constructor_is constructors.Text constructors.Text e = refl
constructor_is (constructors.Declared a) (constructors.Declared b) e = ap constructors.Declared (place_is a b e)
constructor_is a b e = absurd cc

pub constructor_self : (a : Constructor) → same_constructor a a ≡ true
constructor_self constructors.Unit = refl
constructor_self constructors.Bool = refl
constructor_self (constructors.Int a) = true_same kind a a refl
constructor_self constructors.Text = refl
constructor_self (constructors.Declared a) = place_self a

-- of one that may be missing
pub is_that : (one : Constructor) (o : Option Constructor) → is_constructor one o ≡ true → o ≡ Some one
is_that one None e = absurd cc
is_that one (Some other) e = ap Some (sym (constructor_is one other e))

pub that_is : (one : Constructor) (o : Option Constructor) → o ≡ Some one → is_constructor one o ≡ true
that_is one o e = subst (λ p. is_constructor one p ≡ true) (sym e) (constructor_self one)

-- what has a constructor keeps it under each substitution
pub constructor_stays : (s : Bindings) (t : Meaning) (one : Constructor) → constructor_of t ≡ Some one →
    constructor_of (substituted s t) ≡ Some one
constructor_stays s unit one e = e
constructor_stays s truth one e = e
constructor_stays s (integer of) one e = e
constructor_stays s text one e = e
constructor_stays s (parameter name) one e = absurd cc
constructor_stays s (named at args) one e = e
constructor_stays s (reads to region) one e = absurd cc
constructor_stays s (writes to region) one e = absurd cc
