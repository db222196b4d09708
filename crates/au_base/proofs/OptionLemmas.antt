-- Options: what `lemmas.Option` of std doesn't have.
use Rattle.std.proofs.Common.{◌≡◌, true, false, true≢false, Option, None, Some, is_some, refl, sym, ap, ◌∙◌}
use Rattle.std.proofs.lemmas.Option.{none-some, same_Some}
use Rattle.std.specs.Option.{option_map, option_or}

-- where nothing is found there is none
pub none_of : {A : Type 0} (o : Option A) → is_some o ≡ false → o ≡ None
none_of None h = refl
none_of (Some x) h = absurd (true≢false h)

-- where something is found there is one
pub some_of : {A : Type 0} (o : Option A) → is_some o ≡ true → (x : A) × (o ≡ Some x)
some_of None h = absurd (true≢false (sym h))
some_of (Some x) h = (x, refl)

-- what an option holds that is made of another
pub map_some : {A B : Type 0} (f : A → B) (o : Option A) (y : B) → option_map f o ≡ Some y
    → (x : A) × (o ≡ Some x) × (f x ≡ y)
map_some f None y is = absurd (none-some y is)
map_some f (Some x) y is = (x, refl, same_Some (f x) y is)

-- none is made of none alone
pub map_none : {A B : Type 0} (f : A → B) (o : Option A) → option_map f o ≡ None → o ≡ None
map_none f None h = refl
map_none f (Some x) h = absurd cc

-- of none, none is made
pub none_map : {A B : Type 0} (f : A → B) (o : Option A) → o ≡ None → option_map f o ≡ None
none_map f o h = ap (option_map f) h

-- where neither is there, the first isn't
pub or_first : {A : Type 0} (o p : Option A) → option_or o p ≡ None → o ≡ None
or_first None p h = refl
or_first (Some x) p h = cc

-- nor is the second
pub or_second : {A : Type 0} (o p : Option A) → option_or o p ≡ None → p ≡ None
or_second None p h = h
or_second (Some x) p h = cc

-- so neither is there
pub or_both : {A : Type 0} (o p : Option A) → option_or o p ≡ None → (o ≡ None) × (p ≡ None)
or_both o p h = (or_first o p h, or_second o p h)

-- of two that aren't there, none
pub or_neither : {A : Type 0} (o p : Option A) → o ≡ None → p ≡ None → option_or o p ≡ None
or_neither o p h k = ap (λ one. option_or one p) h ∙ k

-- with none behind it
pub or_none : {A : Type 0} (o : Option A) → option_or o None ≡ o
or_none None = refl
or_none (Some x) = refl

-- one that is there, before another
pub or_there : {A : Type 0} (o p : Option A) → is_some o ≡ true → option_or o p ≡ o
or_there None p h = absurd (true≢false (sym h))
or_there (Some x) p h = refl
