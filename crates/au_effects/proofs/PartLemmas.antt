-- Fields and parts of values.
use Rattle.std.proofs.Common.{◌≡◌, ℕ, zero, suc, List, [], ◌∷◌, Option, Some, None, refl, ap, subst, sym}
use Rattle.au_effects.specs.Values.{Value, Fields, made, no_fields, field_then, listed, fields_of}
use Rattle.au_effects.specs.Parts.{along, nth_field, field, part, with_nth, with_field, with_part}

pub listed_fields : {T : Type 0} (values : List (Value T)) → listed (fields_of values) ≡ values
listed_fields [] = refl
listed_fields (value ∷ rest) = ap (λ (xs : List (Value _)). value ∷ xs) (listed_fields rest)

pub fields_listed : {T : Type 0} (fields : Fields T) → fields_of (listed fields) ≡ fields
fields_listed no_fields = refl
fields_listed (field_then value rest) = ap (λ (xs : Fields _). field_then value xs) (fields_listed rest)

-- the field that was changed
pub nth_changed : {T : Type 0} (index : ℕ) (change : Value T → Value T) (fields : Fields T) (old : Value T) →
    nth_field index fields ≡ Some old → nth_field index (with_nth index change fields) ≡ Some (change old)
nth_changed index change no_fields old h = cc
nth_changed zero change (field_then value rest) old h = let e : value ≡ old = cc
    in ap (λ (v : Value _). Some (change v)) e
nth_changed (suc index) change (field_then value rest) old h = nth_changed index change rest old h

pub field_changed : {T : Type 0} (index : ℕ) (change : Value T → Value T) (value old : Value T) →
    field index value ≡ Some old → field index (with_field index change value) ≡ Some (change old)
field_changed index change (made tag birth fields) old h = nth_changed index change fields old h
field_changed index change other old h = cc

-- a part that is put is there
pub put_along : {T : Type 0} (index : ℕ) (path : List ℕ) (new value old : Value T) (found : Option (Value T))
    → field index value ≡ found → along found (part path) ≡ Some old →
    ((one : Value T) → part path one ≡ Some old → part path (with_part path new one) ≡ Some new) →
    part (index ∷ path) (with_part (index ∷ path) new value) ≡ Some new
put_along index path new value old None is h more = cc
put_along index path new value old (Some one) is h more =
    subst (λ (o : Option (Value _)). along o (part path) ≡ Some new)
    (sym (field_changed index (with_part path new) value one is)) (more one h)

pub part_put : {T : Type 0} (path : List ℕ) (new value old : Value T) → part path value ≡ Some old →
    part path (with_part path new value) ≡ Some new
part_put [] new value old h = refl
part_put (index ∷ path) new value old h =
    put_along index path new value old (field index value) refl h (λ one there. part_put path new one old there)
