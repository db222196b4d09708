-- Parts that are missing, and parts behind others.
use Rattle.std.proofs.Common.{◌≡◌, ℕ, zero, suc, List, [], ◌∷◌, ◌++◌, Option, Some, None, refl, ap}
use Rattle.au_effects.specs.Values.{Fields, made, no_fields, field_then}
use Rattle.au_effects.specs.Parts.{along, nth_field, field, part, with_nth, with_field, with_part}
use Rattle.au_low.specs.Machines.{Low}

-- fields of which one that isn't there is changed, or one that stays as it is
nth_missing : (index : ℕ) (change : Low → Low) (fields : Fields ℕ) → nth_field index fields ≡ None
    → with_nth index change fields ≡ fields
nth_missing index change no_fields h = refl
nth_missing zero change (field_then value rest) h = cc
nth_missing (suc index) change (field_then value rest) h =
    ap (field_then value) (nth_missing index change rest h)

nth_same : (index : ℕ) (change : Low → Low) (fields : Fields ℕ) (one : Low)
    → nth_field index fields ≡ Some one → change one ≡ one → with_nth index change fields ≡ fields
nth_same index change no_fields one h same = cc
nth_same zero change (field_then value rest) one h same =
    let e : value ≡ one = cc in
    let stays : change value ≡ value = cc in
    ap (λ (v : Low). field_then v rest) stays
nth_same (suc index) change (field_then value rest) one h same =
    ap (field_then value) (nth_same index change rest one h same)

field_missing : (index : ℕ) (change : Low → Low) (value : Low) → field index value ≡ None
    → with_field index change value ≡ value
field_missing index change (made tag birth fields) h = ap (made tag birth) (nth_missing index change fields h)
field_missing index change other h = refl

field_same : (index : ℕ) (change : Low → Low) (value one : Low) → field index value ≡ Some one
    → change one ≡ one → with_field index change value ≡ value
field_same index change (made tag birth fields) one h same =
    ap (made tag birth) (nth_same index change fields one h same)
field_same index change other one h same = refl

missing_along : (index : ℕ) (path : List ℕ) (new value : Low) (found : Option Low)
    → field index value ≡ found → along found (part path) ≡ None
    → ((one : Low) → part path one ≡ None → with_part path new one ≡ one)
    → with_part (index ∷ path) new value ≡ value
missing_along index path new value None is h more = field_missing index (with_part path new) value is
missing_along index path new value (Some one) is h more =
    field_same index (with_part path new) value one is (more one h)

-- a part that is missing can't be put
pub part_missing : (path : List ℕ) (new value : Low) → part path value ≡ None
    → with_part path new value ≡ value
part_missing [] new value h = cc
part_missing (index ∷ path) new value h =
    missing_along index path new value (field index value) refl h
    (λ one there. part_missing path new one there)

-- a part behind another
pub behind_along : (path more : List ℕ) (found : Option Low)
    → ((one : Low) → part (path ++ more) one ≡ along (part path one) (part more))
    → along found (part (path ++ more)) ≡ along (along found (part path)) (part more)
behind_along path more None go = refl
behind_along path more (Some one) go = go one

pub part_behind : (path more : List ℕ) (value : Low)
    → part (path ++ more) value ≡ along (part path value) (part more)
part_behind [] more value = refl
part_behind (index ∷ path) more value =
    behind_along path more (field index value) (λ one. part_behind path more one)
