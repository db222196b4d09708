-- What a `case` tells apart: a value itself, or one behind a reference.
use Rattle.std.proofs.Common.{◌≡◌, ℕ, zero, suc, ◌+◌, List, [], ◌∷◌, ◌++◌, Option, Some, None, refl}
use Rattle.std.proofs.Common.{sym, ap, ◌∙◌, arith}
use Rattle.std.specs.Option.{option_map}
use Rattle.au_effects.specs.Values.{Place, made, reference}
use Rattle.au_effects.specs.Parts.{along}
use Rattle.au_effects.specs.Worlds.{used, tells, spends}
use Rattle.au_effects.specs.Places.{at}
use Rattle.au_effects.specs.References.{reference_in, referring, reference_along}
use Rattle.au_effects.specs.Cases.{fields_behind, case_behind, told_apart}
use Rattle.au_low.specs.Machines.{Low, LowWorld}
use Rattle.au_cells.specs.Cells.{Apart, taken_apart, case_counted}

-- a value that is no reference
pub told_made : (value : Low) (one : Apart) (w : LowWorld) → Some one ≡ taken_apart value
    → Some ((one.tag, one.fields), spends one.birth w) ≡ told_apart value w
told_made (made tag birth parts) one w is = cc
told_made other one w is = absurd cc

pub told_none : (value : Low) (w : LowWorld) → None ≡ taken_apart value → None ≡ reference_in value
    → None ≡ told_apart value w
told_none (made tag birth parts) w none other = absurd cc
told_none (reference borrow place) w none other = absurd cc
told_none value w none other = refl

-- a reference
pub told_reference : (value : Low) (one : ℕ × Place) (w : LowWorld) → Some one ≡ reference_in value
    → told_apart (referring one) w ≡ told_apart value w
told_reference (reference borrow place) one w is = cc
told_reference other one w is = absurd cc

-- what is told apart behind it, by what stands there
abbrev told_of : ℕ × Place → LowWorld → Option Low → Option ((ℕ × List Low) × LowWorld)
told_of one w held_value =
    along {A = Low × LowWorld} (along held_value (λ value. Some (value, tells (used one.0) w)))
    (λ pair. along (case_behind one pair.0) (λ parts. Some (parts, pair.1)))

-- the case of a value, and references to as many fields as it has
abbrev counted_behind : ℕ × Place → Option (ℕ × ℕ) → Option (ℕ × List Low)
counted_behind one found = option_map (λ (c : ℕ × ℕ). (c.0, fields_behind one 0 c.1)) found

counted_is : (one : ℕ × Place) (value : Low)
    → case_behind one value ≡ counted_behind one (option_map case_counted (taken_apart value))
counted_is one (made tag birth parts) = refl
counted_is one other = refl

pub behind_none : (one : ℕ × Place) (w : LowWorld) → None ≡ at one.1 w → None ≡ told_apart (referring one) w
behind_none one w none = ap (told_of one w) none

pub behind_other : (one : ℕ × Place) (w : LowWorld) (value : Low) → Some value ≡ at one.1 w
    → None ≡ option_map case_counted (taken_apart value) → None ≡ told_apart (referring one) w
behind_other one w value there none =
    ap (λ (found : Option (ℕ × ℕ)). along (counted_behind one found) (λ parts. Some
    (parts, tells (used one.0) w))) none
    ∙ ap (λ (found : Option (ℕ × List Low)). along found (λ parts. Some
    (parts, tells (used one.0) w))) (sym (counted_is one value))
    ∙ ap (told_of one w) there

pub behind_made : (one : ℕ × Place) (w : LowWorld) (value : Low) (tag count : ℕ) (fields : List Low)
    → Some value ≡ at one.1 w → Some (tag, count) ≡ option_map case_counted (taken_apart value)
    → fields ≡ fields_behind one 0 count
    → Some ((tag, fields), tells (used one.0) w) ≡ told_apart (referring one) w
behind_made one w value tag count fields there found are =
    ap (λ (values : List Low). Some ((tag, values), tells (used one.0) w)) are
    ∙ ap (λ (found : Option (ℕ × ℕ)). along (counted_behind one found) (λ parts. Some
    (parts, tells (used one.0) w))) found
    ∙ ap (λ (found : Option (ℕ × List Low)). along found (λ parts. Some
    (parts, tells (used one.0) w))) (sym (counted_is one value))
    ∙ ap (told_of one w) there

-- one more field
fields_more : (one : ℕ × Place) (number count : ℕ)
    → fields_behind {T = ℕ} one number (suc count)
    ≡ fields_behind {T = ℕ} one number count ++ referring (reference_along one ((number + count) ∷ [])) ∷ []
fields_more one number zero =
    let same : number ≡ number + zero = omega arith in
    ap (λ n. referring {T = ℕ} (reference_along one (n ∷ [])) ∷ []) same
fields_more one number (suc count) =
    let same : number + 1 + count ≡ number + suc count = omega arith in
    ap (λ (rest : List Low). referring (reference_along one (number ∷ [])) ∷ rest)
    (fields_more one (number + 1) count
    ∙ ap (λ n. fields_behind {T = ℕ} one (number + 1) count ++ referring (reference_along one (n ∷ [])) ∷ []) same)

pub fields_next : (one : ℕ × Place) (count : ℕ)
    → fields_behind {T = ℕ} one 0 (count + 1)
    ≡ fields_behind {T = ℕ} one 0 count ++ referring (reference_along one (count ∷ [])) ∷ []
fields_next one count =
    let next : count + 1 ≡ suc count = omega arith in
    let same : 0 + count ≡ count = omega arith in
    ap (fields_behind {T = ℕ} one 0) next ∙ fields_more one 0 count
    ∙ ap (λ n. fields_behind {T = ℕ} one 0 count ++ referring (reference_along one (n ∷ [])) ∷ []) same
