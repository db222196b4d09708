-- Piles by number.
use Rattle.std.proofs.Common.{◌≡◌, ℕ, zero, suc, ◌+◌, ◌-◌, ◌<◌, ◌≤◌, List, [], ◌∷◌, length, take, drop}
use Rattle.std.proofs.Common.{get_or, Some, slice_get, slice_set, refl, sym, ap, subst, ◌∙◌, arith}
use Rattle.std.proofs.Math.Seq.{take-length}
use Rattle.std.proofs.lemmas.List.{length-take, length-take-le, drop-take, drop-set-add, drop-set-lt}
use Rattle.std.proofs.lemmas.List.{get_or-take, get_or-drop, take-take}
use Rattle.std.proofs.lemmas.Option.{slice_get_read, get_or_from_slice_get}
use Rattle.au_cells.specs.Piles.{peeled, IsRising, piles_in, end_at, pile_at, with_below}

-- no pile begins above the end
pub begins_within : (bases : List ℕ) (size i : ℕ) → IsRising bases size → get_or bases i 0 ≤ size
begins_within [] size i h = omega arith
begins_within (base ∷ bases) size zero h = h.0
begins_within (base ∷ bases) size (suc i) h = let more = begins_within bases base i h.1 in omega
    (arith, more, h.0)

end_next : (bases : List ℕ) (base i : ℕ) → end_at bases base i ≡ get_or (base ∷ bases) i 0
end_next bases base zero = refl
end_next bases base (suc i) = refl

pub ends_within : (bases : List ℕ) (size i : ℕ) → IsRising bases size → end_at bases size i ≤ size
ends_within bases size zero h = omega arith
ends_within bases size (suc i) h = begins_within bases size i h

-- the items of a pile
pub peeled_at : {T : Type 0} (bases : List ℕ) (items : List T) (i : ℕ) → IsRising bases (length items)
    → i < length bases → slice_get (peeled bases items) i
    ≡ Some (drop (get_or bases i 0) (take (end_at bases (length items) i) items))
peeled_at [] items i h lt = absurd (omega arith)
peeled_at {T} (base ∷ bases) items zero h lt = ap (λ (xs : List T). Some (drop base xs)) (sym
    (take-length items))
peeled_at {T} (base ∷ bases) items (suc i) h lt =
    let size = length-take-le base items h.0 in
    let from = get_or bases i 0 in
    peeled_at bases (take base items) i (subst (IsRising bases) (sym size) h.1) (omega arith)
    ∙ ap (λ n. Some (drop from (take (end_at bases n i) (take base items)))) size
    ∙ ap (λ (xs : List T). Some (drop from xs)) (take-take (end_at bases base i) base items
    (ends_within bases base i h.1))
    ∙ ap (λ n. Some (drop from (take n items))) (end_next bases base i)

pub length_peeled : {T : Type 0} (bases : List ℕ) (items : List T)
    → length (peeled bases items) ≡ length bases
length_peeled [] items = refl
length_peeled (base ∷ bases) items = ap suc (length_peeled bases (take base items))

-- an item of the top doesn't lie in the piles below it
take_set : {T : Type 0} (items : List T) (base i : ℕ) (item : T)
    → take base (slice_set items (base + i) item) ≡ take base items
take_set items zero i item = refl
take_set [] (suc base) i item = refl
take_set {T} (one ∷ items) (suc base) i item =
    let e : suc base + i ≡ suc (base + i) = omega arith in
    ap (λ n. take (suc base) (slice_set (one ∷ items) n item)) e
    ∙ ap (λ (more : List T). one ∷ more) (take_set items base i item)

-- piles of which an item of the top is another
abbrev pub with_item : {T : Type 0} → List T × List (List T) → ℕ → T → List T × List (List T)
with_item piles i item = (slice_set piles.0 i item, piles.1)

-- the piles where an item of the top is put
pub put_view : {T : Type 0} (items : List T) (bases : List ℕ) (base i : ℕ) (put item : T)
    (now : List T × List (List T)) → put ≡ item → piles_in items base bases ≡ now
    → piles_in (slice_set items (base + i) put) base bases ≡ with_item now i item
put_view {T} items bases base i put item now same view =
    ap (λ (one : T). piles_in (slice_set items (base + i) one) base bases) same
    ∙ ap (λ (top : List T). (top, peeled bases (take base (slice_set items (base + i) item))))
    (drop-set-add base items i item)
    ∙ ap (λ (rest : List T). (slice_set (drop base items) i item, peeled bases rest))
    (take_set items base i item)
    ∙ ap (λ (piles : List T × List (List T)). (slice_set piles.0 i item, piles.1)) view

-- and what was there
pub put_old : {T : Type 0} (items : List T) (bases : List ℕ) (base i : ℕ) (old : T) (now : List T × List
    (List T)) → old ≡ get_or items (base + i) old → piles_in items base bases ≡ now
    → i < length now.0 → slice_get now.0 i ≡ Some old
put_old {T} items bases base i old now is view within =
    let top = ap (λ (piles : List T × List (List T)). piles.0) view in
    slice_get_read now.0 (length now.0) i old refl within (is ∙ sym (get_or-drop base items i old)
    ∙ ap (λ (xs : List T). get_or xs i old) top)

-- a pile ends where it begins or above
pub start_below : (bases : List ℕ) (size i : ℕ) → IsRising bases size → i < length bases
    → get_or bases i 0 ≤ end_at bases size i
start_below [] size i h lt = absurd (omega arith)
start_below (base ∷ bases) size zero h lt = h.0
start_below (base ∷ bases) size (suc i) h lt =
    let more : get_or bases i 0 ≤ end_at bases base i = start_below bases base i h.1 (omega arith) in
    subst (λ n. get_or bases i 0 ≤ n) (end_next bases base i) more

-- a pile as a slice of all items
pub pile_is : {T : Type 0} (bases : List ℕ) (base : ℕ) (items : List T) (i : ℕ) → base ≤ length items
    → IsRising bases base → i < length bases
    → slice_get (peeled bases (take base items)) i
    ≡ Some (take (end_at bases base i - get_or bases i 0) (drop (get_or bases i 0) items))
pile_is {T} bases base items i within h lt =
    let from = get_or bases i 0 in
    let to = end_at bases base i in
    let size = length-take-le base items within in
    let rise : from + (to - from) ≡ to = (let low = start_below bases base i h lt in omega arith) in
    peeled_at bases (take base items) i (subst (IsRising bases) (sym size) h) lt
    ∙ ap (λ n. Some (drop from (take (end_at bases n i) (take base items)))) size
    ∙ ap (λ (xs : List T). Some (drop from xs)) (take-take to base items (ends_within bases base i h))
    ∙ ap (λ n. Some (drop from (take n items))) (sym rise)
    ∙ ap (λ (xs : List T). Some xs) (drop-take from (to - from) items)

-- how many piles are below the top
pub below_count : {T : Type 0} (items : List T) (base : ℕ) (bases : List ℕ) (now : List T × List
    (List T)) → piles_in items base bases ≡ now → length now.1 ≡ length bases
below_count {T} items base bases now view =
    ap (λ (piles : List T × List (List T)). length piles.1) (sym view)
    ∙ length_peeled bases (take base items)

-- a front in which an item is another
take_within : {T : Type 0} (n : ℕ) (xs : List T) (i : ℕ) (x : T) → i < n
    → take n (slice_set xs i x) ≡ slice_set (take n xs) i x
take_within zero xs i x h = absurd (omega arith)
take_within (suc n) [] i x h = refl
take_within (suc n) (y ∷ xs) zero x h = refl
take_within {T} (suc n) (y ∷ xs) (suc i) x h = ap (λ (ys : List T). y ∷ ys) (take_within n xs i x
    (omega arith))

-- piles in which an item of one of them is another
peeled_put : {T : Type 0} (bases : List ℕ) (items : List T) (i j : ℕ) (item : T)
    → IsRising bases (length items) → i < length bases
    → get_or bases i 0 + j < end_at bases (length items) i
    → peeled bases (slice_set items (get_or bases i 0 + j) item)
    ≡ slice_set (peeled bases items) i (slice_set (pile_at (peeled bases items) i) j item)
peeled_put [] items i j item h lt within = absurd (omega arith)
peeled_put {T} (base ∷ bases) items zero j item h lt within =
    ap (λ (top : List T). top ∷ peeled bases (take base (slice_set items (base + j) item)))
    (drop-set-add base items j item)
    ∙ ap (λ (rest : List T). slice_set (drop base items) j item ∷ peeled bases rest)
    (take_set items base j item)
peeled_put {T} (base ∷ bases) items (suc i) j item h lt within =
    let at = get_or bases i 0 + j in
    let size = length-take-le base items h.0 in
    let ends = end_next bases base i in
    let high = ends_within bases base i h.1 in
    let below : at < base = omega (arith, ends, high, within) in
    let inner : at < end_at bases (length (take base items)) i = subst (λ n. at < end_at bases n i)
    (sym size) (omega (arith, ends, within)) in
    ap (λ (top : List T). top ∷ peeled bases (take base (slice_set items at item)))
    (drop-set-lt base items at item below)
    ∙ ap (λ (rest : List T). drop base items ∷ peeled bases rest) (take_within base items at item below)
    ∙ ap (λ (more : List (List T)). drop base items ∷ more) (peeled_put bases (take base items) i j item
    (subst (IsRising bases) (sym size) h.1) (omega arith) inner)

-- the items of a pile that is there
pile_there : {T : Type 0} (bases : List ℕ) (base : ℕ) (items : List T) (i : ℕ) → base ≤ length items
    → IsRising bases base → i < length bases
    → pile_at (peeled bases (take base items)) i
    ≡ take (end_at bases base i - get_or bases i 0) (drop (get_or bases i 0) items)
pile_there bases base items i within h lt = get_or_from_slice_get (peeled bases
    (take base items)) i _ [] (pile_is bases base items i within h lt)

-- an item of a pile lies before the end of the pile
pub before_end : {T : Type 0} (bases : List ℕ) (base : ℕ) (items : List T) (i j : ℕ)
    → base ≤ length items → IsRising bases base → i < length bases
    → j < length (pile_at (peeled bases (take base items)) i) → get_or bases i 0 + j < end_at bases base i
before_end {T} bases base items i j within h lt inside =
    let there = ap (λ (xs : List T). length xs) (pile_there bases base items i within h lt) in
    let size = length-take (end_at bases base i - get_or bases i 0) (drop (get_or bases i 0) items) in
    omega (arith, there, size, inside)

pub put_below_view : {T : Type 0} (items : List T) (bases : List ℕ) (base i j : ℕ) (put item : T)
    (now : List T × List (List T)) → put ≡ item → piles_in items base bases ≡ now
    → base ≤ length items → IsRising bases base → i < length bases
    → get_or bases i 0 + j < end_at bases base i
    → piles_in (slice_set items (get_or bases i 0 + j) put) base bases ≡ with_below now i j item
put_below_view {T} items bases base i j put item now same view within h lt inside =
    let at = get_or bases i 0 + j in
    let high = ends_within bases base i h in
    let below : at < base = omega (arith, high, inside) in
    let size = length-take-le base items within in
    ap (λ (one : T). piles_in (slice_set items at one) base bases) same
    ∙ ap (λ (top : List T). (top, peeled bases (take base (slice_set items at item))))
    (drop-set-lt base items at item below)
    ∙ ap (λ (rest : List T). (drop base items, peeled bases rest)) (take_within base items at item below)
    ∙ ap (λ (more : List (List T)). (drop base items, more))
    (peeled_put bases (take base items) i j item (subst (IsRising bases) (sym size) h) lt (subst
    (λ n. at < end_at bases n i) (sym size) inside))
    ∙ ap (λ (piles : List T × List (List T)). with_below piles i j item) view

pub put_below_old : {T : Type 0} (items : List T) (bases : List ℕ) (base i j : ℕ) (old : T)
    (now : List T × List (List T)) → old ≡ get_or items (get_or bases i 0 + j) old
    → piles_in items base bases ≡ now
    → base ≤ length items → IsRising bases base → i < length bases → j < length (pile_at now.1 i)
    → slice_get (pile_at now.1 i) j ≡ Some old
put_below_old {T} items bases base i j old now is view within h lt inside =
    let from = get_or bases i 0 in
    let seen = ap (λ (piles : List T × List (List T)). pile_at piles.1 i) (sym view) in
    let pile = seen ∙ pile_there bases base items i within h lt in
    let count = end_at bases base i - from in
    let size = ap (λ (xs : List T). length xs) pile ∙ length-take count (drop from items) in
    let short : j < count = omega (arith, size, inside) in
    let read = get_or-take count (drop from items) j old short ∙ get_or-drop from items j old in
    slice_get_read (pile_at now.1 i) (length (pile_at now.1 i)) j old refl inside
    (is ∙ sym read ∙ ap (λ (xs : List T). get_or xs j old) (sym pile))

-- an item of a pile below the top, by where the pile starts
pub pile_number : {T : Type 0} (items : List T) (bases : List ℕ) (base i : ℕ) (now : List T × List
    (List T)) → piles_in items base bases ≡ now → i < length now.1 → i < length bases
pile_number items bases base i now view h = let count = below_count items base bases now view in omega
    (arith, count, h)

pub item_before : {T : Type 0} (items : List T) (bases : List ℕ) (base i j start : ℕ)
    (now : List T × List (List T)) → start ≡ get_or bases i 0 → piles_in items base bases ≡ now
    → base ≤ length items → IsRising bases base
    → i < length now.1 → j < length (pile_at now.1 i) → start + j < end_at bases base i
item_before {T} items bases base i j start now is view within h lt inside =
    let seen = ap (λ (piles : List T × List (List T)). length (pile_at piles.1 i)) view in
    let here : j < length (pile_at (peeled bases (take base items)) i) = omega (arith, seen, inside) in
    let before = before_end bases base items i j within h (pile_number items bases base i now view lt) here in
    omega (arith, is, before)

pub item_within : {T : Type 0} (items : List T) (bases : List ℕ) (base i j start : ℕ)
    (now : List T × List (List T)) → start ≡ get_or bases i 0 → piles_in items base bases ≡ now
    → base ≤ length items → IsRising bases base
    → i < length now.1 → j < length (pile_at now.1 i) → start + j < length items
item_within items bases base i j start now is view within h lt inside =
    let before = item_before items bases base i j start now is view within h lt inside in
    let high = ends_within bases base i h in
    omega (arith, before, high, within)

pub item_put : {T : Type 0} (items : List T) (bases : List ℕ) (base i j start : ℕ) (put item : T)
    (now : List T × List (List T)) → start ≡ get_or bases i 0 → put ≡ item
    → piles_in items base bases ≡ now → base ≤ length items → IsRising bases base
    → i < length now.1 → j < length (pile_at now.1 i)
    → piles_in (slice_set items (start + j) put) base bases ≡ with_below now i j item
item_put {T} items bases base i j start put item now is same view within h lt inside =
    let number = pile_number items bases base i now view lt in
    let before = item_before items bases base i j (get_or bases i 0) now refl view within h lt inside in
    ap (λ n. piles_in (slice_set items (n + j) put) base bases) is
    ∙ put_below_view items bases base i j put item now same view within h number before

pub item_old : {T : Type 0} (items : List T) (bases : List ℕ) (base i j start : ℕ) (old : T)
    (now : List T × List (List T)) → start ≡ get_or bases i 0 → old ≡ get_or items (start + j) old
    → piles_in items base bases ≡ now → base ≤ length items → IsRising bases base
    → i < length now.1 → j < length (pile_at now.1 i) → slice_get (pile_at now.1 i) j ≡ Some old
item_old items bases base i j start old now is read view within h lt inside =
    put_below_old items bases base i j old now (read
    ∙ ap (λ n. get_or items (n + j) old) is) view within h
    (pile_number items bases base i now view lt) inside
