-- The labels of cases, by where their arms begin.
use Rattle.std.proofs.Common.{◌≡◌, ℕ, ◌+◌, ◌<◌, ◌≤◌, max, Bool, true, false, List, [], ◌∷◌, ◌++◌, drop}
use Rattle.std.proofs.Common.{get_or, length, Option, Some, None, refl, sym, ap, ◌∙◌, arith, add-one}
use Rattle.std.proofs.Common.{if◌then◌else◌}
use Rattle.std.proofs.lemmas.List.{at_drop_all, at_drop_more}
use Rattle.au_lowered.specs.Statements.{count_of_cases, labels_of, start_of}
use Rattle.au_lowering_statements.specs.declared.arms.Start.{Start}
use Rattle.au_lowering_statements.specs.Views.{starts_said}
use Rattle.au_meaning.specs.Statements.{is_tag}

-- ---- how many cases

pub counted_none : (count place : ℕ) → count ≡ max count (count_of_cases ((None, place) ∷ []))
counted_none count place = omega arith

pub counted_some : (count tag place : ℕ)
    → max count (count_of_cases ((Some tag, place) ∷ [])) ≡ max count (tag + 1)
counted_some count tag place = omega arith

count_step : (x : Option ℕ × ℕ) (rest : List (Option ℕ × ℕ))
    → count_of_cases (x ∷ rest) ≡ max (count_of_cases (x ∷ [])) (count_of_cases rest)
count_step (None, place) rest = omega arith
count_step (Some tag, place) rest = omega arith

pub count_more : (xs : List Start) (i : ℕ) (x : Start) (count made whole : ℕ) → i < length xs → x ≡ get_or
    xs i x
    → made ≡ max count (count_of_cases ((x.tag, x.place) ∷ []))
    → max count (count_of_cases (starts_said (drop i xs))) ≡ whole
    → max made (count_of_cases (starts_said (drop (i + 1) xs))) ≡ whole
count_more xs i x count made whole inside is grows so_far =
    let rest = starts_said (drop (i + 1) xs) in
    let here : count_of_cases (starts_said (drop i xs))
    ≡ max (count_of_cases ((x.tag, x.place) ∷ [])) (count_of_cases rest) =
    at_drop_more (λ all. count_of_cases (starts_said all)) xs i x inside
    ∙ ap (λ (y : Start). count_of_cases ((y.tag, y.place) ∷ rest)) (sym is)
    ∙ count_step (x.tag, x.place) rest in
    omega (arith, here, grows, so_far)

pub count_end : (xs : List Start) (i count whole : ℕ) → length xs ≤ i
    → max count (count_of_cases (starts_said (drop i xs))) ≡ whole → count ≡ whole
count_end xs i count whole ends so_far =
    let none : count_of_cases (starts_said (drop i xs)) ≡ 0 =
    at_drop_all (λ all. count_of_cases (starts_said all)) xs i ends in
    omega (arith, none, so_far)

-- ---- where an arm begins

start_here : (tag : ℕ) (xs : List Start) (i : ℕ) (x : Start) → i < length xs → x ≡ get_or xs i x
    → start_of tag (starts_said (drop i xs))
    ≡ (if is_tag tag x.tag then x.place else start_of tag (starts_said (drop (i + 1) xs)))
start_here tag xs i x inside is =
    at_drop_more (λ all. start_of tag (starts_said all)) xs i x inside
    ∙ ap (λ (y : Start). if is_tag tag y.tag then y.place else start_of tag (starts_said (drop (i + 1) xs)))
    (sym is)

pub start_found : (tag : ℕ) (xs : List Start) (i : ℕ) (x : Start) (whole : ℕ) → i < length xs → x ≡ get_or
    xs i x
    → is_tag tag x.tag ≡ true → start_of tag (starts_said (drop i xs)) ≡ whole → x.place ≡ whole
start_found tag xs i x whole inside is found so_far =
    sym (start_here tag xs i x inside is
    ∙ ap (λ b. if b then x.place else start_of tag (starts_said (drop (i + 1) xs))) found)
    ∙ so_far

pub start_passed : (tag : ℕ) (xs : List Start) (i : ℕ) (x : Start) (whole : ℕ) → i < length xs
    → x ≡ get_or xs i x → is_tag tag x.tag ≡ false → start_of tag (starts_said (drop i xs)) ≡ whole
    → start_of tag (starts_said (drop (i + 1) xs)) ≡ whole
start_passed tag xs i x whole inside is other so_far =
    sym (start_here tag xs i x inside is
    ∙ ap (λ b. if b then x.place else start_of tag (starts_said (drop (i + 1) xs))) other)
    ∙ so_far

-- ---- labels

pub labels_step : (tag start : ℕ) (starts : List (Option ℕ × ℕ)) (labels pushed : List ℕ)
    → labels ≡ labels_of tag starts → start ≡ start_of tag starts → pushed ≡ labels ++ start ∷ []
    → pushed ≡ labels_of (tag + 1) starts
labels_step tag start starts labels pushed so_far here grows =
    grows ∙ ap (λ l. l ++ start ∷ []) so_far ∙ ap (λ n. labels_of tag starts ++ n ∷ []) here
    ∙ sym (ap (λ n. labels_of n starts) (add-one tag))
