-- Which token passes a limit.
use Rattle.std.proofs.Common.{◌≡◌, ℕ, ◌+◌, ◌≤◌, ◌<◌, nat_lt, Bool, true, List, [], ◌∷◌, ◌++◌, length, Option}
use Rattle.std.proofs.Common.{Some, None, ap, ◌∙◌, sym, refl, arith, inl, inr, length-append}
use Rattle.std.specs.Prelude.{is_none}
use Rattle.std.specs.List.{list_all}
use Rattle.std.proofs.lemmas.Bool.{and_parts, and_from, lt-ltb, ltb-false, both_ways, cases_lt, le-ltb}
use Rattle.std.proofs.lemmas.Bool.{cond-true, cond-false}
use Rattle.std.proofs.lemmas.List.Folds.{list_all-append}
use Rattle.au_base.specs.declared.limits.Limit.{Limit}
use Rattle.au_base.specs.declared.limits.LimitKind.{LimitKind}
use Rattle.au_base.specs.declared.limits.LimitKind.TheVariants.{TextBytes}
use Rattle.au_base.specs.declared.places.Pos.{Pos}
use Rattle.au_base.specs.declared.tokens.Token.{Token}
use Rattle.au_base.specs.declared.tokens.What.{What}
use Rattle.au_base.specs.declared.tokens.What.TheVariants.{Text}
use Rattle.au_base.specs.Limits.{most_tokens, most_text_bytes}
use Rattle.au_base.specs.Places.{place_after}
use Rattle.au_base.proofs.BoolLemmas.{cond_cases}
use Rattle.au_lexer.specs.Cut.{tokens_among, token_at}
use Rattle.au_lexer.specs.Passing.{limit_above, passed, own_limit, limit_passed, is_within, count_of}
use Rattle.au_lexer.specs.Passing.{count_among, are_within, IsWithinLimits}
use Rattle.au_lexer.specs.Pieces.{Piece, spelling, what_of}
use Rattle.au_lexer.specs.Reading.{text_front, text_sizes, token_front}

-- a count that passes no limit
pub not_passed : (kind : LimitKind) (most count : ℕ) → passed kind most count ≡ None → count ≤ most
not_passed kind most count h =
    elim (cond_cases (nat_lt most count) (Some (limit_above kind most)) None None h) [
      | inl w ↦ let e = w.1 in absurd cc
      | inr w ↦ ltb-false most count w.0
    ]

-- a text that is too long stands at the front
pub text_passes : (read : Option (List ℕ × ℕ)) (meant size : ℕ) (limit : Limit) →
    text_sizes read ≡ Some (meant, size) → passed TextBytes most_text_bytes meant ≡ Some limit →
    (size : ℕ) × (what : What) × (text_front read ≡ token_front size what) × (own_limit what ≡ Some limit)
text_passes None meant size limit h passes = cc
text_passes (Some text) meant size limit h passes =
    let e : length text.0 ≡ meant =
    (let p : ℕ × ℕ = (length text.0, text.1) in let q : ℕ × ℕ = (meant, size) in let pair : p ≡ q = cc
    in ap (λ (r : ℕ × ℕ). r.0) pair) in
    (text.1 + 1, Text text.0, refl, ap (passed TextBytes most_text_bytes) e ∙ passes)

-- how many tokens the pieces are
count_at : (at : Pos) (what : Option What) → length (token_at at what) ≡ count_of what
count_at at None = refl
count_at at (Some what) = refl

pub count_is : (file : ℕ) (front : List ℕ) (pieces : List Piece) → length (tokens_among file front pieces)
    ≡ count_among pieces
count_is file front [] = refl
count_is file front (piece ∷ pieces) =
    let at : Pos = place_after file front in
    let parts = length-append (token_at at (what_of piece)) (tokens_among file (front ++ spelling piece) pieces) in
    omega (arith, parts, count_at at (what_of piece), count_is file (front ++ spelling piece) pieces)

-- one more piece
pub count_more : (pieces : List Piece) (piece : Piece) → count_among (pieces ++ piece ∷ [])
    ≡ count_among pieces + count_of (what_of piece)
count_more [] piece = omega arith
count_more (one ∷ pieces) piece = omega (arith, count_more pieces piece)

pub within_more : (before : ℕ) (pieces : List Piece) (piece : Piece) → are_within before pieces ≡ true →
    is_within (before + count_among pieces) (what_of piece) ≡ true → are_within before (pieces ++ piece ∷ [])
    ≡ true
within_more before [] piece h one =
    and_from _ _ (ap (λ n. is_within n (what_of piece)) (let e : before ≡ before + 0 = omega arith in e) ∙ one)
    refl
within_more before (first ∷ pieces) piece h one =
    let n : ℕ = count_of (what_of first) in
    let parts = and_parts (is_within before (what_of first)) (are_within (before + n) pieces) h in
    let e : before + n + count_among pieces ≡ before + (n + count_among pieces) = omega arith in
    and_from _ _ parts.0 (within_more (before + n) pieces piece parts.1 (ap (λ m. is_within m (what_of piece)) e ∙ one))

-- a token that passes no limit behind so many
within_own : (before : ℕ) (what : What) → is_none (limit_passed before what) ≡ true → (before < most_tokens)
    × (is_none (own_limit what) ≡ true)
within_own before what h =
    elim (cases_lt before most_tokens) [
      | inl lt ↦ (lt, ap is_none (sym (cond-true _ _ _ (lt-ltb before most_tokens lt))) ∙ h)
      | inr ge ↦ absurd (both_ways _ (ap is_none (cond-false _ _ _ (le-ltb before most_tokens ge))) h)
    ]

own_within : (before : ℕ) (what : What) → before < most_tokens → is_none (own_limit what) ≡ true →
    is_none (limit_passed before what) ≡ true
own_within before what lt h = ap is_none (cond-true _ _ _ (lt-ltb before most_tokens lt)) ∙ h

-- no token among pieces that pass no limit passes one of its own, and they are no more than may be
abbrev own : Token → Bool
own token = is_none (own_limit token.what)

at_own : (before : ℕ) (at : Pos) (what : Option What) → before ≤ most_tokens → is_within before what ≡ true →
    (list_all own (token_at at what) ≡ true) × (before + count_of what ≤ most_tokens)
at_own before at None few h = (refl, omega arith)
at_own before at (Some what) few h = let both = within_own before what h
    in (and_from _ _ both.1 refl, omega (arith, both.0))

pub all_own : (file : ℕ) (front : List ℕ) (before : ℕ) (pieces : List Piece) → before ≤ most_tokens →
    are_within before pieces ≡ true →
    (list_all own (tokens_among file front pieces) ≡ true) × (before + count_among pieces ≤ most_tokens)
all_own file front before [] few h = (refl, omega arith)
all_own file front before (piece ∷ pieces) few h =
    let at : Pos = place_after file front in
    let parts = and_parts _ _ h in
    let here = at_own before at (what_of piece) few parts.0 in
    let more = all_own file (front ++ spelling piece) (before + count_of (what_of piece)) pieces here.1 parts.1 in (
      list_all-append own (token_at at (what_of piece)) (tokens_among file (front ++ spelling piece) pieces)
          ∙ and_from _ _ here.0 more.0,
      omega (arith, more.1),
    )

pub tokens_within : (file : ℕ) (pieces : List Piece) → are_within 0 pieces ≡ true →
    IsWithinLimits (tokens_among file [] pieces)
tokens_within file pieces h =
    let all = all_own file [] 0 pieces (omega arith) h in
    (all.0, omega (arith, all.1, count_is file [] pieces))

-- pieces whose tokens are within the limits pass none
at_within : (before : ℕ) (at : Pos) (what : Option What) → before + count_of what ≤ most_tokens →
    list_all own (token_at at what) ≡ true → is_within before what ≡ true
at_within before at None few h = refl
at_within before at (Some what) few h = own_within before what (omega arith) (and_parts _ _ h).0

all_within : (file : ℕ) (front : List ℕ) (before : ℕ) (pieces : List Piece) → before + count_among pieces
    ≤ most_tokens → list_all own (tokens_among file front pieces) ≡ true → are_within before pieces ≡ true
all_within file front before [] few h = refl
all_within file front before (piece ∷ pieces) few h =
    let at : Pos = place_after file front in
    let parts = and_parts _ _ (sym
    (list_all-append own (token_at at (what_of piece)) (tokens_among file (front ++ spelling piece) pieces))
    ∙ h) in
    and_from _ _ (at_within before at (what_of piece) (omega arith) parts.0)
    (all_within file (front ++ spelling piece) (before + count_of (what_of piece)) pieces (omega arith)
    parts.1)

pub pieces_within : (file : ℕ) (pieces : List Piece) → IsWithinLimits (tokens_among file [] pieces) →
    are_within 0 pieces ≡ true
pieces_within file pieces h = all_within file [] 0 pieces (omega (arith, h.1, count_is file [] pieces)) h.0
