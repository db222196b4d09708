-- How a place moves on by one byte.
use Rattle.std.proofs.Common.{◌≡◌, ℕ, ◌+◌, ◌<◌, List, [], ◌∷◌, ◌++◌, Bool, not, true, false, cond, ap, ◌∙◌}
use Rattle.std.proofs.Common.{sym, arith, get_or, take, length, append_assoc}
use Rattle.std.specs.List.{suffix_len, prefix_len, count_by}
use Rattle.std.proofs.lemmas.List.{reverse-append, take_more}
use Rattle.std.proofs.lemmas.List.Sums.{sum_by_push}
use Rattle.au_base.specs.declared.places.Pos.{Pos}
use Rattle.au_base.specs.Places.{place_after, is_newline}

-- the place after one more byte, by whether it ends a line
at_more : ℕ → List ℕ → Bool → Pos
at_more file front ends = record {
  file = file;
  line = 1 + (count_by is_newline front + cond ends 1 0);
  column = 1 + cond (not ends) (1 + suffix_len (λ x. not (is_newline x)) front) 0;
}

place_push : (file : ℕ) (front : List ℕ) (b : ℕ) → place_after file (front ++ b ∷ []) ≡ at_more file front
    (is_newline b)
unfolding at_more
place_push file front b =
    let lines = sum_by_push (λ x. cond (is_newline x) 1 0) front b in
    let columns = ap (prefix_len (λ x. not (is_newline x))) (reverse-append front (b ∷ [])) in
    let make : ℕ → ℕ → Pos = λ l c. record { file = file; line = 1 + l; column = 1 + c } in
    ap (λ l. make l (suffix_len (λ x. not (is_newline x)) (front ++ b ∷ []))) lines
    ∙ ap (λ c. make (count_by is_newline front + cond (is_newline b) 1 0) c) columns

-- behind a newline the next line begins
pub place_newline : (at : Pos) (file : ℕ) (front : List ℕ) (b : ℕ) → at ≡ place_after file front → is_newline b ≡ true →
    record { file = at.file; line = at.line + 1; column = 1 } ≡ place_after file (front ++ b ∷ [])
unfolding at_more
place_newline at file front b e ends =
    let made : Pos → Pos = λ p. record { file = p.file; line = p.line + 1; column = 1 } in
    let moved : made (place_after file front) ≡ at_more file front true =
    ap (λ l. let p : Pos = record { file = file; line = l; column = 1 } in p) (omega arith) in
    ap made e ∙ moved ∙ sym (place_push file front b ∙ ap (at_more file front) ends)

-- behind another byte the line goes on
pub place_other : (at : Pos) (file : ℕ) (front : List ℕ) (b : ℕ) → at ≡ place_after file front → is_newline b ≡ false →
    record { file = at.file; line = at.line; column = at.column + 1 } ≡ place_after file (front ++ b ∷ [])
unfolding at_more
place_other at file front b e ends =
    let made : Pos → Pos = λ p. record { file = p.file; line = p.line; column = p.column + 1 } in
    let w : ℕ = suffix_len (λ x. not (is_newline x)) front in
    let n : ℕ = count_by is_newline front in
    let moved : made (place_after file front) ≡ at_more file front false =
    ap (λ l. let p : Pos = record { file = file; line = l; column = 1 + w + 1 } in p)
    (let h : 1 + n ≡ 1 + (n + 0) = omega arith in h)
    ∙ ap (λ c. let p : Pos = record { file = file; line = 1 + (n + 0); column = c } in p)
    (let h : 1 + w + 1 ≡ 1 + (1 + w) = omega arith in h) in
    ap made e ∙ moved ∙ sym (place_push file front b ∙ ap (at_more file front) ends)

-- one more byte of a text that is gone through
pub front_more : (front bytes : List ℕ) (i : ℕ) → i < length bytes → front ++ take (i + 1) bytes
    ≡ (front ++ take i bytes) ++ get_or bytes i 0 ∷ []
front_more front bytes i h = ap (λ x. front ++ x) (take_more bytes i 0 h)
    ∙ sym (append_assoc front (take i bytes) (get_or bytes i 0 ∷ []))
