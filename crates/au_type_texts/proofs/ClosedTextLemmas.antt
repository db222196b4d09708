-- What a loop over closed types has still to add to their text.
use Rattle.std.proofs.Common.{◌≡◌, ℕ, suc, ◌+◌, ◌<◌, ◌≤◌, List, [], ◌∷◌, ◌++◌, length, drop, get_or, refl, ap}
use Rattle.std.proofs.Common.{◌∙◌, sym, append_assoc, arith}
use Rattle.std.proofs.Math.Seq.{drop-cons}
use Rattle.std.proofs.lemmas.List.{drop_all}
use Rattle.std.specs.Prelude.{codes}
use Rattle.au_types.specs.declared.headings.Head.{Head}
use Rattle.au_types.specs.declared.types.DeclAt.{DeclAt}
use Rattle.au_type_texts.specs.declared.types.Closed.{Closed}
use Rattle.au_type_texts.specs.ClosedTexts.{list_text, others_text, text_of}
use Rattle.au_type_texts.specs.Types.{ClosedTypes, no_types, types}
use Rattle.au_type_texts.specs.Views.{closed_meaning, closed_meanings}

module _ (rows : List (DeclAt × Head)) where
  -- what is left: a mark, a type and what stands behind it, or else the bracket that closes
  pub left_text : List ℕ → ClosedTypes → List ℕ
  left_text mark no_types = codes "]"
  left_text mark (types one rest) = mark ++ text_of rows one ++ others_text rows rest

  others_left : (list : ClosedTypes) → others_text rows list ≡ left_text (codes ", ") list
  unfolding left_text
  others_left no_types = refl
  others_left (types one rest) = refl

  -- at the end
  pub left_none : (mark : List ℕ) (xs : List Closed) (i : ℕ) → length xs ≤ i →
      left_text mark (closed_meanings (drop i xs)) ≡ codes "]"
  unfolding left_text
  left_none mark xs i past = ap (λ r. left_text mark (closed_meanings r)) (drop_all i xs past)

  -- at the start
  pub left_all : (xs : List Closed) → (length xs ≡ 0 → ⊥) →
      left_text (codes "[") (closed_meanings (drop 0 xs)) ≡ list_text rows (closed_meanings xs)
  unfolding left_text
  left_all [] some = absurd (some refl)
  left_all (x ∷ xs) some = refl

  -- one more
  pub left_more : (mark : List ℕ) (xs : List Closed) (i : ℕ) (x : Closed) → i < length xs → x ≡ get_or xs i x →
      left_text mark (closed_meanings (drop i xs)) ≡ mark ++ text_of rows (closed_meaning x)
      ++ left_text (codes ", ") (closed_meanings (drop (i + 1) xs))
  unfolding left_text
  left_more mark xs i x within is =
      ap (λ r. left_text mark (closed_meanings r)) (drop-cons xs i x within)
      ∙ ap (λ y. mark ++ text_of rows (closed_meaning y)
      ++ others_text rows (closed_meanings (drop (suc i) xs))) (sym is)
      ∙ ap (λ k. mark ++ text_of rows (closed_meaning x) ++ others_text rows (closed_meanings (drop k xs)))
      (let e : suc i ≡ i + 1 = omega arith in e)
      ∙ ap (λ r. mark ++ text_of rows (closed_meaning x) ++ r) (others_left (closed_meanings (drop (i + 1) xs)))

-- the three pieces of a reference
pub pieces : (x a b c d e f : List ℕ) → b ≡ x ++ a → d ≡ b ++ c → f ≡ d ++ e → f ≡ x ++ (a ++ c ++ e)
pieces x a b c d e f one two three =
    three ∙ ap (λ k. k ++ e) (two ∙ ap (λ k. k ++ c) one)
    ∙ (let all : ((x ++ a) ++ c) ++ e ≡ x ++ ((a ++ c) ++ e) = simp append_assoc in all)
