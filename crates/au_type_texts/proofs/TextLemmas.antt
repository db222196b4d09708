-- What a loop over arguments has still to add to their text.
use Rattle.std.proofs.Common.{◌≡◌, ℕ, suc, ◌+◌, ◌<◌, ◌≤◌, List, [], ◌∷◌, ◌++◌, length, drop, get_or, refl, ap}
use Rattle.std.proofs.Common.{◌∙◌, sym, append_assoc, arith}
use Rattle.std.proofs.Math.Seq.{drop-cons}
use Rattle.std.proofs.lemmas.List.{drop_all}
use Rattle.std.specs.Prelude.{codes}
use Rattle.au_types.specs.declared.headings.Head.{Head}
use Rattle.au_types.specs.declared.types.Arg.{Arg}
use Rattle.au_types.specs.declared.types.DeclAt.{DeclAt}
use Rattle.au_types.specs.Types.{Arguments, no_arguments, arguments}
use Rattle.au_types.specs.Views.{argument, argument_all}
use Rattle.au_type_texts.specs.Texts.{argument_text, arguments_text, others_text}

module _ (rows : List (DeclAt × Head)) where
  -- what is left: a mark, an argument and what stands behind it, or else the bracket that closes
  pub left_text : List ℕ → Arguments → List ℕ
  left_text mark no_arguments = codes "]"
  left_text mark (arguments one rest) = mark ++ argument_text rows one ++ others_text rows rest

  pub others_left : (args : Arguments) → others_text rows args ≡ left_text (codes ", ") args
  unfolding left_text
  others_left no_arguments = refl
  others_left (arguments one rest) = refl

  -- at the end
  pub left_none : (mark : List ℕ) (xs : List Arg) (i : ℕ) → length xs ≤ i →
      left_text mark (argument_all (drop i xs)) ≡ codes "]"
  unfolding left_text
  left_none mark xs i past = ap (λ r. left_text mark (argument_all r)) (drop_all i xs past)

  -- at the start
  pub left_all : (xs : List Arg) → (length xs ≡ 0 → ⊥) → left_text (codes "[") (argument_all (drop 0 xs))
      ≡ arguments_text rows (argument_all xs)
  unfolding left_text
  left_all [] some = absurd (some refl)
  left_all (x ∷ xs) some = refl

  -- one more
  pub left_more : (mark : List ℕ) (xs : List Arg) (i : ℕ) (x : Arg) → i < length xs → x ≡ get_or xs i x →
      left_text mark (argument_all (drop i xs)) ≡ mark ++ argument_text rows (argument x)
      ++ left_text (codes ", ") (argument_all (drop (i + 1) xs))
  unfolding left_text
  left_more mark xs i x within is =
      ap (λ r. left_text mark (argument_all r)) (drop-cons xs i x within)
      ∙ ap (λ y. mark ++ argument_text rows (argument y) ++ others_text rows (argument_all (drop (suc i) xs))) (sym is)
      ∙ ap (λ k. mark ++ argument_text rows (argument x) ++ others_text rows (argument_all (drop k xs)))
      (let e : suc i ≡ i + 1 = omega arith in e)
      ∙ ap (λ r. mark ++ argument_text rows (argument x) ++ r) (others_left (argument_all (drop (i + 1) xs)))

-- the five pieces of a reference
pub pieces : (x a b c d e f g h i j : List ℕ) → b ≡ x ++ a → d ≡ b ++ c → f ≡ d ++ e → h ≡ f ++ g → j ≡ h
    ++ i → j ≡ x ++ (a ++ c ++ e ++ g ++ i)
pieces x a b c d e f g h i j one two three four five =
    five ∙ ap (λ k. k ++ i) (four ∙ ap (λ k. k ++ g) (three ∙ ap (λ k. k ++ e) (two ∙ ap (λ k. k ++ c) one)))
    ∙ (let all : ((((x ++ a) ++ c) ++ e) ++ g) ++ i ≡ x ++ ((((a ++ c) ++ e) ++ g) ++ i) = simp append_assoc in all)
