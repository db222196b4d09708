-- Steps of loops.
use Rattle.std.proofs.Common.{◌≡◌, ℕ, ◌+◌, ◌<◌, ◌≤◌, Bool, true, false, ◌||◌, List, [], ◌∷◌, ◌++◌, drop, take}
use Rattle.std.proofs.Common.{get_or, length, map, reverse, Option, Some, None, refl, sym, ap, ◌∙◌, arith}
use Rattle.std.proofs.Common.{if◌then◌else◌}
use Rattle.std.proofs.lemmas.List.{at_drop_all, at_drop_more, length-take, map_more, map_push, reverse-append}
use Rattle.std.proofs.lemmas.List.{take_more}
use Rattle.std.specs.Str.{bytes_eq}
use Rattle.au_closed_trees.specs.contracts.phase.ClosedTreesPhase.TheImpl.{ghosts as closed}
use Rattle.au_closed_meanings.specs.Surroundings.{Surroundings, view_in}
use Rattle.au_lowered.specs.Drafts.{Draft}
use Rattle.au_lowered.specs.Expressions.{code_of_all, code_of_named, numbers_from, one_opens, one_opens_named, opens}
use Rattle.au_lowering_expressions.specs.declared.locals.Local.{Local}
use Rattle.au_lowering_expressions.specs.Views.{local_said, scope_said}
use Rattle.au_lowering_expressions.specs.Wrote.{wrote}
use Rattle.au_lowering_expressions.proofs.CodeLemmas.{ClosedArgument, ClosedExpr, said_code}
use Rattle.au_lowering_expressions.proofs.WroteLemmas.{wrote_nothing, wrote_row}
use Rattle.au_meaning.specs.Names.{Scope, variable_of}
use Rattle.au_syntax.specs.Plain.{Bytes}
use Rattle.au_syntax.specs.Views.{argument_all, expression, expression_all}

-- ---- code

module _ (round : Surroundings) (scope : Scope) where
  pub all_step : (xs : List ClosedExpr) (i : ℕ) (x : ClosedExpr) (d more whole : List Draft)
      → i < length xs → x ≡ get_or xs i x → more ≡ wrote (said_code round scope x) d
      → wrote (code_of_all (view_in round) scope (expression_all closed (drop i xs))) d ≡ whole
      → wrote (code_of_all (view_in round) scope (expression_all closed (drop (i + 1) xs))) more ≡ whole
  all_step xs i x d more whole inside is written so_far =
      let rest = code_of_all (view_in round) scope (expression_all closed (drop (i + 1) xs)) in
      ap (wrote rest) (written ∙ ap (λ y. wrote (said_code round scope y) d) is)
      ∙ sym (wrote_row (said_code round scope (get_or xs i x)) rest d)
      ∙ sym (at_drop_more (λ es. wrote (code_of_all (view_in round) scope (expression_all closed es)) d) xs
      i x inside)
      ∙ so_far

  pub all_end : (xs : List ClosedExpr) (i : ℕ) (d whole : List Draft) → length xs ≤ i
      → wrote (code_of_all (view_in round) scope (expression_all closed (drop i xs))) d ≡ whole → d ≡ whole
  all_end xs i d whole ends so_far =
      sym (wrote_nothing d)
      ∙ sym (at_drop_all (λ es. wrote (code_of_all (view_in round) scope (expression_all closed es)) d) xs i
      ends)
      ∙ so_far

  pub named_step : (xs : List ClosedArgument) (i : ℕ) (x : ClosedArgument) (d more whole : List Draft)
      → i < length xs → x ≡ get_or xs i x → more ≡ wrote (said_code round scope x.value) d
      → wrote (code_of_named (view_in round) scope (argument_all closed (drop i xs))) d ≡ whole
      → wrote (code_of_named (view_in round) scope (argument_all closed (drop (i + 1) xs))) more ≡ whole
  named_step xs i x d more whole inside is written so_far =
      let rest = code_of_named (view_in round) scope (argument_all closed (drop (i + 1) xs)) in
      ap (wrote rest) (written ∙ ap (λ (y : ClosedArgument). wrote (said_code round scope y.value) d) is)
      ∙ sym (wrote_row (said_code round scope (get_or xs i x).value) rest d)
      ∙ sym (at_drop_more (λ es. wrote (code_of_named (view_in round) scope (argument_all closed es)) d) xs
      i x inside)
      ∙ so_far

  pub named_end : (xs : List ClosedArgument) (i : ℕ) (d whole : List Draft) → length xs ≤ i
      → wrote (code_of_named (view_in round) scope (argument_all closed (drop i xs))) d ≡ whole → d ≡ whole
  named_end xs i d whole ends so_far =
      sym (wrote_nothing d)
      ∙ sym (at_drop_all (λ es. wrote (code_of_named (view_in round) scope (argument_all closed es)) d) xs i
      ends)
      ∙ so_far

-- ---- whether a borrow is opened

pub opens_step : (xs : List ClosedExpr) (i : ℕ) (x : ClosedExpr) → i < length xs → x ≡ get_or xs i x
    → one_opens (expression_all closed (drop i xs))
    ≡ (if opens (expression closed x) then true else one_opens (expression_all closed (drop (i + 1) xs)))
opens_step xs i x inside is =
    at_drop_more (λ es. one_opens (expression_all closed es)) xs i x inside
    ∙ first_of (opens (expression closed (get_or xs i x)))
    ∙ ap (λ y. if opens (expression closed y) then true else rest) (sym is)
  where
    rest : Bool
    rest = one_opens (expression_all closed (drop (i + 1) xs))

    first_of : (b : Bool) → (b || rest) ≡ (if b then true else rest)
    first_of true = refl
    first_of false = refl

pub opens_named_step : (xs : List ClosedArgument) (i : ℕ) (x : ClosedArgument) → i < length xs
    → x ≡ get_or xs i x
    → one_opens_named (argument_all closed (drop i xs))
    ≡ (if opens (expression closed x.value) then true else one_opens_named
    (argument_all closed (drop (i + 1) xs)))
opens_named_step xs i x inside is =
    at_drop_more (λ es. one_opens_named (argument_all closed es)) xs i x inside
    ∙ first_of (opens (expression closed (get_or xs i x).value))
    ∙ ap (λ (y : ClosedArgument). if opens (expression closed y.value) then true else rest) (sym is)
  where
    rest : Bool
    rest = one_opens_named (argument_all closed (drop (i + 1) xs))

    first_of : (b : Bool) → (b || rest) ≡ (if b then true else rest)
    first_of true = refl
    first_of false = refl

-- ---- variables

-- the variable behind the others is the innermost
pub scope_push : (xs : List Local) (x : Local) → scope_said (xs ++ x ∷ []) ≡ local_said x ∷ scope_said xs
scope_push xs x =
    ap reverse (map_push local_said xs x) ∙ reverse-append (map local_said xs) (local_said x ∷ [])

pub scope_step : (xs : List Local) (i : ℕ) (x : Local) → i < length xs → x ≡ get_or xs i x
    → scope_said (take (i + 1) xs) ≡ local_said x ∷ scope_said (take i xs)
scope_step xs i x inside is =
    ap scope_said (take_more xs i x inside) ∙ scope_push (take i xs) (get_or xs i x)
    ∙ ap (λ y. local_said y ∷ scope_said (take i xs)) (sym is)

-- ---- orders

-- one more parameter has the next number
pub numbers_push : {A : Type 0} (n : ℕ) (xs : List A) (x : A)
    → numbers_from n (xs ++ x ∷ []) ≡ numbers_from n xs ++ (n + length xs) ∷ []
numbers_push n [] x = let same : n ≡ n + 0 = omega arith in ap (λ k. k ∷ []) same
numbers_push n (y ∷ ys) x =
    let same : n + 1 + length ys ≡ n + length (y ∷ ys) = omega arith in
    ap (λ l. n ∷ l) (numbers_push (n + 1) ys x ∙ ap (λ k. numbers_from (n + 1) ys ++ k ∷ []) same)

pub numbers_step : {A : Type 0} (xs : List A) (i : ℕ) (made pushed : List ℕ) (number : ℕ)
    → i < length xs → made ≡ numbers_from 0 (take i xs) → number ≡ i → pushed ≡ made ++ number ∷ []
    → pushed ≡ numbers_from 0 (take (i + 1) xs)
numbers_step {A} xs i made pushed number inside so_far is grows = step xs inside (so_far, (is, grows))
  where
    step : (ys : List A) → i < length ys
        → (made ≡ numbers_from 0 (take i ys)) × ((number ≡ i) × (pushed ≡ made ++ number ∷ []))
        → pushed ≡ numbers_from 0 (take (i + 1) ys)
    step [] inside facts = absurd (omega arith)
    step (y ∷ ys) inside facts =
        let long : 0 + length (take i (y ∷ ys)) ≡ i = omega (arith, length-take i (y ∷ ys)) in
        facts.1.1
        ∙ ap (λ l. l ++ number ∷ []) facts.0
        ∙ ap (λ n. numbers_from 0 (take i (y ∷ ys)) ++ n ∷ []) (facts.1.0 ∙ sym long)
        ∙ sym (numbers_push 0 (take i (y ∷ ys)) (get_or (y ∷ ys) i y))
        ∙ sym (ap (numbers_from 0) (take_more (y ∷ ys) i y inside))

-- one more element has its own
pub mapped_step : {A B : Type 0} (f : A → B) (xs : List A) (i : ℕ) (x : A) (made pushed : List B) (new : B)
    → i < length xs → x ≡ get_or xs i x → made ≡ map f (take i xs) → new ≡ f x → pushed ≡ made ++ new ∷ []
    → pushed ≡ map f (take (i + 1) xs)
mapped_step f xs i x made pushed new inside is so_far its grows =
    grows ∙ ap (λ l. l ++ new ∷ []) so_far
    ∙ ap (λ y. map f (take i xs) ++ y ∷ []) (its ∙ ap f is)
    ∙ sym (map_more f xs i x inside)
