-- The two passes over arguments: what is left of each, from an argument on.
use Rattle.std.proofs.Common.{◌≡◌, ℕ, ◌+◌, ◌<◌, ◌≤◌, List, [], ◌∷◌, ◌++◌, Option, Ok, Err, refl, sym, ap, ◌∙◌}
use Rattle.std.proofs.Common.{drop, get_or, length, map}
use Rattle.std.proofs.lemmas.List.{append_assoc, append-nil, drop_all, map_push}
use Rattle.au_base.proofs.ListLemmas.{next_item}
use Rattle.au_matching.specs.Bindings.{Bindings}
use Rattle.au_noting.specs.Said.{meanings}
use Rattle.au_noting_expressions.specs.Arguments.{ReadCode, each_operand}
use Rattle.au_noting_expressions.specs.Said.{NotedCode, all_said, half_said}
use Rattle.au_sights.specs.contracts.noted.NotedPhase.TheImpl.{ghosts as noted}
use Rattle.au_typing.specs.Scopes.{Scope}
use Rattle.au_syntax.specs.contracts.parsed.ParsedPhase.TheImpl.{ghosts as parsed}
use Rattle.au_syntax.specs.Views.{expression}
use Rattle.au_types.specs.declared.types.Ty.{Ty}
use Rattle.au_types.specs.Views.{meaning}
use Rattle.au_typing.specs.Bare.{is_bare}
use Rattle.au_typing.specs.Faults.{Noting, ◌>>=◌}
use Rattle.au_typing.specs.Notes.{NotedExpression}
use Rattle.au_typing.specs.Search.{note_expression}
use Rattle.au_typing.specs.SearchCalls.{Half, first, first_step, put_before, second, second_step}

-- ---- what is found behind what was found before

abbrev pub with_front : {A : Type 0} → List A → Noting (List A × Bindings) → Noting (List A × Bindings)
with_front {A} front r = r >>= λ (z : List A × Bindings). Ok (front ++ z.0, z.1)

front_grows : {A : Type 0} (front : List A) (x : A) (r : Noting (List A × Bindings)) →
    with_front front (r >>= put_before x) ≡ with_front (front ++ x ∷ []) r
front_grows {A} front x (Ok z) = ap (λ (l : List A). Ok (l, z.1)) (sym (append_assoc front (x ∷ []) z.0))
front_grows front x (Err f) = refl

module _ (scope : Scope) (es : List ReadCode) (types : List Ty) where
  -- ---- the first pass

  -- what the first pass gives from an argument on
  abbrev pub first_left : List (Option NotedCode) → ℕ → Bindings → Noting (List Half × Bindings)
  first_left made i s = with_front (map half_said made)
      (first (each_operand scope (drop i es)) (meanings (drop i types)) s)

  module _ (i : ℕ) (e : ReadCode) (p : Ty) (in_es : i < length es) (e_is : e ≡ get_or es i e)
      (in_types : i < length types) (p_is : p ≡ get_or types i p) where
    -- what the first pass does at this argument, and then at the others
    first_at : (s : Bindings) → first (each_operand scope (drop i es)) (meanings (drop i types)) s
        ≡ (first_step (is_bare (expression parsed e)) (note_expression scope (expression parsed e)) (meaning p) s
        >>= λ (y : Half × Bindings). first (each_operand scope (drop (i + 1) es))
        (meanings (drop (i + 1) types)) y.1 >>= put_before y.0)
    first_at s =
        ap (λ (l : List ReadCode). first (each_operand scope l) (meanings (drop i types)) s)
        (next_item es i e e_is in_es)
        ∙ ap (λ (l : List Ty). first (each_operand scope (e ∷ drop (i + 1) es)) (meanings l) s)
        (next_item types i p p_is in_types)

    pub first_turns : (made grown : List (Option NotedCode)) (half : Option NotedCode) (s r : Bindings) →
        grown ≡ made ++ half ∷ [] →
        first_step (is_bare (expression parsed e)) (note_expression scope (expression parsed e)) (meaning p) s
        ≡ Ok (half_said half, r) →
        first_left made i s ≡ first_left grown (i + 1) r
    first_turns made grown half s r grows step =
        let rest = first (each_operand scope (drop (i + 1) es)) (meanings (drop (i + 1) types)) r in
        ap (with_front (map half_said made))
        (first_at s
        ∙ ap (λ (q : Noting (Half × Bindings)). q >>=
        λ (y : Half × Bindings). first (each_operand scope (drop (i + 1) es))
        (meanings (drop (i + 1) types)) y.1 >>= put_before y.0) step)
        ∙ (front_grows (map half_said made) (half_said half) rest
        ∙ ap (λ (l : List Half). with_front l rest) (sym (ap (map half_said) grows ∙ map_push half_said made half)))

  pub first_ends : (made : List (Option NotedCode)) (i : ℕ) (s : Bindings) → length es ≤ i →
      length types ≤ i → first_left made i s ≡ Ok (map half_said made, s)
  first_ends made i s no_es no_types =
      ap (with_front (map half_said made))
      (ap (λ (l : List ReadCode). first (each_operand scope l) (meanings (drop i types)) s) (drop_all i es no_es)
      ∙ ap (λ (l : List Ty). first [] (meanings l) s) (drop_all i types no_types))
      ∙ ap (λ (l : List Half). Ok (l, s)) (append-nil (map half_said made))

  -- ---- the second pass

  -- what the second pass gives from an argument on, over what the first pass left of it and of the others
  abbrev pub second_left : List NotedCode → List (Option NotedCode) → ℕ → Bindings →
      Noting (List NotedExpression × Bindings)
  second_left made halves i s = with_front (all_said made)
      (second (each_operand scope (drop i es)) (map half_said halves) (meanings (drop i types)) s)

  module _ (i : ℕ) (e : ReadCode) (p : Ty) (in_es : i < length es) (e_is : e ≡ get_or es i e)
      (in_types : i < length types) (p_is : p ≡ get_or types i p)
      (halves rest : List (Option NotedCode)) (half : Option NotedCode) (taken : halves ≡ half ∷ rest) where
    second_at : (s : Bindings) → second (each_operand scope (drop i es)) (map half_said halves)
        (meanings (drop i types)) s
        ≡ (second_step (half_said half) (note_expression scope (expression parsed e)) (meaning p) s
        >>= λ (y : NotedExpression × Bindings). second (each_operand scope (drop (i + 1) es))
        (map half_said rest) (meanings (drop (i + 1) types)) y.1 >>= put_before y.0)
    second_at s =
        ap (λ (l : List ReadCode). second (each_operand scope l) (map half_said halves)
        (meanings (drop i types)) s) (next_item es i e e_is in_es)
        ∙ (ap (λ (l : List Ty). second (each_operand scope (e ∷ drop (i + 1) es)) (map half_said halves)
        (meanings l) s) (next_item types i p p_is in_types)
        ∙ ap (λ (l : List (Option NotedCode)). second (each_operand scope (e ∷ drop (i + 1) es))
        (map half_said l) (meanings (p ∷ drop (i + 1) types)) s) taken)

    pub second_turns : (made grown : List NotedCode) (one : NotedCode) (s r : Bindings) → grown ≡ made ++ one ∷ [] →
        second_step (half_said half) (note_expression scope (expression parsed e)) (meaning p) s
        ≡ Ok (expression noted one, r) →
        second_left made halves i s ≡ second_left grown rest (i + 1) r
    second_turns made grown one s r grows step =
        let after = second (each_operand scope (drop (i + 1) es)) (map half_said rest)
        (meanings (drop (i + 1) types)) r in
        ap (with_front (all_said made))
        (second_at s
        ∙ ap (λ (q : Noting (NotedExpression × Bindings)). q >>= λ (y : NotedExpression × Bindings). second
        (each_operand scope (drop (i + 1) es)) (map half_said rest) (meanings (drop (i + 1) types)) y.1 >>=
        put_before y.0) step)
        ∙ (front_grows (all_said made) (expression noted one) after
        ∙ ap (λ (l : List NotedExpression). with_front l after)
        (sym (ap all_said grows ∙ map_push (expression noted) made one)))
