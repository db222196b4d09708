-- The fault of the part that is judged next is the fault of the whole.
use Rattle.std.proofs.Common.{◌≡◌, Bool, true, false, if◌then◌else◌, refl, ap, ◌∙◌, Some, None, Ok, Err}
use Rattle.au_syntax.specs.declared.expressions.BinaryOperator.{BinaryOperator}
use Rattle.au_syntax.specs.Expressions.{Node, parenthesized, dereference, binary, negation, typed, choice}
use Rattle.au_syntax.specs.Plain.{PlainExpression}
use Rattle.au_types.specs.Types.{Meaning, truth}
use Rattle.au_typing.specs.Scopes.{Scope}
use Rattle.au_typing.specs.Bare.{is_arithmetic, is_bare}
use Rattle.au_typing.specs.Faults.{Fault, Noting, ◌>>=◌}
use Rattle.au_typing.specs.Lookups.{outcome_noted}
use Rattle.au_typing.specs.Notes.{Mode, Note, NotedExpression, noted_at, type_of}
use Rattle.au_typing.specs.Operands.{before, behind_it, of_one_type, paired}
use Rattle.au_typing.specs.Order.{JudgedNext, Paired, pair_mode, in_parentheses, what_is_read}
use Rattle.au_typing.specs.Order.{what_is_negated, what_is_typed, left_of_logical, right_of_logical, of_pair}
use Rattle.au_typing.specs.Order.{test_of_choice, of_choice, both_bare_first, none_bare_first, left_first}
use Rattle.au_typing.specs.Order.{right_first, both_bare_next, none_bare_next, right_next, left_next}
use Rattle.au_typing.specs.Rules.{is_logical, noted}
use Rattle.au_typing.specs.Search.{arithmetic_note, binary_noted, comparison_note, dereference_note, note_expression}
use Rattle.au_typing.proofs.Refused.{noting_is_given}
use Rattle.au_typing.proofs.Steps.{bind_found}

pub bind_fails : {A B : Type 0} {r : Noting A} {fault : Fault} (f : A → Noting B) → r ≡ Err fault →
    (r >>= f) ≡ Err fault
bind_fails f h = ap (λ r. r >>= f) h

module _ (scope : Scope) where
  -- two operands
  abbrev pair : PlainExpression → PlainExpression → Mode → Bool → Bool → Noting (NotedExpression × NotedExpression)
  pair a b mode x y = paired x y (note_expression scope a) (note_expression scope b) mode

  tests : (a b : PlainExpression) (mode : Mode) (x y : Bool) → is_bare a ≡ x → is_bare b ≡ y →
      pair a b mode (is_bare a) (is_bare b) ≡ pair a b mode x y
  tests a b mode x y left right =
      ap (λ (t : Bool). pair a b mode t (is_bare b)) left ∙ ap (pair a b mode x) right

  pair_fails : (a b d : PlainExpression) (mode own : Mode) (fault : Fault) → Paired scope a b mode d own →
      note_expression scope d own ≡ Err fault → pair a b mode (is_bare a) (is_bare b) ≡ Err fault
  pair_fails a b d mode own fault (both_bare_first x y) h =
      tests a b mode true true x y ∙ bind_fails (λ (n : NotedExpression). note_expression scope b mode >>=
      behind_it n) h
  pair_fails a b d mode own fault (none_bare_first x y) h =
      tests a b mode false false x y
      ∙ bind_fails (λ (n : NotedExpression). note_expression scope b mode >>= behind_it n) h
  pair_fails a b d mode own fault (left_first x y) h =
      tests a b mode false true x y ∙ bind_fails
      (λ (n : NotedExpression). note_expression scope b (Some (type_of n)) >>= behind_it n) h
  pair_fails a b d mode own fault (right_first x y) h =
      tests a b mode true false x y ∙ bind_fails
      (λ (n : NotedExpression). note_expression scope a (Some (type_of n)) >>= before n) h
  pair_fails a b d mode own fault (both_bare_next n x y is) h =
      tests a b mode true true x y
      ∙ (bind_found (λ (m : NotedExpression). note_expression scope b mode >>= behind_it m)
      (noting_is_given scope a mode n is) ∙ bind_fails (behind_it n) h)
  pair_fails a b d mode own fault (none_bare_next n x y is) h =
      tests a b mode false false x y
      ∙ (bind_found (λ (m : NotedExpression). note_expression scope b mode >>= behind_it m)
      (noting_is_given scope a mode n is) ∙ bind_fails (behind_it n) h)
  pair_fails a b d mode own fault (right_next n x y is) h =
      tests a b mode false true x y
      ∙ (bind_found (λ (m : NotedExpression). note_expression scope b (Some (type_of m)) >>= behind_it m)
      (noting_is_given scope a mode n is) ∙ bind_fails (behind_it n) h)
  pair_fails a b d mode own fault (left_next n x y is) h =
      tests a b mode true false x y
      ∙ (bind_found (λ (m : NotedExpression). note_expression scope a (Some (type_of m)) >>= before m)
      (noting_is_given scope b mode n is) ∙ bind_fails (before n) h)

  -- a binary operation that isn't logical fails where its pair does
  pair_of_binary : (arithmetic : Bool) (u : Node (Unit {0})) (op : BinaryOperator) (a b : PlainExpression)
      (mode : Mode) (fault : Fault) → pair a b (if arithmetic then mode else None) (is_bare a) (is_bare b)
      ≡ Err fault → binary_noted scope arithmetic false u op (is_bare a) (is_bare b) (note_expression scope a)
      (note_expression scope b) mode ≡ Err fault
  pair_of_binary true u op a b mode fault h =
      bind_fails (λ (z : NotedExpression × NotedExpression). of_one_type z.0 z.1
      (arithmetic_note mode (type_of z.0)) >>= λ (n : Note). Ok (binary (noted_at u n) op z.0 z.1)) h
  pair_of_binary false u op a b mode fault h =
      bind_fails (λ (z : NotedExpression × NotedExpression). comparison_note op mode z.0 z.1 >>=
      λ (n : Note). Ok (binary (noted_at u n) op z.0 z.1)) h

  -- a binary operation with its tests settled
  pub settled : (u : Node (Unit {0})) (op : BinaryOperator) (a b : PlainExpression) (mode : Mode)
      (x y : Bool) → is_arithmetic op ≡ x → is_logical op ≡ y → note_expression scope (binary u op a b) mode
      ≡ binary_noted scope x y u op (is_bare a) (is_bare b) (note_expression scope a) (note_expression scope b)
      mode
  settled u op a b mode x y arithmetic logical =
      ap (λ (t : Bool). binary_noted scope t (is_logical op) u op (is_bare a) (is_bare b)
      (note_expression scope a) (note_expression scope b) mode) arithmetic
      ∙ ap (λ (t : Bool). binary_noted scope x t u op (is_bare a) (is_bare b) (note_expression scope a)
      (note_expression scope b) mode) logical

  pub next_fails : (e d : PlainExpression) (mode own : Mode) (fault : Fault) → JudgedNext scope e mode d own →
      note_expression scope d own ≡ Err fault → note_expression scope e mode ≡ Err fault
  next_fails e d mode own fault (in_parentheses u f m) h =
      bind_fails (λ (a : NotedExpression). noted m (type_of a) >>= λ (n : Note). Ok (parenthesized (noted_at u n) a)) h
  next_fails e d mode own fault (what_is_read u f m) h =
      bind_fails (λ (a : NotedExpression). dereference_note scope m (type_of a) >>=
      λ (n : Note). Ok (dereference (noted_at u n) a)) h
  next_fails e d mode own fault (what_is_negated u f m) h =
      bind_fails (λ (a : NotedExpression). noted m truth >>= λ (n : Note). Ok (negation (noted_at u n) a)) h
  next_fails e d mode own fault (what_is_typed u f t m of is) h =
      bind_found (λ (w : Meaning). note_expression scope f (Some w) >>= λ (a : NotedExpression). noted m w >>=
      λ (n : Note). Ok (typed (noted_at u n) a t)) (ap outcome_noted is)
      ∙ bind_fails (λ (a : NotedExpression). noted m of >>= λ (n : Note). Ok (typed (noted_at u n) a t)) h
  next_fails e d mode own fault (left_of_logical u op a b m x y) h =
      settled u op a b m false true x y
      ∙ bind_fails (λ (left : NotedExpression). note_expression scope b (Some truth) >>=
      λ (right : NotedExpression). noted m truth >>= λ (n : Note). Ok (binary (noted_at u n) op left right))
      h
  next_fails e d mode own fault (right_of_logical u op a b m n x y is) h =
      settled u op a b m false true x y
      ∙ (bind_found (λ (left : NotedExpression). note_expression scope b (Some truth) >>=
      λ (right : NotedExpression). noted m truth >>= λ (k : Note). Ok (binary (noted_at u k) op left right))
      (noting_is_given scope a (Some truth) n is)
      ∙ bind_fails (λ (right : NotedExpression). noted m truth >>=
      λ (k : Note). Ok (binary (noted_at u k) op n right)) h)
  next_fails e d mode own fault (of_pair u op a b f m n logical pairs) h =
      settled u op a b m (is_arithmetic op) false refl logical
      ∙ pair_of_binary (is_arithmetic op) u op a b m fault (pair_fails a b f (pair_mode op m) n fault pairs h)
  next_fails e d mode own fault (test_of_choice u c a b m) h =
      bind_fails (λ (test : NotedExpression). pair a b m (is_bare a) (is_bare b) >>=
      λ (z : NotedExpression × NotedExpression). of_one_type z.0 z.1 (noted m (type_of z.0)) >>=
      λ (n : Note). Ok (choice (noted_at u n) test z.0 z.1)) h
  next_fails e d mode own fault (of_choice u c a b f m n x is pairs) h =
      bind_found (λ (test : NotedExpression). pair a b m (is_bare a) (is_bare b) >>=
      λ (z : NotedExpression × NotedExpression). of_one_type z.0 z.1 (noted m (type_of z.0)) >>=
      λ (k : Note). Ok (choice (noted_at u k) test z.0 z.1)) (noting_is_given scope c (Some truth) x is)
      ∙ bind_fails (λ (z : NotedExpression × NotedExpression). of_one_type z.0 z.1 (noted m (type_of z.0)) >>=
      λ (k : Note). Ok (choice (noted_at u k) x z.0 z.1)) (pair_fails a b f m n fault pairs h)
