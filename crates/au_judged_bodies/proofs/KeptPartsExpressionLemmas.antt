-- An expression in which no variable in scope is consumed in a part that may be left out.
use Rattle.std.proofs.Common.{◌≡◌, ℕ, ◌+◌, Bool, true, false, ◌&&◌, ◌||◌, [], ◌∷◌, Some, refl, ap, subst, ◌∙◌}
use Rattle.std.proofs.Common.{arith, if◌then◌else◌}
use Rattle.std.proofs.lemmas.Bool.{and_from, and_parts, eqb-true, eq-eqb}
use Rattle.au_base.proofs.BoolLemmas.{or_false}
use Rattle.au_lives.specs.declared.lives.Sort.{Sort}
use Rattle.au_lives.specs.Lives.{is_free}
use Rattle.au_lives.specs.Mentions.{Counts, counts_in, counts_in_all, counts_in_arguments, is_kept}
use Rattle.au_lives.specs.Mentions.{is_variable}
use Rattle.au_lives.specs.Mentions.{keeps_parts, keeps_parts_of_all, keeps_parts_of_arguments, may_skip}
use Rattle.au_meaning.specs.Expressions.{operation_of}
use Rattle.au_meaning.specs.Names.{Scope, Variable, variable_of}
use Rattle.au_meaning.specs.Views.{View}
use Rattle.au_syntax.specs.declared.expressions.BinaryOperator.{BinaryOperator}
use Rattle.au_syntax.specs.declared.expressions.BinaryOperator.TheVariants as operators
use Rattle.au_syntax.specs.Expressions.{Expression, Expressions, Arguments, number, negative, text, truth}
use Rattle.au_syntax.specs.Expressions.{nil, path, arrow, call, named_call, parenthesized, dereference}
use Rattle.au_syntax.specs.Expressions.{borrow, borrow_part, binary, negation, typed, choice, no_expressions}
use Rattle.au_syntax.specs.Expressions.{expressions, no_arguments, arguments}
use Rattle.au_syntax.specs.Plain.{Bytes, PlainArguments, PlainExpression, PlainExpressions, plain_arguments}
use Rattle.au_syntax.specs.Plain.{plain_expression, plain_expressions}
use Rattle.au_running_lives.specs.Uses.{IsKept, uses}
use Rattle.au_running_lives.proofs.CountLemmas.{counts_agree}
use Rattle.au_running_lives.specs.Counted.{AllSayFree, NamedSayFree}
use Rattle.au_judged_bodies.specs.Kept.{IsKeptBy, Keeps, KeepsIn, KeepsNamed}
use Rattle.au_judged_bodies.specs.Lived.{SaysSorts}
use Rattle.au_judged_bodies.specs.NamesAheadStanding.{is_named}
use Rattle.au_judged_bodies.proofs.ScopeLemmas.{Numbered, at_number}
use Rattle.au_judged_bodies.proofs.UseLemmas.{unused}

-- ---- one variable

none_left : (a b : ℕ) → a + b ≡ 0 → a ≡ 0
none_left a b e = omega (arith, e)

none_right : (a b : ℕ) → a + b ≡ 0 → b ≡ 0
none_right a b e = omega (arith, e)

chosen : (b : Bool) (l r : Bool) → l ≡ true → r ≡ true → (if b then l else r) ≡ true
chosen true l r a b = a
chosen false l r a b = b

module _ (x : Bytes) where
  -- a variable alone has no parts
  whole_variable : (free : Bool) (e : PlainExpression) → is_variable e ≡ true → keeps_parts x free e ≡ true
  whole_variable free (path n y []) is = refl
  whole_variable free (parenthesized n e) is = whole_variable free e is
  whole_variable free (path n y (field ∷ fields)) is = refl
  whole_variable free other is = absurd cc

  mutual
    -- where nothing is consumed, nothing is in a part
    kept_whole : (free : Bool) (e : PlainExpression) → (counts_in x free e).consumed ≡ 0
        → keeps_parts x free e ≡ true
    kept_whole free (number n l) none = refl
    kept_whole free (negative n l) none = refl
    kept_whole free (text n t) none = refl
    kept_whole free (truth n b) none = refl
    kept_whole free (nil n) none = refl
    kept_whole free (path n y fields) none = refl
    kept_whole free (arrow n y fields) none = refl
    kept_whole free (call n f args c) none = kept_all free args none
    kept_whole free (named_call n f args c) none = kept_named free args none
    kept_whole free (parenthesized n e) none = kept_whole free e none
    kept_whole free (dereference n e) none = by (is_variable e) refl (λ u same. kept_whole u e same) none
      where
        by : (b : Bool) → is_variable e ≡ b
            → ((u : Bool) → (counts_in x u e).consumed ≡ 0 → keeps_parts x u e ≡ true)
            → (counts_in x (free || b) e).consumed ≡ 0 → keeps_parts x free e ≡ true
        by true is rest none = whole_variable free e is
        by false is rest none =
            rest free (subst (λ (u : Bool). (counts_in x u e).consumed ≡ 0) (or_false free) none)
    kept_whole free (borrow n m y) none = refl
    kept_whole free (borrow_part n y fields) none = refl
    kept_whole free (binary n op a b) none =
        let first = none_left (counts_in x free a).consumed (counts_in x free b).consumed none in
        let second = none_right (counts_in x free a).consumed (counts_in x free b).consumed none in
        and_from (keeps_parts x free a) (if may_skip op then is_kept x free b else keeps_parts x free b)
        (kept_whole free a first)
        (chosen (may_skip op) (is_kept x free b) (keeps_parts x free b)
        (eq-eqb (counts_in x free b).consumed 0 second) (kept_whole free b second))
    kept_whole free (negation n e) none = kept_whole free e none
    kept_whole free (typed n e t) none = kept_whole free e none
    kept_whole free (choice n c a b) none =
        let k = (counts_in x free c).consumed in
        let l = (counts_in x free a).consumed in
        let m = (counts_in x free b).consumed in
        let both = none_right k (l + m) none in
        and_from (keeps_parts x free c) (is_kept x free a && is_kept x free b) (kept_whole free c
        (none_left k (l + m) none))
        (and_from (is_kept x free a) (is_kept x free b) (eq-eqb l 0 (none_left l m both)) (eq-eqb m 0
        (none_right l m both)))

    kept_all : (free : Bool) (es : PlainExpressions) → (counts_in_all x free es).consumed ≡ 0
        → keeps_parts_of_all x free es ≡ true
    kept_all free no_expressions none = refl
    kept_all free (expressions e rest) none =
        let k = (counts_in x free e).consumed in
        let l = (counts_in_all x free rest).consumed in
        and_from (keeps_parts x free e) (keeps_parts_of_all x free rest) (kept_whole free e
        (none_left k l none))
        (kept_all free rest (none_right k l none))

    kept_named : (free : Bool) (es : PlainArguments) → (counts_in_arguments x free es).consumed ≡ 0
        → keeps_parts_of_arguments x free es ≡ true
    kept_named free no_arguments none = refl
    kept_named free (arguments label e rest) none =
        let k = (counts_in x free e).consumed in
        let l = (counts_in_arguments x free rest).consumed in
        and_from (keeps_parts x free e) (keeps_parts_of_arguments x free rest) (kept_whole free e
        (none_left k l none))
        (kept_named free rest (none_right k l none))

-- ---- all variables in scope

module _ {I T C : Type 0} (see : View I T C) (sorts : ℕ → Sort) (top : ℕ) (scope : Scope)
    (numbered : Numbered top scope) where
  abbrev plain : Expression Bytes T C → PlainExpression
  plain e = plain_expression (λ (b : Bytes). b) e

  -- a test passes for each of them
  abbrev Passes : (Bytes → Bool → Bool) → Type 0
  Passes test = (x : Bytes) (v : Variable) → variable_of scope x ≡ Some v
      → test x (is_free (sorts v.number)) ≡ true

  -- none is consumed, so no number is
  none_used : (e : Expression Bytes T C) → SaysSorts sorts see scope e
      → Passes (λ x free. is_kept x free (plain e))
      → (k : ℕ) → IsKept see k scope e
  none_used e says passes k = by (is_named k scope) refl
    where
      named : (x : Bytes) (v : Variable) → variable_of scope x ≡ Some v
          → (uses see v.number scope e).consumed ≡ 0
      named x v there =
          let free = is_free (sorts v.number) in
          ap (λ (c : Counts). c.consumed) (counts_agree see x free scope v e there numbered.unique
          (says x v there))
          ∙ eqb-true (counts_in x free (plain e)).consumed 0 (passes x v there)

      by : (b : Bool) → is_named k scope ≡ b → (uses see k scope e).consumed ≡ 0
      by true sure = at_number top scope numbered (λ n. (uses see n scope e).consumed ≡ 0) named k sure
      by false lacks = ap (λ (c : Counts). c.consumed) (unused k scope lacks see e)

  passes_whole : (e : Expression Bytes T C) → Passes (λ x free. is_kept x free (plain e))
      → Passes (λ x free. keeps_parts x free (plain e))
  passes_whole e passes x v there =
      let free = is_free (sorts v.number) in
      kept_whole x free (plain e) (eqb-true (counts_in x free (plain e)).consumed 0 (passes x v there))

  right_kept : (op : BinaryOperator) (b : Expression Bytes T C) → SaysSorts sorts see scope b
      → Passes (λ x free. if may_skip op then is_kept x free (plain b) else keeps_parts x free (plain b))
      → IsKeptBy see scope (operation_of op) b × Passes (λ x free. keeps_parts x free (plain b))
  right_kept operators.And b says passes = (none_used b says passes, passes_whole b passes)
  right_kept operators.Or b says passes = (none_used b says passes, passes_whole b passes)
  right_kept other b says passes = (tt, passes)

  mutual
    pub keeps : (e : Expression Bytes T C) → SaysSorts sorts see scope e
        → ((x : Bytes) (v : Variable) → variable_of scope x ≡ Some v
        → keeps_parts x (is_free (sorts v.number)) (plain_expression (λ (b : Bytes). b) e) ≡ true)
        → Keeps see scope e
    keeps (number n l) says passes = tt
    keeps (negative n l) says passes = tt
    keeps (text n t) says passes = tt
    keeps (truth n b) says passes = tt
    keeps (nil n) says passes = tt
    keeps (path n x fields) says passes = tt
    keeps (arrow n x fields) says passes = tt
    keeps (call n f args c) says passes = keeps_in args says passes
    keeps (named_call n f args c) says passes = keeps_named args says passes
    keeps (parenthesized n e) says passes = keeps e says passes
    keeps (dereference n e) says passes = keeps e says passes
    keeps (borrow n m x) says passes = tt
    keeps (borrow_part n x fields) says passes = tt
    keeps (binary n op a b) says passes =
        let parts = λ (x : Bytes) (v : Variable) (there : variable_of scope x ≡ Some v).
        let free = is_free (sorts v.number) in
        and_parts (keeps_parts x free (plain a))
        (if may_skip op then is_kept x free (plain b) else keeps_parts x free (plain b)) (passes x v there) in
        let right = right_kept op b (λ x v there. (says x v there).1) (λ x v there. (parts x v there).1) in (
          right.0,
          keeps a (λ x v there. (says x v there).0) (λ x v there. (parts x v there).0),
          keeps b (λ x v there. (says x v there).1) right.1,
        )
    keeps (negation n e) says passes = keeps e says passes
    keeps (typed n e t) says passes = keeps e says passes
    keeps (choice n c a b) says passes =
        let parts = λ (x : Bytes) (v : Variable) (there : variable_of scope x ≡ Some v).
        let free = is_free (sorts v.number) in
        and_parts (keeps_parts x free (plain c)) (is_kept x free (plain a) && is_kept x free (plain b))
        (passes x v there) in
        let branches = λ (x : Bytes) (v : Variable) (there : variable_of scope x ≡ Some v).
        let free = is_free (sorts v.number) in
        and_parts (is_kept x free (plain a)) (is_kept x free (plain b)) (parts x v there).1 in
        let one = none_used a (λ x v there. (says x v there).1) (λ x v there. (branches x v there).0) in
        let other = none_used b (λ x v there. (says x v there).2) (λ x v there. (branches x v there).1) in (
          λ k. (one k, other k),
          keeps c (λ x v there. (says x v there).0) (λ x v there. (parts x v there).0),
          keeps a (λ x v there. (says x v there).1) (passes_whole a (λ x v there. (branches x v there).0)),
          keeps b (λ x v there. (says x v there).2) (passes_whole b (λ x v there. (branches x v there).1)),
        )

    keeps_in : (args : Expressions Bytes T C)
        → ((x : Bytes) (v : Variable) → variable_of scope x ≡ Some v
        → AllSayFree see x (is_free (sorts v.number)) args)
        → ((x : Bytes) (v : Variable) → variable_of scope x ≡ Some v
        → keeps_parts_of_all x (is_free (sorts v.number)) (plain_expressions (λ (b : Bytes). b) args) ≡ true)
        → KeepsIn see scope args
    keeps_in no_expressions says passes = tt
    keeps_in (expressions e rest) says passes =
        let parts = λ (x : Bytes) (v : Variable) (there : variable_of scope x ≡ Some v).
        let free = is_free (sorts v.number) in
        and_parts (keeps_parts x free (plain e))
        (keeps_parts_of_all x free (plain_expressions (λ (b : Bytes). b) rest)) (passes x v there) in (
          keeps e (λ x v there. (says x v there).0) (λ x v there. (parts x v there).0),
          keeps_in rest (λ x v there. (says x v there).1) (λ x v there. (parts x v there).1),
        )

    keeps_named : (args : Arguments Bytes T C)
        → ((x : Bytes) (v : Variable) → variable_of scope x ≡ Some v
        → NamedSayFree see x (is_free (sorts v.number)) args)
        → ((x : Bytes) (v : Variable) → variable_of scope x ≡ Some v
        → keeps_parts_of_arguments x (is_free (sorts v.number)) (plain_arguments (λ
        (b : Bytes). b) args) ≡ true)
        → KeepsNamed see scope args
    keeps_named no_arguments says passes = tt
    keeps_named (arguments label e rest) says passes =
        let parts = λ (x : Bytes) (v : Variable) (there : variable_of scope x ≡ Some v).
        let free = is_free (sorts v.number) in
        and_parts (keeps_parts x free (plain e))
        (keeps_parts_of_arguments x free (plain_arguments (λ (b : Bytes). b) rest)) (passes x v there) in (
          keeps e (λ x v there. (says x v there).0) (λ x v there. (parts x v there).0),
          keeps_named rest (λ x v there. (says x v there).1) (λ x v there. (parts x v there).1),
        )
