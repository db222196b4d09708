-- Expressions: each clause is that of the meaning itself, along the equations of its parts.
use Rattle.std.proofs.Common.{◌≡◌, Bool, true, false, List, [], ◌∷◌, Option, Some, None, neg_ℤ, refl, ap, ◌∙◌}
use Rattle.au_closed_trees.specs.Changes.{Change}
use Rattle.au_closed_trees.specs.Renoted.{expression_renoted, expressions_renoted, arguments_renoted}
use Rattle.au_type_texts.specs.Types.{ClosedType}
use Rattle.au_effects.specs.Numbers.{computed, compared, negated}
use Rattle.au_effects.specs.Values as values
use Rattle.au_effects.specs.References.{reference_in, referring}
use Rattle.au_meaning.specs.Acts.{looks, refers, reads, lends, closing, by_position, by_labels}
use Rattle.au_meaning.specs.Expressions.{note_of, names_of, labels, labelled, Operation, computes, compares}
use Rattle.au_meaning.specs.Expressions.{is_and, is_or, operation_of, kind_in, compared_kind, literal, chosen}
use Rattle.au_meaning.specs.Expressions.{alone, operand, looks_into, reaches, operates, joins, eval, eval_all}
use Rattle.au_meaning.specs.Expressions.{eval_named, whole}
use Rattle.au_meaning.specs.Names.{Scope, Variable, variable_of, target_behind}
use Rattle.au_meaning.specs.Ticks.{Action, pure, tick, needing, comes, ◌>>=◌}
use Rattle.au_meaning.specs.Views.{View}
use Rattle.au_meaning.specs.Worlds.{Value}
use Rattle.au_closed_meanings.specs.Agreement.{EachIn, EachInAll, EachNamed, AgreeOnTypes, AgreeOnMention}
use Rattle.au_closed_meanings.specs.Agreement.{AgreeOnCall, ScopeCounts}
use Rattle.au_closed_meanings.proofs.CountLemmas.{VariableCounts, paths_same, behind_counts, variable_counts}
use Rattle.au_syntax.specs.Expressions.{Expression, Expressions, Arguments, number, negative, text, truth}
use Rattle.au_syntax.specs.Expressions.{nil, path, arrow, call, named_call, parenthesized, dereference}
use Rattle.au_syntax.specs.Expressions.{borrow, borrow_part, binary, negation, typed, choice, no_expressions}
use Rattle.au_syntax.specs.Expressions.{expressions, no_arguments, arguments}
use Rattle.au_syntax.specs.Plain.{Bytes}

-- an operation on two values is by types alone
operates_same : {I J T U C D : Type 0} (one : View I T C) (two : View J U D) (op : Operation)
    (whole first : T)
    (whole2 first2 : U) → one.type_of whole ≡ two.type_of whole2 → one.type_of first ≡ two.type_of first2
    → (a b : Value) → operates one op whole first a b ≡ operates two op whole2 first2 a b
operates_same one two (computes op) whole first whole2 first2 p q a b =
    λ i. needing (kind_in (p i)) (λ kind. comes (computed op kind a b))
operates_same one two (compares op) whole first whole2 first2 p q a b =
    λ i. needing (compared_kind (q i)) (λ kind. comes (compared op kind a b))
operates_same one two is_and whole first whole2 first2 p q a b = refl
operates_same one two is_or whole first whole2 first2 p q a b = refl

module _ {I J T C U D : Type 0} (known : ClosedType → Bool) (change : Change Bytes T C U D) (one : View I T C)
    (two : View J U D) (agree : AgreeOnTypes known change one two) where
  -- the type of an expression
  pub type_same : (e : Expression Bytes T C)
      → one.type_of (note_of e) ≡ two.type_of (note_of (expression_renoted change e))
  type_same (number n l) = agree.notes n.note
  type_same (negative n l) = agree.notes n.note
  type_same (text n t) = agree.notes n.note
  type_same (truth n b) = agree.notes n.note
  type_same (nil n) = agree.notes n.note
  type_same (path n x fields) = agree.mentions n.note x.name
  type_same (arrow n r fields) = agree.notes n.note
  type_same (call n f args c) = agree.notes n.note
  type_same (named_call n f args c) = agree.notes n.note
  type_same (parenthesized n e) = agree.notes n.note
  type_same (dereference n e) = agree.notes n.note
  type_same (borrow n mode x) = agree.notes n.note
  type_same (borrow_part n r fields) = agree.notes n.note
  type_same (binary n op a b) = agree.notes n.note
  type_same (negation n e) = agree.notes n.note
  type_same (typed n e t) = agree.notes n.note
  type_same (choice n c a b) = agree.notes n.note

  looks_same : (x : Option Variable) → VariableCounts known x → (names : List Bytes)
      → looks_into one x names ≡ looks_into two x names
  looks_same None c names = refl
  looks_same (Some x) c names =
      λ i. needing (paths_same known change one two agree names x.of c i) (looks x.number)

  -- a part of the variable that a name means
  looks_seen : (scope scope2 : Scope) → ScopeCounts known scope → scope ≡ scope2 → (name : Bytes)
      → (names : List Bytes)
      → looks_into one (variable_of scope name) names ≡ looks_into two (variable_of scope2 name) names
  looks_seen scope scope2 h s name names =
      looks_same (variable_of scope name) (variable_counts known scope h name) names
      ∙ ap (λ z. looks_into two (variable_of z name) names) s

  reaches_same : (r : Option Variable) → VariableCounts known r → (names : List Bytes)
      → reaches one r names ≡ reaches two r names
  reaches_same None c names = refl
  reaches_same (Some r) c names =
      λ i. needing (paths_same known change one two agree names (target_behind r.of)
      (behind_counts known change one two agree r.of c) i) (refers r.number)

  -- a part of what the reference in the variable refers to that a name means
  pub reaches_seen : (scope scope2 : Scope) → ScopeCounts known scope → scope ≡ scope2 → (name : Bytes)
      → (names : List Bytes)
      → reaches one (variable_of scope name) names ≡ reaches two (variable_of scope2 name) names
  reaches_seen scope scope2 h s name names =
      reaches_same (variable_of scope name) (variable_counts known scope h name) names
      ∙ ap (λ z. reaches two (variable_of z name) names) s

  -- the variable that an expression is
  alone_same : (scope : Scope) (e : Expression Bytes T C)
      → alone scope e ≡ alone scope (expression_renoted change e)
  alone_same scope (path n x []) = refl
  alone_same scope (parenthesized n e) = alone_same scope e
  alone_same scope other = refl

  alone_seen : (scope scope2 : Scope) → scope ≡ scope2 → (e : Expression Bytes T C)
      → alone scope e ≡ alone scope2 (expression_renoted change e)
  alone_seen scope scope2 s e = alone_same scope e ∙ ap (λ z. alone z (expression_renoted change e)) s

  labels_same : (args : Arguments Bytes T C) → labels args ≡ labels (arguments_renoted change args)
  labels_same no_arguments = refl
  labels_same (arguments label e rest) = λ i. label.name ∷ labels_same rest i

  module _ (invoke : I → List Value → Action Value) (other : J → List Value → Action Value) where
    joins_same : (op : Operation) (whole first : T) (whole2 first2 : U) {a a2 b b2 : Action Value}
        → one.type_of whole ≡ two.type_of whole2 → one.type_of first ≡ two.type_of first2 → a ≡ a2 → b ≡ b2
        → joins one invoke op whole first a b ≡ joins two other op whole2 first2 a2 b2
    joins_same is_and whole first whole2 first2 p q a b = λ i. do
      x ← a i
      tick (chosen (b i) (pure (values.truth false)) x)
    joins_same is_or whole first whole2 first2 p q a b = λ i. do
      x ← a i
      tick (chosen (pure (values.truth true)) (b i) x)
    joins_same (computes op) whole first whole2 first2 p q a b = λ i. do
      x ← a i
      y ← b i
      tick (operates_same one two (computes op) whole first whole2 first2 p q x y i)
    joins_same (compares op) whole first whole2 first2 p q a b = λ i. do
      x ← a i
      y ← b i
      tick (operates_same one two (compares op) whole first whole2 first2 p q x y i)

    mutual
      pub eval_same : {scope scope2 : Scope} (e : Expression Bytes T C)
          → EachIn (AgreeOnMention known change one two)
          (AgreeOnCall known change one two invoke other) e → ScopeCounts known scope → scope ≡ scope2
          → eval one invoke scope e ≡ eval two other scope2 (expression_renoted change e)
      eval_same (number n l) ok h s = λ i. tick (literal (kind_in (agree.notes n.note i)) l.value)
      eval_same (negative n l) ok h s = λ i. tick (literal (kind_in (agree.notes n.note i)) (neg_ℤ l.value))
      eval_same (text n t) ok h s = refl
      eval_same (truth n b) ok h s = refl
      eval_same (nil n) ok h s = refl
      eval_same (path n x []) ok h s = λ i. tick (ok (variable_of (s i) x.name) i)
      eval_same (path n x (field ∷ fields)) ok h s =
          λ i. tick (looks_seen _ _ h s x.name (names_of (field ∷ fields)) i)
      eval_same (arrow n r fields) ok h s =
          λ i. tick (reaches_seen _ _ h s r.name (names_of fields) i >>= reads)
      eval_same (call n f args c) ok h s = λ i. do
        values ← all_same args ok.1 h s i
        tick (ok.0 (by_position values) i)
      eval_same (named_call n f args c) ok h s = λ i. do
        values ← named_same args ok.1 h s i
        tick (ok.0 (by_labels (labelled (labels_same args i) values)) i)
      eval_same (parenthesized n e) ok h s = eval_same e ok h s
      eval_same (dereference n e) ok h s = λ i. do
        x ← operand (alone_seen _ _ s e i) (eval_same e ok h s i)
        tick (needing (reference_in x) reads)
      eval_same (borrow n mode x) ok h s =
          λ i. tick (needing (variable_of (s i) x.name) (λ x. lends mode x.number))
      eval_same (borrow_part n r fields) ok h s =
          λ i. tick (reaches_seen _ _ h s r.name (names_of fields) i >>= (λ one. pure (referring one)))
      eval_same (binary n op a b) ok h s =
          joins_same (operation_of op) n.note (note_of a) (change.note n.note)
          (note_of (expression_renoted change a))
          (agree.notes n.note) (type_same a) (eval_same a ok.0 h s) (eval_same b ok.1 h s)
      eval_same (negation n e) ok h s = λ i. do
        x ← eval_same e ok h s i
        tick (comes (negated x))
      eval_same (typed n e t) ok h s = eval_same e ok h s
      eval_same (choice n c a b) ok h s = λ i. do
        x ← eval_same c ok.0 h s i
        tick (chosen (eval_same a ok.1 h s i) (eval_same b ok.2 h s i) x)

      all_same : {scope scope2 : Scope} (es : Expressions Bytes T C)
          → EachInAll (AgreeOnMention known change one two)
          (AgreeOnCall known change one two invoke other) es → ScopeCounts known scope → scope ≡ scope2
          → eval_all one invoke scope es ≡ eval_all two other scope2 (expressions_renoted change es)
      all_same no_expressions ok h s = refl
      all_same (expressions e rest) ok h s = λ i. do
        value ← eval_same e ok.0 h s i
        values ← all_same rest ok.1 h s i
        pure (value ∷ values)

      named_same : {scope scope2 : Scope} (es : Arguments Bytes T C)
          → EachNamed (AgreeOnMention known change one two)
          (AgreeOnCall known change one two invoke other) es → ScopeCounts known scope → scope ≡ scope2
          → eval_named one invoke scope es ≡ eval_named two other scope2 (arguments_renoted change es)
      named_same no_arguments ok h s = refl
      named_same (arguments label e rest) ok h s = λ i. do
        value ← eval_same e ok.0 h s i
        values ← named_same rest ok.1 h s i
        pure (value ∷ values)

    pub whole_same : {scope scope2 : Scope} (e : Expression Bytes T C)
        → EachIn (AgreeOnMention known change one two)
        (AgreeOnCall known change one two invoke other) e → ScopeCounts known scope → scope ≡ scope2
        → whole one invoke scope e ≡ whole two other scope2 (expression_renoted change e)
    whole_same e ok h s = λ i. closing (eval_same e ok h s i)
