-- A number that no name in scope has isn't met.
use Rattle.std.proofs.Common.{◌≡◌, ◌⊎◌, inl, inr, ℕ, ◌==◌, Bool, false, [], ◌∷◌, Option, Some, None}
use Rattle.std.proofs.Common.{refl, ap, ap₂, ◌∙◌, if◌then◌else◌}
use Rattle.std.proofs.lemmas.Bool.{eqb-true, false_from_ne_true}
use Rattle.au_lives.specs.Mentions.{Counts, borrowed_by, one_look, plus, unmentioned}
use Rattle.au_meaning.specs.Expressions.{alone}
use Rattle.au_meaning.specs.Names.{Scope, Variable, variable_of}
use Rattle.au_meaning.specs.Views.{View}
use Rattle.au_syntax.specs.Expressions.{Expression, Expressions, Arguments, number, negative, text, truth}
use Rattle.au_syntax.specs.Expressions.{nil, path, arrow, call, named_call, parenthesized, dereference}
use Rattle.au_syntax.specs.Expressions.{borrow, borrow_part, binary, negation, typed, choice, no_expressions}
use Rattle.au_syntax.specs.Expressions.{expressions, no_arguments, arguments}
use Rattle.au_syntax.specs.Plain.{Bytes}
use Rattle.au_running_lives.specs.Uses.{behind, mentioned, uses, uses_all, uses_named, where_of}
use Rattle.au_judged_bodies.specs.NamesAheadStanding.{is_named}
use Rattle.au_judged_bodies.proofs.ScopeLemmas.{unnamed}

module _ (k : ℕ) (scope : Scope) (gone : is_named k scope ≡ false) where
  other : (y : Bytes) (w : Variable) → variable_of scope y ≡ Some w → (w.number == k) ≡ false
  other y w is = false_from_ne_true (w.number == k) (λ same. unnamed scope y w k gone is
      (eqb-true w.number k same))

  pub unmet : (y : Bytes) (one : Counts) → where_of k (variable_of scope y) one ≡ unmentioned
  unmet y one = by (variable_of scope y) refl
    where
      by : (o : Option Variable) → variable_of scope y ≡ o → where_of k o one ≡ unmentioned
      by None is = refl
      by (Some w) is = ap (λ (b : Bool). if b then one else unmentioned) (other y w is)

  module _ {I T C : Type 0} (see : View I T C) where
    alone_is : (e : Expression Bytes T C) → (alone scope e ≡ None) ⊎ ((y : Bytes) ×
        (alone scope e ≡ variable_of scope y))
    alone_is (path n x []) = inr (x.name, refl)
    alone_is (parenthesized n e) = alone_is e
    alone_is other = inl refl

    deref : (e : Expression Bytes T C) (c : Counts) → c ≡ unmentioned
        → behind k (alone scope e) c ≡ unmentioned
    deref e c none = by (alone_is e)
      where
        there : (y : Bytes) (o : Option Variable) → variable_of scope y ≡ o → behind k o c ≡ unmentioned
        there y None is = none
        there y (Some w) is = ap (λ (b : Bool). if b then one_look else unmentioned) (other y w is)

        by : (alone scope e ≡ None) ⊎ ((y : Bytes) × (alone scope e ≡ variable_of scope y))
            → behind k (alone scope e) c ≡ unmentioned
        by (inl is) = ap (λ (o : Option Variable). behind k o c) is ∙ none
        by (inr is) = ap (λ (o : Option Variable). behind k o c) is.1
            ∙ there is.0 (variable_of scope is.0) refl

    mutual
      pub unused : (e : Expression Bytes T C) → uses see k scope e ≡ unmentioned
      unused (number n l) = refl
      unused (negative n l) = refl
      unused (text n t) = refl
      unused (truth n b) = refl
      unused (nil n) = refl
      unused (path n x []) = unmet x.name (mentioned (see.is_free n.note))
      unused (path n x (field ∷ fields)) = unmet x.name one_look
      unused (arrow n x fields) = unmet x.name one_look
      unused (call n f args c) = unused_all args
      unused (named_call n f args c) = unused_named args
      unused (parenthesized n e) = unused e
      unused (dereference n e) = deref e (uses see k scope e) (unused e)
      unused (borrow n m x) = unmet x.name (borrowed_by m)
      unused (borrow_part n x fields) = unmet x.name one_look
      unused (binary n op a b) = ap₂ plus (unused a) (unused b)
      unused (negation n e) = unused e
      unused (typed n e t) = unused e
      unused (choice n c a b) = ap₂ plus (unused c) (ap₂ plus (unused a) (unused b))

      unused_all : (args : Expressions Bytes T C) → uses_all see k scope args ≡ unmentioned
      unused_all no_expressions = refl
      unused_all (expressions e rest) = ap₂ plus (unused e) (unused_all rest)

      unused_named : (args : Arguments Bytes T C) → uses_named see k scope args ≡ unmentioned
      unused_named no_arguments = refl
      unused_named (arguments label e rest) = ap₂ plus (unused e) (unused_named rest)
