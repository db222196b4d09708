-- What keeps as the lives of variables have it, and whose arguments may be handed on, keeps as the rules of
-- typing ask it.
use Rattle.std.proofs.Common.{inl, inr, List, ◌++◌, refl}
use Rattle.au_meaning.specs.Expressions.{Operation, computes, compares, is_and, is_or, operation_of}
use Rattle.au_meaning.specs.Names.{Scope}
use Rattle.au_meaning.specs.Views.{View}
use Rattle.au_syntax.specs.Expressions.{number, negative, text, truth}
use Rattle.au_syntax.specs.Expressions.{nil, path, arrow, call, named_call, parenthesized, dereference}
use Rattle.au_syntax.specs.Expressions.{borrow, borrow_part, binary, negation, typed, choice, no_expressions}
use Rattle.au_syntax.specs.Expressions.{expressions, no_arguments, arguments}
use Rattle.au_names.proofs.AmongLemmas.{Among, among-append_left, among-append_right}
use Rattle.au_types.specs.Types.{Meaning}
use Rattle.au_typing.specs.Notes.{Note, NotedArguments, NotedExpression, NotedExpressions, type_of}
use Rattle.au_judged_bodies.specs.Kept as lives
use Rattle.au_judged_bodies.specs.TypedRunsLaws as runs
use Rattle.au_judged_bodies.specs.Texts.{arguments_in, arguments_in_all, arguments_in_named, each_named, each_of}

module _ (may_hand : Meaning → Type 0) where
  -- each of these may be handed on
  abbrev pub MayHandEach : List NotedExpression → Type 0
  MayHandEach es = (e : NotedExpression) → Among e es → may_hand (type_of e)

  pub hand_left : (xs ys : List NotedExpression) → MayHandEach (xs ++ ys) → MayHandEach xs
  hand_left xs ys hands e there = hands e (among-append_left xs ys e there)

  pub hand_right : (xs ys : List NotedExpression) → MayHandEach (xs ++ ys) → MayHandEach ys
  hand_right xs ys hands e there = hands e (among-append_right xs ys e there)

  handed : (es : NotedExpressions) → MayHandEach (each_of es) → runs.AreHanded may_hand es
  handed no_expressions hands = tt
  handed (expressions e es) hands = (hands e (inl refl), handed es (λ x there. hands x (inr there)))

  handed_labelled : (es : NotedArguments) → MayHandEach (each_named es) → runs.AreHandedLabelled may_hand es
  handed_labelled no_arguments hands = tt
  handed_labelled (arguments label e es) hands =
      (hands e (inl refl), handed_labelled es (λ x there. hands x (inr there)))

module _ {I : Type 0} (see : View I Note (Unit {0})) (scope : Scope) where
  right : (o : Operation) (b : NotedExpression) → lives.IsKeptBy see scope o b → runs.IsKeptBy see scope o b
  right is_and b kept = kept
  right is_or b kept = kept
  right (computes op) b kept = tt
  right (compares op) b kept = tt

module _ {I : Type 0} (see : View I Note (Unit {0})) (may_hand : Meaning → Type 0) (scope : Scope) where
  mutual
    pub keeps : (e : NotedExpression) → lives.Keeps see scope e → MayHandEach may_hand (arguments_in e)
        → runs.Keeps see may_hand scope e
    keeps (number n l) kept hands = tt
    keeps (negative n l) kept hands = tt
    keeps (text n t) kept hands = tt
    keeps (truth n b) kept hands = tt
    keeps (nil n) kept hands = tt
    keeps (path n x fields) kept hands = tt
    keeps (arrow n x fields) kept hands = tt
    keeps (call n f es c) kept hands = (
      handed may_hand es (hand_left may_hand (each_of es) (arguments_in_all es) hands),
      keeps_in es kept (hand_right may_hand (each_of es) (arguments_in_all es) hands),
    )
    keeps (named_call n f es c) kept hands = (
      handed_labelled may_hand es (hand_left may_hand (each_named es) (arguments_in_named es) hands),
      keeps_labelled es kept (hand_right may_hand (each_named es) (arguments_in_named es) hands),
    )
    keeps (parenthesized n e) kept hands = keeps e kept hands
    keeps (dereference n e) kept hands = keeps e kept hands
    keeps (borrow n m x) kept hands = tt
    keeps (borrow_part n x fields) kept hands = tt
    keeps (binary n op a b) kept hands = (
      right see scope (operation_of op) b kept.0,
      keeps a kept.1 (hand_left may_hand (arguments_in a) (arguments_in b) hands),
      keeps b kept.2 (hand_right may_hand (arguments_in a) (arguments_in b) hands),
    )
    keeps (negation n e) kept hands = keeps e kept hands
    keeps (typed n e t) kept hands = keeps e kept hands
    keeps (choice n c a b) kept hands =
        let first = hand_left may_hand (arguments_in c ++ arguments_in a) (arguments_in b) hands in (
          kept.0,
          keeps c kept.1 (hand_left may_hand (arguments_in c) (arguments_in a) first),
          keeps a kept.2 (hand_right may_hand (arguments_in c) (arguments_in a) first),
          keeps b kept.3 (hand_right may_hand (arguments_in c ++ arguments_in a) (arguments_in b) hands),
        )

    keeps_in : (es : NotedExpressions) → lives.KeepsIn see scope es → MayHandEach may_hand (arguments_in_all es)
        → runs.KeepsIn see may_hand scope es
    keeps_in no_expressions kept hands = tt
    keeps_in (expressions e es) kept hands = (
      keeps e kept.0 (hand_left may_hand (arguments_in e) (arguments_in_all es) hands),
      keeps_in es kept.1 (hand_right may_hand (arguments_in e) (arguments_in_all es) hands),
    )

    keeps_labelled : (es : NotedArguments) → lives.KeepsNamed see scope es
        → MayHandEach may_hand (arguments_in_named es) → runs.KeepsLabelled see may_hand scope es
    keeps_labelled no_arguments kept hands = tt
    keeps_labelled (arguments label e es) kept hands = (
      keeps e kept.0 (hand_left may_hand (arguments_in e) (arguments_in_named es) hands),
      keeps_labelled es kept.1 (hand_right may_hand (arguments_in e) (arguments_in_named es) hands),
    )
