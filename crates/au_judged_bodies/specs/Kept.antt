-- What an expression may leave out consumes nothing.
use Rattle.std.specs.Prelude.{ℕ, ◌+◌, length}
use Rattle.au_lives.specs.declared.lives.Sort.{Sort}
use Rattle.au_meaning.specs.Expressions.{Operation, computes, compares, is_and, is_or, operation_of}
use Rattle.au_meaning.specs.Meanings.{scope_of}
use Rattle.au_meaning.specs.Names.{Scope}
use Rattle.au_meaning.specs.Views.{Function, View}
use Rattle.au_syntax.specs.Expressions.{Expression, Expressions, Arguments, number, negative, text, truth}
use Rattle.au_syntax.specs.Expressions.{nil, path, arrow, call, named_call, parenthesized, dereference}
use Rattle.au_syntax.specs.Expressions.{borrow, borrow_part, binary, negation, typed, choice, no_expressions}
use Rattle.au_syntax.specs.Expressions.{expressions, no_arguments, arguments}
use Rattle.au_syntax.specs.Plain.{Bytes}
use Rattle.au_running_lives.specs.Uses.{IsKept}
use Rattle.au_judged_bodies.specs.Lived.{IsLived}
use Rattle.au_judged_bodies.specs.Parts.{EachIn}

module _ {I T C : Type 0} (see : View I T C) (scope : Scope) where
  -- of an operator, its right side
  abbrev pub IsKeptBy : Operation → Expression Bytes T C → Type 0
  IsKeptBy is_and b = (k : ℕ) → IsKept see k scope b
  IsKeptBy is_or b = (k : ℕ) → IsKept see k scope b
  IsKeptBy (computes op) b = Unit {0}
  IsKeptBy (compares op) b = Unit {0}

  abbrev mutual
    -- so it is all through an expression, and so are the branches of conditional ones
    pub Keeps : Expression Bytes T C → Type 0
    Keeps (number n l) = Unit {0}
    Keeps (negative n l) = Unit {0}
    Keeps (text n t) = Unit {0}
    Keeps (truth n b) = Unit {0}
    Keeps (nil n) = Unit {0}
    Keeps (path n x fields) = Unit {0}
    Keeps (arrow n x fields) = Unit {0}
    Keeps (call n f args c) = KeepsIn args
    Keeps (named_call n f args c) = KeepsNamed args
    Keeps (parenthesized n e) = Keeps e
    Keeps (dereference n e) = Keeps e
    Keeps (borrow n m x) = Unit {0}
    Keeps (borrow_part n x fields) = Unit {0}
    Keeps (binary n op a b) = IsKeptBy (operation_of op) b × Keeps a × Keeps b
    Keeps (negation n e) = Keeps e
    Keeps (typed n e t) = Keeps e
    Keeps (choice n c a b) =
        ((k : ℕ) → IsKept see k scope a × IsKept see k scope b) × Keeps c × Keeps a × Keeps b

    -- through arguments
    pub KeepsIn : Expressions Bytes T C → Type 0
    KeepsIn no_expressions = Unit {0}
    KeepsIn (expressions e rest) = Keeps e × KeepsIn rest

    pub KeepsNamed : Arguments Bytes T C → Type 0
    KeepsNamed no_arguments = Unit {0}
    KeepsNamed (arguments label e rest) = Keeps e × KeepsNamed rest

-- Where the variables of a function have good lives, so it is in each of its expressions.
abbrev pub PartsAreKept : (ℕ → Sort) → {I T C : Type 0} → Function I T C → Type 0
PartsAreKept sorts f =
    IsLived sorts f
    → EachIn f.view (λ scope e. Keeps f.view scope e) (λ number scope x block. Unit {0})
    (f.first + length f.parameters) (scope_of f) f.body
