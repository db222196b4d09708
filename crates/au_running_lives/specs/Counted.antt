-- How often a variable is met, by its name in the tree that was written, and by its number in the tree that
-- is run.
use Rattle.std.specs.Prelude.{◌≡◌, ℕ, Bool, true, [], ◌∷◌, Some}
use Rattle.std.specs.Str.{bytes_eq}
use Rattle.au_lives.specs.Mentions.{Counts, counts_in}
use Rattle.au_meaning.specs.Names.{Scope, Variable, variable_of}
use Rattle.au_meaning.specs.Views.{View}
use Rattle.au_syntax.specs.Expressions.{Expression, Expressions, Arguments, number, negative, text, truth}
use Rattle.au_syntax.specs.Expressions.{nil, path, arrow, call, named_call, parenthesized, dereference}
use Rattle.au_syntax.specs.Expressions.{borrow, borrow_part, binary, negation, typed, choice, no_expressions}
use Rattle.au_syntax.specs.Expressions.{expressions, no_arguments, arguments}
use Rattle.au_syntax.specs.Plain.{Bytes, plain_expression}
use Rattle.au_running_judgements.specs.Uses.{uses}

-- No two names in scope are of one number.
abbrev pub AreOneToOne : Scope → Type 0
AreOneToOne scope =
    (x y : Bytes) (v w : Variable) → variable_of scope x ≡ Some v → variable_of scope y ≡ Some w
    → v.number ≡ w.number → x ≡ y

module _ {I T C : Type 0} (see : View I T C) (x : Bytes) (free : Bool) where
  abbrev mutual
    -- The notes of a tree say of each mention of a name alone whether it is Free.
    pub SaysFree : Expression Bytes T C → Type 0
    SaysFree (number n l) = Unit {0}
    SaysFree (negative n l) = Unit {0}
    SaysFree (text n t) = Unit {0}
    SaysFree (truth n b) = Unit {0}
    SaysFree (nil n) = Unit {0}
    SaysFree (path n y []) = bytes_eq y.name x ≡ true → see.is_free n.note ≡ free
    SaysFree (path n y (field ∷ fields)) = Unit {0}
    SaysFree (arrow n y fields) = Unit {0}
    SaysFree (call n f args c) = AllSayFree args
    SaysFree (named_call n f args c) = NamedSayFree args
    SaysFree (parenthesized n e) = SaysFree e
    SaysFree (dereference n e) = SaysFree e
    SaysFree (borrow n m y) = Unit {0}
    SaysFree (borrow_part n y fields) = Unit {0}
    SaysFree (binary n op a b) = SaysFree a × SaysFree b
    SaysFree (negation n e) = SaysFree e
    SaysFree (typed n e t) = SaysFree e
    SaysFree (choice n c a b) = SaysFree c × SaysFree a × SaysFree b

    pub AllSayFree : Expressions Bytes T C → Type 0
    AllSayFree no_expressions = Unit {0}
    AllSayFree (expressions e rest) = SaysFree e × AllSayFree rest

    pub NamedSayFree : Arguments Bytes T C → Type 0
    NamedSayFree no_arguments = Unit {0}
    NamedSayFree (arguments label e rest) = SaysFree e × NamedSayFree rest

  -- A variable is met as often by its number as by its name.
  abbrev pub CountsAgree : Type 0
  CountsAgree =
      (scope : Scope) (v : Variable) (e : Expression Bytes T C) → variable_of scope x ≡ Some v
      → AreOneToOne scope
      → SaysFree e → uses see v.number scope e ≡ counts_in x free (plain_expression (λ (b : Bytes). b) e)
