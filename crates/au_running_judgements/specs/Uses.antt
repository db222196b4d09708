-- How often the variable of a number is still to be met in an expression that is run, and how. Where its
-- note says that a mention is of a Free type, the variable is looked at, and else consumed.
use Rattle.std.specs.Prelude.{◌≡◌, ℕ, ◌==◌, Bool, true, false, [], ◌∷◌, if◌then◌else◌, Option, Some, None}
use Rattle.au_lives.specs.Mentions.{Counts, borrowed_by, one_consumption, one_look, plus, unmentioned}
use Rattle.au_meaning.specs.Expressions.{alone}
use Rattle.au_meaning.specs.Names.{Scope, Variable, variable_of}
use Rattle.au_meaning.specs.Views.{View}
use Rattle.au_syntax.specs.Expressions.{Expression, Expressions, Arguments, number, negative, text, truth}
use Rattle.au_syntax.specs.Expressions.{nil, path, arrow, call, named_call, parenthesized, dereference}
use Rattle.au_syntax.specs.Expressions.{borrow, borrow_part, binary, negation, typed, choice, no_expressions}
use Rattle.au_syntax.specs.Expressions.{expressions, no_arguments, arguments}
use Rattle.au_syntax.specs.Plain.{Bytes}

-- what a mention counts where it is one of the variable of a number
abbrev pub where_of : ℕ → Option Variable → Counts → Counts
where_of k None one = unmentioned
where_of k (Some x) one = if x.number == k then one else unmentioned

-- a variable alone
abbrev pub mentioned : Bool → Counts
mentioned true = one_look
mentioned false = one_consumption

-- what `!` stands before: a variable alone is looked at
abbrev pub behind : ℕ → Option Variable → Counts → Counts
behind k None other = other
behind k (Some x) other = where_of k (Some x) one_look

module _ {I T C : Type 0} (see : View I T C) (k : ℕ) where
  abbrev mutual
    pub uses : Scope → Expression Bytes T C → Counts
    uses scope (number n l) = unmentioned
    uses scope (negative n l) = unmentioned
    uses scope (text n t) = unmentioned
    uses scope (truth n b) = unmentioned
    uses scope (nil n) = unmentioned
    uses scope (path n x []) = where_of k (variable_of scope x.name) (mentioned (see.is_free n.note))
    uses scope (path n x (field ∷ fields)) = where_of k (variable_of scope x.name) one_look
    uses scope (arrow n x fields) = where_of k (variable_of scope x.name) one_look
    uses scope (call n f args c) = uses_all scope args
    uses scope (named_call n f args c) = uses_named scope args
    uses scope (parenthesized n e) = uses scope e
    uses scope (dereference n e) = behind k (alone scope e) (uses scope e)
    uses scope (borrow n mode x) = where_of k (variable_of scope x.name) (borrowed_by mode)
    uses scope (borrow_part n x fields) = where_of k (variable_of scope x.name) one_look
    uses scope (binary n op a b) = plus (uses scope a) (uses scope b)
    uses scope (negation n e) = uses scope e
    uses scope (typed n e t) = uses scope e
    uses scope (choice n c a b) = plus (uses scope c) (plus (uses scope a) (uses scope b))

    -- in arguments
    pub uses_all : Scope → Expressions Bytes T C → Counts
    uses_all scope no_expressions = unmentioned
    uses_all scope (expressions e rest) = plus (uses scope e) (uses_all scope rest)

    pub uses_named : Scope → Arguments Bytes T C → Counts
    uses_named scope no_arguments = unmentioned
    uses_named scope (arguments label e rest) = plus (uses scope e) (uses_named scope rest)

  -- it isn't consumed in an expression
  abbrev pub IsKept : Scope → Expression Bytes T C → Type 0
  IsKept scope e = (uses scope e).consumed ≡ 0
