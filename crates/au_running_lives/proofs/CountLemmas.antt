-- How often a variable is met, by name and by number.
use Rattle.std.proofs.Common.{◌≡◌, ℕ, ◌==◌, ◌||◌, Bool, true, false, List, [], ◌∷◌, Option, Some, None, refl, sym, ap, ap₂}
use Rattle.std.proofs.Common.{subst, ◌∙◌, if◌then◌else◌}
use Rattle.std.proofs.lemmas.Bool.{eq-eqb, eqb-true}
use Rattle.std.specs.Str.{bytes_eq}
use Rattle.au_base.proofs.BoolLemmas.{or_false}
use Rattle.au_base.proofs.TextLemmas.{bytes_same, bytes_self}
use Rattle.au_lives.specs.Mentions.{Counts, counts_in, counts_in_all, counts_in_arguments, is_variable, mentioned_with}
use Rattle.au_lives.specs.Mentions.{borrowed_by, one_consumption, one_look, plus, unmentioned, where_named}
use Rattle.au_meaning.specs.Expressions.{alone}
use Rattle.au_meaning.specs.Names.{Scope, Variable, variable_of}
use Rattle.au_meaning.specs.Views.{View}
use Rattle.au_syntax.specs.Expressions.{Expression, Expressions, Arguments, number, negative, text, truth}
use Rattle.au_syntax.specs.Expressions.{nil, path, arrow, call, named_call, parenthesized, dereference}
use Rattle.au_syntax.specs.Expressions.{borrow, borrow_part, binary, negation, typed, choice, no_expressions}
use Rattle.au_syntax.specs.Expressions.{expressions, no_arguments, arguments}
use Rattle.au_syntax.specs.Plain.{Bytes, plain_arguments, plain_expression, plain_expressions}
use Rattle.au_running_judgements.specs.Uses.{behind, mentioned, uses, uses_all, uses_named, where_of}
use Rattle.au_running_lives.specs.Counted.{AllSayFree, AreOneToOne, CountsAgree, NamedSayFree, SaysFree}

module _ {I T C : Type 0} (see : View I T C) (x : Bytes) (free : Bool) (scope : Scope) (v : Variable)
    (there : variable_of scope x ≡ Some v) (unique : AreOneToOne scope) where
  -- a name is met where it is the one
  pub met : (y : Bytes) (one : Counts) → where_of v.number (variable_of scope y) one ≡ where_named x y one
  met y one = by (bytes_eq y x) refl (variable_of scope y) refl
    where
      self : where_of v.number (Some v) one ≡ one
      self = ap (λ (b : Bool). if b then one else unmentioned) (eq-eqb v.number v.number refl)

      other : (w : Variable) → variable_of scope y ≡ Some w → bytes_eq y x ≡ false → (b : Bool) → (w.number == v.number) ≡ b
          → (if b then one else unmentioned) ≡ unmentioned
      other w is differ true same =
          let y_is : y ≡ x = unique y x w v is there (eqb-true w.number v.number same) in
          let yes_is : bytes_eq y x ≡ true = subst (λ (z : Bytes). bytes_eq z x ≡ true) (sym y_is) (bytes_self x) in
          let clash : true ≡ false = sym yes_is ∙ differ in
          absurd cc
      other w is differ false same = refl

      by : (b : Bool) → bytes_eq y x ≡ b → (o : Option Variable) → variable_of scope y ≡ o
          → where_of v.number o one ≡ (if b then one else unmentioned)
      by true same o is =
          let found : o ≡ Some v = sym is ∙ (ap (variable_of scope) (bytes_same y x same) ∙ there) in
          ap (λ (p : Option Variable). where_of v.number p one) found ∙ self
      by false differ None is = refl
      by false differ (Some w) is = other w is differ (w.number == v.number) refl

  -- a name alone
  mention : (y : Bytes) (said : Bool) → (bytes_eq y x ≡ true → said ≡ free)
      → where_of v.number (variable_of scope y) (mentioned said) ≡ where_named x y (mentioned_with free [])
  mention y said says = by (bytes_eq y x) refl
    where
      kinds : (b : Bool) → mentioned b ≡ mentioned_with b []
      kinds true = refl
      kinds false = refl

      by : (b : Bool) → bytes_eq y x ≡ b
          → where_of v.number (variable_of scope y) (mentioned said) ≡ where_named x y (mentioned_with free [])
      by true same =
          met y (mentioned said)
          ∙ ap (λ (c : Counts). where_named x y c) (ap mentioned (says same) ∙ kinds free)
      by false differ =
          met y (mentioned said)
          ∙ (ap (λ (b : Bool). if b then mentioned said else unmentioned) differ
          ∙ sym (ap (λ (b : Bool). if b then mentioned_with free [] else unmentioned) differ))

  -- what `!` stands before
  unmet : (e : Expression Bytes T C) (c : Counts) → c ≡ counts_in x free (plain_expression (λ (b : Bytes). b) e)
      → c ≡ counts_in x (free || false) (plain_expression (λ (b : Bytes). b) e)
  unmet e c same =
      same ∙ ap (λ (b : Bool). counts_in x b (plain_expression (λ (b : Bytes). b) e)) (sym (or_false free))

  looked_at : (y : Bytes) (o : Option Variable) (one : Counts)
      → behind v.number o (where_of v.number o one) ≡ where_of v.number o one_look
  looked_at y None one = refl
  looked_at y (Some w) one = refl

  deref : (e : Expression Bytes T C) → uses see v.number scope e ≡ counts_in x free (plain_expression (λ (b : Bytes). b) e)
      → behind v.number (alone scope e) (uses see v.number scope e)
      ≡ counts_in x (free || is_variable (plain_expression (λ (b : Bytes). b) e)) (plain_expression (λ (b : Bytes). b) e)
  deref (path n y []) same =
      looked_at y.name (variable_of scope y.name) (mentioned (see.is_free n.note))
      ∙ (met y.name one_look ∙ ap (where_named x y.name) (looked free))
    where
      looked : (b : Bool) → one_look ≡ mentioned_with (b || true) []
      looked true = refl
      looked false = refl
  deref (parenthesized n e) same = deref e same
  deref (number n l) same = unmet (number n l) (uses see v.number scope (number n l)) same
  deref (negative n l) same = unmet (negative n l) (uses see v.number scope (negative n l)) same
  deref (text n t) same = unmet (text n t) (uses see v.number scope (text n t)) same
  deref (truth n b) same = unmet (truth n b) (uses see v.number scope (truth n b)) same
  deref (nil n) same = unmet (nil n) (uses see v.number scope (nil n)) same
  deref (path n y (field ∷ fields)) same = unmet (path n y (field ∷ fields)) (uses see v.number scope (path n y (field ∷ fields))) same
  deref (arrow n y fields) same = unmet (arrow n y fields) (uses see v.number scope (arrow n y fields)) same
  deref (call n f args c) same = unmet (call n f args c) (uses see v.number scope (call n f args c)) same
  deref (named_call n f args c) same = unmet (named_call n f args c) (uses see v.number scope (named_call n f args c)) same
  deref (dereference n e) same = unmet (dereference n e) (uses see v.number scope (dereference n e)) same
  deref (borrow n m y) same = unmet (borrow n m y) (uses see v.number scope (borrow n m y)) same
  deref (borrow_part n y fields) same = unmet (borrow_part n y fields) (uses see v.number scope (borrow_part n y fields)) same
  deref (binary n op a b) same = unmet (binary n op a b) (uses see v.number scope (binary n op a b)) same
  deref (negation n e) same = unmet (negation n e) (uses see v.number scope (negation n e)) same
  deref (typed n e t) same = unmet (typed n e t) (uses see v.number scope (typed n e t)) same
  deref (choice n c a b) same = unmet (choice n c a b) (uses see v.number scope (choice n c a b)) same

  mutual
    agree : (e : Expression Bytes T C) → SaysFree see x free e
        → uses see v.number scope e ≡ counts_in x free (plain_expression (λ (b : Bytes). b) e)
    agree (number n l) says = refl
    agree (negative n l) says = refl
    agree (text n t) says = refl
    agree (truth n b) says = refl
    agree (nil n) says = refl
    agree (path n y []) says = mention y.name (see.is_free n.note) says
    agree (path n y (field ∷ fields)) says = met y.name one_look ∙ ap (where_named x y.name) (looked free)
      where
        looked : (b : Bool) → one_look ≡ mentioned_with b (field ∷ fields)
        looked true = refl
        looked false = refl
    agree (arrow n y fields) says = met y.name one_look
    agree (call n f args c) says = agree_all args says
    agree (named_call n f args c) says = agree_named args says
    agree (parenthesized n e) says = agree e says
    agree (dereference n e) says = deref e (agree e says)
    agree (borrow n m y) says = met y.name (borrowed_by m)
    agree (borrow_part n y fields) says = met y.name one_look
    agree (binary n op a b) says = ap₂ plus (agree a says.0) (agree b says.1)
    agree (negation n e) says = agree e says
    agree (typed n e t) says = agree e says
    agree (choice n c a b) says = ap₂ plus (agree c says.0) (ap₂ plus (agree a says.1) (agree b says.2))

    agree_all : (args : Expressions Bytes T C) → AllSayFree see x free args
        → uses_all see v.number scope args ≡ counts_in_all x free (plain_expressions (λ (b : Bytes). b) args)
    agree_all no_expressions says = refl
    agree_all (expressions e rest) says = ap₂ plus (agree e says.0) (agree_all rest says.1)

    agree_named : (args : Arguments Bytes T C) → NamedSayFree see x free args
        → uses_named see v.number scope args ≡ counts_in_arguments x free (plain_arguments (λ (b : Bytes). b) args)
    agree_named no_arguments says = refl
    agree_named (arguments label e rest) says = ap₂ plus (agree e says.0) (agree_named rest says.1)

pub counts_agree : {I T C : Type 0} (see : View I T C) (x : Bytes) (free : Bool) → CountsAgree see x free
counts_agree see x free scope v e there unique says = agree see x free scope v there unique e says
