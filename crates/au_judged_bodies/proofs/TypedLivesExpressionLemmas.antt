-- What the notes of a good expression say of a variable.
use Rattle.std.proofs.Common.{◌≡◌, true, [], ◌∷◌, Option, Some, option_map, sym, ap, ◌∙◌}
use Rattle.std.specs.Option.{option_or}
use Rattle.std.specs.Str.{bytes_eq}
use Rattle.au_base.proofs.TextLemmas.{bytes_same}
use Rattle.au_types.specs.Types.{Meaning}
use Rattle.au_meaning.specs.Views.{View}
use Rattle.au_syntax.specs.Names.{Placed}
use Rattle.au_syntax.specs.Expressions.{Node, Expressions, Arguments, number, negative, text, truth}
use Rattle.au_syntax.specs.Expressions.{nil, path, arrow, call, named_call, parenthesized, dereference}
use Rattle.au_syntax.specs.Expressions.{borrow, borrow_part, binary, negation, typed, choice, no_expressions}
use Rattle.au_syntax.specs.Expressions.{expressions, no_arguments, arguments}
use Rattle.au_syntax.specs.Plain.{Bytes}
use Rattle.au_typing.specs.Good.{AllGood, AllGoodIn, AllGoodLabelled}
use Rattle.au_typing.specs.Lookups.{is_free_in, value_type, variable_of}
use Rattle.au_typing.specs.Notes.{Note, NotedExpression}
use Rattle.au_typing.specs.Scopes.{Scope, Variable}
use Rattle.au_running_lives.specs.Counted.{AllSayFree, NamedSayFree, SaysFree}
use Rattle.au_judged_bodies.specs.Said.{TellsFree}

module _ {I : Type 0} (see : View I Note (Unit {0})) (sc : Scope) (tells : TellsFree see sc) (x : Bytes)
    (one : Variable)
    (known : variable_of sc x ≡ Some one) where
  -- a name alone
  mentioned : (n : Node Note) (y : Placed Bytes)
      → (t : Meaning) × (value_type sc y.name ≡ Some t) × (n.note.of ≡ t) → bytes_eq y.name x ≡ true
      → see.is_free n.note ≡ is_free_in sc one.of
  mentioned n y rule here =
      let there : value_type sc y.name ≡ Some one.of =
      ap (value_type sc) (bytes_same y.name x here)
      ∙ ap (λ (o : Option Variable). option_or (option_map (λ (v : Variable). v.of) o)
      (sc.outside.constant x)) known in
      let twice : ◌≡◌ {A = Option Meaning} (Some rule.0) (Some one.of) = sym rule.1 ∙ there in
      let type : rule.0 ≡ one.of = cc in
      tells n.note ∙ ap (λ (t : Meaning). is_free_in sc t) (rule.2 ∙ type)

  mutual
    pub says : (e : NotedExpression) → AllGood sc e → SaysFree see x (is_free_in sc one.of) e
    says (number n l) good = tt
    says (negative n l) good = tt
    says (text n t) good = tt
    says (truth n b) good = tt
    says (nil n) good = tt
    says (path n y []) good = mentioned n y good.1
    says (path n y (field ∷ fields)) good = tt
    says (arrow n y fields) good = tt
    says (call n f es c) good = says_in es good.1
    says (named_call n f es c) good = says_labelled es good.1
    says (parenthesized n e) good = says e good.2
    says (dereference n e) good = says e good.2
    says (borrow n m y) good = tt
    says (borrow_part n y fields) good = tt
    says (binary n op a b) good = (says a good.2, says b good.3)
    says (negation n e) good = says e good.2
    says (typed n e t) good = says e good.2
    says (choice n c a b) good = (says c good.2, says a good.3, says b good.4)

    says_in : (es : Expressions Bytes Note (Unit {0})) → AllGoodIn sc es
        → AllSayFree see x (is_free_in sc one.of) es
    says_in no_expressions good = tt
    says_in (expressions e es) good = (says e good.0, says_in es good.1)

    says_labelled : (es : Arguments Bytes Note (Unit {0})) → AllGoodLabelled sc es
        → NamedSayFree see x (is_free_in sc one.of) es
    says_labelled no_arguments good = tt
    says_labelled (arguments label e es) good = (says e good.0, says_labelled es good.1)
