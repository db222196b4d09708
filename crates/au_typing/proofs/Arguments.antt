-- In a good call each argument has the type of its parameter, with the call's substitution put in.
use Rattle.std.proofs.Common.{◌≡◌, Bool, true, false, ◌&&◌, List, [], ◌∷◌, refl, sym, ap, subst, ◌∙◌, Option}
use Rattle.std.proofs.Common.{Some, None}
use Rattle.au_syntax.specs.Expressions.{number, negative, text, truth, nil, path, arrow, call, named_call}
use Rattle.au_syntax.specs.Expressions.{parenthesized, dereference, borrow, borrow_part, binary, negation}
use Rattle.au_syntax.specs.Expressions.{typed, choice, no_expressions, expressions, no_arguments, arguments}
use Rattle.au_syntax.specs.Plain.{Bytes}
use Rattle.au_types.specs.Same.{same}
use Rattle.au_types.specs.Types as mean
use Rattle.au_types.specs.Types.{Meaning}
use Rattle.au_types.proofs.SameLemmas.{same_is}
use Rattle.au_matching.specs.Bindings.{Bindings, Extends}
use Rattle.au_matching.specs.Fixed.{fixed}
use Rattle.au_matching.specs.Matched.{matched}
use Rattle.au_matching.specs.Substituted.{substituted}
use Rattle.au_matching.proofs.BindingLemmas.{extends_on}
use Rattle.au_matching.proofs.FixedLemmas.{fixed_decides}
use Rattle.au_matching.proofs.MatchedLemmas.{matched_makes}
use Rattle.au_matching.proofs.SubstitutedLemmas.{fixed_stays}
use Rattle.au_typing.specs.Scopes.{Scope, Typed}
use Rattle.au_typing.specs.Bare.{is_arithmetic, is_bare}
use Rattle.au_typing.specs.Calls.{FirstStep, GoodCall, Passes, SecondStep, Taken, TakenBare}
use Rattle.au_typing.specs.Good.{AllGood, AllGoodIn, AllGoodLabelled, CallFits, GoodArithmetic, GoodBinary}
use Rattle.au_typing.specs.Good.{HaveTypes, PairedModes, items_of, shown, values_of}
use Rattle.au_typing.specs.Notes.{Mode, Note, NotedArguments, NotedExpression, NotedExpressions, mode_of}
use Rattle.au_typing.specs.Notes.{note_of, type_of}
use Rattle.au_typing.specs.Rules.{int32, is_logical, literal_kind, meets}
use Rattle.au_typing.proofs.Wanted.{first_extends, pass_extends, second_extends, wanted_is_had}

-- ---- bare expressions of which nothing is wanted

both_true : (x y z : Bool) → (x && y && z) ≡ true → (x ≡ true) × (y ≡ true) × (z ≡ true)
both_true true true true h = (refl, refl, refl)
both_true true true false h = absurd cc
both_true true false z h = absurd cc
both_true false y z h = absurd cc

literal_type : (n : Note) → n.of ≡ mean.integer (literal_kind n.mode) → n.mode ≡ None → n.of ≡ int32
literal_type n of none = of ∙ ap (λ (m : Mode). mean.integer (literal_kind m)) none

first_mode : (x y : Bool) (mode : Mode) (a b : Note) → x ≡ true → y ≡ true → PairedModes x y mode a b → a.mode ≡ mode
first_mode true true mode a b one other h = h.0
first_mode true false mode a b one other h = absurd cc
first_mode false y mode a b one other h = absurd cc

-- they have Int32
pub bare_type : (scope : Scope) (a : NotedExpression) → AllGood scope a → is_bare a ≡ true →
    mode_of a ≡ None → type_of a ≡ int32
bare_type scope (number n l) g bare none = literal_type n.note g.1.0 none
bare_type scope (negative n l) g bare none = literal_type n.note g.1.0 none
bare_type scope (parenthesized n e) g bare none = g.1.1 ∙ bare_type scope e g.2 bare (g.1.0 ∙ none)
bare_type scope (binary n op a b) g bare none =
    let all = both_true (is_arithmetic op) (is_bare a) (is_bare b) bare in
    let rule : GoodArithmetic n.note a b = subst (λ (x : Bool). GoodBinary x (is_logical op) op n.note a b) all.0 g.1 in
    let mode = first_mode (is_bare a) (is_bare b) n.note.mode (note_of a) (note_of b) all.1 all.2 rule.paired.modes in
    rule.of ∙ bare_type scope a g.2 all.1 (mode ∙ none)
bare_type scope (text n t) g bare none = absurd cc
bare_type scope (truth n b) g bare none = absurd cc
bare_type scope (nil n) g bare none = absurd cc
bare_type scope (path n x fields) g bare none = absurd cc
bare_type scope (arrow n x fields) g bare none = absurd cc
bare_type scope (call n f es c) g bare none = absurd cc
bare_type scope (named_call n f es c) g bare none = absurd cc
bare_type scope (dereference n e) g bare none = absurd cc
bare_type scope (borrow n m x) g bare none = absurd cc
bare_type scope (borrow_part n x fields) g bare none = absurd cc
bare_type scope (negation n e) g bare none = absurd cc
bare_type scope (typed n e t) g bare none = absurd cc
bare_type scope (choice n c a b) g bare none = absurd cc

-- ---- one argument

-- a type that is wanted under a substitution that fixes it stays as the substitution goes on
wanted_has : (p : Meaning) (a : Note) (s ends : Bindings) → fixed s p ≡ true → meets a.mode a.of ≡ true →
    a.mode ≡ Some (substituted s p) → Extends s ends → a.of ≡ substituted ends p
wanted_has p a s ends all had wanted more =
    let is : same (substituted s p) a.of ≡ true = subst (λ (m : Mode). meets m a.of ≡ true) wanted had in
    sym (same_is (substituted s p) a.of is) ∙ fixed_stays s ends more p ((fixed_decides s p).0 all)

-- a type to which a parameter's type was made equal
made_has : (p t : Meaning) (s r ends : Bindings) → matched p t s ≡ Some r → Extends r ends → t ≡ substituted ends p
made_has p t s r ends h more =
    let makes = matched_makes p t s r h in
    sym makes.equal ∙ fixed_stays r ends more p makes.fixes

taken_has : (b : Bool) (p : Meaning) (a : Note) (s r ends : Bindings) → fixed s p ≡ b →
    meets a.mode a.of ≡ true → Taken b p a s r → Extends r ends → a.of ≡ substituted ends p
taken_has true p a s r ends all had h more =
    wanted_has p a s ends all had h.0 (subst (λ (q : Bindings). Extends q ends) h.1 more)
taken_has false p a s r ends all had h more = made_has p a.of s r ends h.1 more

taken_bare_has : (scope : Scope) (b : Bool) (p : Meaning) (a : NotedExpression) (s r ends : Bindings) →
    fixed s p ≡ b → AllGood scope a → is_bare a ≡ true → TakenBare b p (note_of a) s r → Extends r ends →
    type_of a ≡ substituted ends p
taken_bare_has scope true p a s r ends all good bare h more =
    wanted_has p (note_of a) s ends all (wanted_is_had scope a good) h.0
    (subst (λ (q : Bindings). Extends q ends) h.1 more)
taken_bare_has scope false (mean.parameter name) a s r ends all good bare h more =
    bare_type scope a good bare h.0 ∙ made_has (mean.parameter name) int32 s r ends h.1 more
taken_bare_has scope false mean.unit a s r ends all good bare h more = absurd h
taken_bare_has scope false mean.truth a s r ends all good bare h more = absurd h
taken_bare_has scope false (mean.integer kind) a s r ends all good bare h more = absurd h
taken_bare_has scope false mean.text a s r ends all good bare h more = absurd h
taken_bare_has scope false (mean.named at args) a s r ends all good bare h more = absurd h
taken_bare_has scope false (mean.reads t region) a s r ends all good bare h more = absurd h
taken_bare_has scope false (mean.writes t region) a s r ends all good bare h more = absurd h

step_has : (scope : Scope) (x : Bool) (p : Meaning) (a : NotedExpression) (s q m r ends : Bindings) →
    is_bare a ≡ x → AllGood scope a → FirstStep x p (note_of a) s q → SecondStep x p (note_of a) m r →
    Extends q ends → Extends r ends → type_of a ≡ substituted ends p
step_has scope true p a s q m r ends bare good one two first second =
    taken_bare_has scope (fixed m p) p a m r ends refl good bare two second
step_has scope false p a s q m r ends bare good one two first second =
    taken_has (fixed s p) p (note_of a) s q ends refl (wanted_is_had scope a good) one first

-- ---- all of them

module _ (scope : Scope) where
  -- good arguments
  abbrev EachGood : List NotedExpression → Type 0
  EachGood [] = Unit {0}
  EachGood (a ∷ args) = AllGood scope a × EachGood args

  each_has : (ps : List Meaning) (args : List NotedExpression) (s q m r ends : Bindings) → EachGood args →
      Passes FirstStep ps (shown args) s q → Passes SecondStep ps (shown args) m r → Extends q ends →
      Extends r ends → HaveTypes ends ps args
  each_has [] [] s q m r ends good one two first second = tt
  each_has (p ∷ ps) (a ∷ args) s q m r ends good one two first second =
      let left = pass_extends FirstStep first_extends ps (shown args) one.0 q one.2 in
      let right = pass_extends SecondStep second_extends ps (shown args) two.0 r two.2 in (
        step_has scope (is_bare a) p a s one.0 m two.0 ends refl good.0 one.1 two.1
            (extends_on one.0 q ends left first) (extends_on two.0 r ends right second),
        each_has ps args one.0 q two.0 r ends good.1 one.2 two.2 first second,
      )
  each_has [] (a ∷ args) s q m r ends good one two first second = absurd one
  each_has (p ∷ ps) [] s q m r ends good one two first second = absurd one

  call_fits : (n : Note) (name : Bytes) (takes : List Typed → Option (List Meaning))
      (args : List NotedExpression) (g : GoodCall scope n name takes (shown args)) → EachGood args →
      CallFits n g.called g.types args
  call_fits n name takes args g good =
      let onwards = pass_extends SecondStep second_extends g.types (shown args) g.goes_on g.ends g.bare in
      record {
        s = g.ends;
        told = ap (λ (m : Note). m.call) g.is_noted;
        result = ap (λ (m : Note). m.of) g.is_noted;
        arguments_fit = each_has g.types args g.begins g.goes_on g.goes_on g.ends g.ends good g.not_bare
            g.bare onwards (λ name value h. h);
      }

  each_in : (es : NotedExpressions) → AllGoodIn scope es → EachGood (items_of es)
  each_in no_expressions g = tt
  each_in (expressions e es) g = (g.0, each_in es g.1)

  each_labelled : (es : NotedArguments) → AllGoodLabelled scope es → EachGood (values_of es)
  each_labelled no_arguments g = tt
  each_labelled (arguments label e es) g = (g.0, each_labelled es g.1)

  pub positional_fits : (n : Note) (name : Bytes) (takes : List Typed → Option (List Meaning))
      (es : NotedExpressions) (g : GoodCall scope n name takes (shown (items_of es))) → AllGoodIn scope es →
      CallFits n g.called g.types (items_of es)
  positional_fits n name takes es g good = call_fits n name takes (items_of es) g (each_in es good)

  pub labelled_fits : (n : Note) (name : Bytes) (takes : List Typed → Option (List Meaning))
      (es : NotedArguments) (g : GoodCall scope n name takes (shown (values_of es))) →
      AllGoodLabelled scope es → CallFits n g.called g.types (values_of es)
  labelled_fits n name takes es g good = call_fits n name takes (values_of es) g (each_labelled es good)
