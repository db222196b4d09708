-- Where a type is wanted of a good expression, its type is that.
use Rattle.std.proofs.Common.{◌≡◌, Bool, true, false, List, [], ◌∷◌, refl, sym, ap, subst, ◌∙◌, Option, Some, None}
use Rattle.au_syntax.specs.Expressions.{number, negative, text, truth, nil, path, arrow, call, named_call}
use Rattle.au_syntax.specs.Expressions.{parenthesized, dereference, borrow, borrow_part, binary, negation}
use Rattle.au_syntax.specs.Expressions.{typed, choice}
use Rattle.au_syntax.specs.Plain.{Bytes}
use Rattle.au_types.specs.Same.{same}
use Rattle.au_types.specs.Types as mean
use Rattle.au_types.specs.Types.{Meaning}
use Rattle.au_types.proofs.SameLemmas.{same_self}
use Rattle.au_matching.specs.Bindings.{Bindings, Extends}
use Rattle.au_matching.specs.Fixed.{fixed}
use Rattle.au_matching.specs.Substituted.{substituted}
use Rattle.au_matching.proofs.BindingLemmas.{extends_on, extends_self}
use Rattle.au_matching.proofs.MatchedLemmas.{matched_makes}
use Rattle.au_matching.proofs.SubstitutedLemmas.{fixed_stays}
use Rattle.au_typing.specs.Scopes.{Scope, Typed}
use Rattle.au_typing.specs.Calls.{Shown, begun, FirstStep, GoodCall, Passes, SecondStep, Taken, TakenBare}
use Rattle.au_typing.specs.Good.{AllGood}
use Rattle.au_typing.specs.Notes.{Mode, Note, NotedExpression, mode_of, type_of}
use Rattle.au_typing.specs.Rules.{int32, meets}

-- ---- no rule of a call takes anything out of the substitution

taken_extends : (b : Bool) (p : Meaning) (a : Note) (s r : Bindings) → Taken b p a s r → Extends s r
taken_extends true p a s r h = subst (Extends s) (sym h.1) (extends_self s)
taken_extends false p a s r h = (matched_makes p a.of s r h.1).extends

taken_bare_extends : (b : Bool) (p : Meaning) (a : Note) (s r : Bindings) → TakenBare b p a s r → Extends s r
taken_bare_extends true p a s r h = subst (Extends s) (sym h.1) (extends_self s)
taken_bare_extends false (mean.parameter name) a s r h =
    (matched_makes (mean.parameter name) int32 s r h.1).extends
taken_bare_extends false mean.unit a s r h = absurd h
taken_bare_extends false mean.truth a s r h = absurd h
taken_bare_extends false (mean.integer kind) a s r h = absurd h
taken_bare_extends false mean.text a s r h = absurd h
taken_bare_extends false (mean.named at args) a s r h = absurd h
taken_bare_extends false (mean.reads t region) a s r h = absurd h
taken_bare_extends false (mean.writes t region) a s r h = absurd h

pub first_extends : (x : Bool) (p : Meaning) (a : Note) (s r : Bindings) → FirstStep x p a s r → Extends s r
first_extends true p a s r h = subst (Extends s) (sym h) (extends_self s)
first_extends false p a s r h = taken_extends (fixed s p) p a s r h

pub second_extends : (x : Bool) (p : Meaning) (a : Note) (s r : Bindings) → SecondStep x p a s r → Extends s r
second_extends true p a s r h = taken_bare_extends (fixed s p) p a s r h
second_extends false p a s r h = subst (Extends s) (sym h) (extends_self s)

module _ (step : Bool → Meaning → Note → Bindings → Bindings → Type 0)
    (extends : (x : Bool) (p : Meaning) (a : Note) (s r : Bindings) → step x p a s r → Extends s r) where
  pub pass_extends : (ps : List Meaning) (args : List Shown) (s r : Bindings) → Passes step ps args s r → Extends s r
  pass_extends [] [] s r h = subst (Extends s) (sym h) (extends_self s)
  pass_extends (p ∷ ps) (a ∷ args) s r h =
      extends_on s h.0 r (extends a.bare p a.note s h.0 h.1) (pass_extends ps args h.0 r h.2)
  pass_extends [] (a ∷ args) s r h = absurd h
  pass_extends (p ∷ ps) [] s r h = absurd h

-- ---- calls

result_meets : (mode : Mode) (result of : Meaning) (begins ends : Bindings) →
    begun mode result ≡ Some begins → Extends begins ends → of ≡ substituted ends result → meets mode of ≡ true
result_meets None result of begins ends h more is = refl
result_meets (Some wanted) result of begins ends h more is =
    let makes = matched_makes result wanted [] begins h in
    let had : wanted ≡ of = sym makes.equal ∙ (fixed_stays begins ends more result makes.fixes ∙ sym is) in
    subst (λ (t : Meaning). same wanted t ≡ true) had (same_self wanted)

call_meets : (scope : Scope) (n : Note) (name : Bytes) (takes : List Typed → Option (List Meaning))
    (args : List Shown) → GoodCall scope n name takes args → meets n.mode n.of ≡ true
call_meets scope n name takes args g =
    let first = pass_extends FirstStep first_extends g.types args g.begins g.goes_on g.not_bare in
    let second = pass_extends SecondStep second_extends g.types args g.goes_on g.ends g.bare in
    result_meets n.mode g.called.result n.of g.begins g.ends g.from_result
    (extends_on g.begins g.goes_on g.ends first second) (ap (λ (m : Note). m.of) g.is_noted)

-- ---- every kind

pub wanted_is_had : (scope : Scope) (a : NotedExpression) → AllGood scope a → meets (mode_of a) (type_of a) ≡ true
wanted_is_had scope (number n l) g = g.0.wanted
wanted_is_had scope (negative n l) g = g.0.wanted
wanted_is_had scope (text n t) g = g.0.wanted
wanted_is_had scope (truth n b) g = g.0.wanted
wanted_is_had scope (nil n) g = g.0.wanted
wanted_is_had scope (path n x fields) g = g.0.wanted
wanted_is_had scope (arrow n x fields) g = g.0.wanted
wanted_is_had scope (call n f es c) g = call_meets scope n.note _ _ _ g.0
wanted_is_had scope (named_call n f es c) g = call_meets scope n.note _ _ _ g.0
wanted_is_had scope (parenthesized n e) g = g.0.wanted
wanted_is_had scope (dereference n e) g = g.0.wanted
wanted_is_had scope (borrow n m x) g = g.0.wanted
wanted_is_had scope (borrow_part n x fields) g = g.0.wanted
wanted_is_had scope (binary n op a b) g = g.0.wanted
wanted_is_had scope (negation n e) g = g.0.wanted
wanted_is_had scope (typed n e t) g = g.0.wanted
wanted_is_had scope (choice n c a b) g = g.0.wanted
