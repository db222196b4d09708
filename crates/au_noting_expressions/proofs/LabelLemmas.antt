-- Noted arguments behind their labels, one after another.
use Rattle.std.proofs.Common.{◌≡◌, ℕ, ◌+◌, ◌<◌, ◌≤◌, List, [], ◌∷◌, ◌++◌, drop, get_or, length, refl, ap, ◌∙◌, sym}
use Rattle.std.proofs.lemmas.List.{at_drop_all, at_drop_more}
use Rattle.au_sights.specs.contracts.noted.NotedPhase.TheImpl.{ghosts as noted}
use Rattle.au_sights.specs.declared.noted.Noted.{Noted}
use Rattle.au_sights.specs.declared.notes.Notes.{Notes}
use Rattle.au_syntax.specs.contracts.parsed.ParsedPhase.TheImpl.{ghosts as parsed}
use Rattle.au_syntax.specs.declared.expressions.Argument.{Argument}
use Rattle.au_syntax.specs.declared.parsed.Parsed.{Parsed}
use Rattle.au_syntax.specs.Expressions.{no_arguments, arguments}
use Rattle.au_syntax.specs.Plain.{PlainArguments}
use Rattle.au_syntax.specs.Views.{argument_all, expression, placed}
use Rattle.au_typing.specs.Notes.{NotedArguments}
use Rattle.au_typing.specs.Search.{labelled}
use Rattle.au_noting_expressions.specs.Said.{NotedCode, all_said}

-- arguments before others
abbrev pub joined : NotedArguments → NotedArguments → NotedArguments
joined no_arguments others = others
joined (arguments label e rest) others = arguments label e (joined rest others)

before_none : (args : NotedArguments) → joined args no_arguments ≡ args
before_none no_arguments = refl
before_none (arguments label e rest) = ap (arguments label e) (before_none rest)

-- one more argument behind those of a list, before others
pushed_before : (made : List (Argument Noted (List ℕ) Notes (Unit {0})))
    (a : Argument Noted (List ℕ) Notes (Unit {0})) (others : NotedArguments) →
    joined (argument_all noted (made ++ a ∷ [])) others ≡ joined (argument_all noted made)
    (arguments (placed noted a.label) (expression noted a.value) others)
pushed_before [] a others = refl
pushed_before (one ∷ made) a others = ap (arguments (placed noted one.label) (expression noted one.value))
    (pushed_before made a others)

-- where there are no expressions, there are no arguments
without_expressions : (args : PlainArguments) → labelled args [] ≡ no_arguments
without_expressions no_arguments = refl
without_expressions (arguments label e rest) = refl

-- the arguments so far, before those that the labels and the expressions left make
abbrev pub labels_left : List (Argument Noted (List ℕ) Notes (Unit {0})) →
    List (Argument Parsed (List ℕ) (Unit {0}) (Unit {0})) → List NotedCode →
    NotedArguments
labels_left made old values = joined (argument_all noted made) (labelled (argument_all parsed old) (all_said values))

pub labels_begin : (old : List (Argument Parsed (List ℕ) (Unit {0}) (Unit {0}))) (values : List NotedCode) →
    labels_left [] old values ≡ labelled (argument_all parsed old) (all_said values)
labels_begin old values = refl

-- one more label with its expression
pub labels_more : (made pushed : List (Argument Noted (List ℕ) Notes (Unit {0})))
    (old : List (Argument Parsed (List ℕ) (Unit {0}) (Unit {0}))) (i : ℕ)
    (one : Argument Parsed (List ℕ) (Unit {0}) (Unit {0})) (a : Argument Noted (List ℕ) Notes (Unit {0}))
    (values rest : List NotedCode) →
    i < length old → one ≡ get_or old i one → placed noted a.label ≡ placed parsed one.label →
    values ≡ a.value ∷ rest → pushed ≡ made ++ a ∷ [] →
    labels_left pushed (drop (i + 1) old) rest ≡ labels_left made (drop i old) values
labels_more made pushed old i one a values rest inside is label first grows =
    ap (λ l. labels_left l (drop (i + 1) old) rest) grows
    ∙ pushed_before made a (labelled (argument_all parsed (drop (i + 1) old)) (all_said rest))
    ∙ ap (λ l. joined (argument_all noted made)
    (arguments l (expression noted a.value)
    (labelled (argument_all parsed (drop (i + 1) old)) (all_said rest))))
    (label ∙ ap (λ (x : Argument Parsed (List ℕ) (Unit {0}) (Unit {0})). placed parsed x.label) is)
    ∙ ap (labels_left made (get_or old i one ∷ drop (i + 1) old)) (sym first)
    ∙ sym (at_drop_more (λ l. labels_left made l values) old i one inside)

-- no expression is left
pub labels_short : (made : List (Argument Noted (List ℕ) Notes (Unit {0})))
    (old : List (Argument Parsed (List ℕ) (Unit {0}) (Unit {0}))) (values : List NotedCode) →
    values ≡ [] → labels_left made old values ≡ argument_all noted made
labels_short made old values none =
    ap (labels_left made old) none
    ∙ ap (joined (argument_all noted made)) (without_expressions (argument_all parsed old))
    ∙ before_none (argument_all noted made)

-- no label is left
pub labels_end : (made : List (Argument Noted (List ℕ) Notes (Unit {0})))
    (old : List (Argument Parsed (List ℕ) (Unit {0}) (Unit {0}))) (i : ℕ) (values : List NotedCode) →
    length old ≤ i → labels_left made (drop i old) values ≡ argument_all noted made
labels_end made old i values ends =
    at_drop_all (λ l. labels_left made l values) old i ends ∙ before_none (argument_all noted made)
