-- Steps of the search over the items of lists, and over the parts of a scope.
use Rattle.std.proofs.Common.{◌≡◌, ℕ, ◌+◌, ◌<◌, false, List, [], ◌∷◌, length, map, drop, get_or, Result, Ok}
use Rattle.std.proofs.Common.{Err, refl, sym, ap, subst, ◌∙◌}
use Rattle.au_base.specs.declared.places.Pos.{Pos}
use Rattle.au_base.proofs.ListLemmas.{next_item}
use Rattle.au_syntax.specs.Modules.{Constrained, Header, function_body, instance_body}
use Rattle.au_syntax.specs.Names.{Placed}
use Rattle.au_syntax.specs.Plain.{Bytes, PlainDeclaration, PlainExpression, PlainMethod, PlainStatements}
use Rattle.au_syntax.specs.Types.{Labelled, WrittenType}
use Rattle.au_types.specs.Types.{Meaning, unit}
use Rattle.au_judged_types.specs.Bounds.{Bounded}
use Rattle.au_typing.specs.Scopes.{Outside, Scope, Variable}
use Rattle.au_typing.specs.Faults.{Noting, ◌>>=◌}
use Rattle.au_typing.specs.Lookups.{written_type}
use Rattle.au_typing.specs.Bodies.{outer_scope, with_parameters, with_result}
use Rattle.au_typing.specs.DerivationFaults.{Judged, ◌then◌}
use Rattle.au_typing.specs.InScope.{fixed_variable, with_variable}
use Rattle.au_typing.specs.ProgramSearch.{note_body, note_constant, note_declaration, note_declarations, note_methods}
use Rattle.au_typing.specs.Trees.{NotedDeclaration, NotedMethod, NotedStatements}
use Rattle.au_judgements.specs.declared.refusals.Refused.{Refused}
use Rattle.au_judgements.specs.Refusing.{Judges}
use Rattle.au_noting_programs.specs.Steps.{note_method, note_value, with_header, with_parameter}
use Rattle.au_noting_programs.proofs.ChainLemmas.{each, followed}

-- ---- parameters

-- one parameter is declared before the others
pub parameter_first : (p : Labelled Bytes) (rest : List (Labelled Bytes)) (sc : Scope) →
    with_parameters (p ∷ rest) sc ≡ (with_parameter p sc >>= with_parameters rest)
parameter_first p rest sc = by (written_type sc p.of)
  where
    by : (r : Noting Meaning) → (r >>=
        λ of. with_parameters rest (with_variable (fixed_variable p.name.name of) sc))
        ≡ ((r >>= λ of. Ok (with_variable (fixed_variable p.name.name of) sc)) >>= with_parameters rest)
    by (Ok of) = refl
    by (Err fault) = refl

-- a parameter is declared
pub parameter_declared : (p : Labelled Bytes) (sc new : Scope) (name : Bytes) (of : Meaning) →
    written_type sc p.of ≡ Ok of → name ≡ p.name.name
    → new ≡ with_variable (record { name = name; of = of; assignable = false }) sc → with_parameter p sc ≡ Ok new
parameter_declared p sc new name of typed named declared =
    ap (λ r. r >>= λ of. Ok (with_variable (fixed_variable p.name.name of) sc)) typed
    ∙ ap (λ n. Ok (with_variable (fixed_variable n of) sc)) (sym named)
    ∙ ap Ok (sym declared)

-- one more of the parameters that are left is declared
pub parameters_more : {X : Type 0} (see : X → Labelled Bytes) (whole : Noting Scope) (xs : List X) (i : ℕ)
    (x : X) (sc new : Scope)
    → whole ≡ with_parameters (map see (drop i xs)) sc → i < length xs → x ≡ get_or xs i x →
    with_parameter (see x) sc ≡ Ok new → whole ≡ with_parameters (map see (drop (i + 1) xs)) new
parameters_more see whole xs i x sc new so_far within is declared =
    so_far
    ∙ ap (λ rest. with_parameters (map see rest) sc) (next_item xs i x is within)
    ∙ parameter_first (see x) (map see (drop (i + 1) xs)) sc
    ∙ ap (λ r. r >>= with_parameters (map see (drop (i + 1) xs))) declared

-- ---- scopes

-- nothing is in scope but what is outside and type parameters
pub outer_is : (outside : Outside) (generics made : List Bounded) (result : Meaning) (regions : List Bytes)
    (variables : List Variable)
    → made ≡ generics → result ≡ unit → regions ≡ [] → variables ≡ []
    → ◌≡◌ {A = Scope} (record {
      outside = outside;
      generics = made;
      result = result;
      regions =
          regions;
      variables = variables;
    }) (outer_scope outside generics)
outer_is outside generics made result regions variables same of none no_more =
    λ i. record { outside = outside; generics = same i; result = of i; regions = none i; variables = no_more i }

-- the parameters of a header are declared, and then its result is set
pub header_is : (h : Header Bytes) (ps : List (Labelled Bytes)) (sc inner : Scope) → ps ≡ h.parameters →
    with_parameters ps sc ≡ Ok inner → with_header h sc ≡ with_result h.result inner
header_is h ps sc inner same declared = ap (λ r. r >>= λ mid. with_result h.result mid)
    (ap (λ all. with_parameters all sc) (sym same) ∙ declared)

-- the value of a constant is noted where nothing but what is outside is in scope
pub constant_is : (outside : Outside) (t : WrittenType) (e : PlainExpression) (sc : Scope) (of : Meaning) →
    sc ≡ outer_scope outside [] → written_type sc t ≡ Ok of → note_constant outside t e ≡ note_value sc e of
constant_is outside t e sc of same typed = ap (λ s. written_type s t >>= note_value s e) (sym same)
    ∙ ap (λ r. r >>= note_value sc e) typed

-- ---- declarations and methods

-- a function and an instance with the notes of their bodies
pub function_noted : (outside : Outside) (at : Pos) (gs hs : List (Constrained Bytes)) (h k : Header Bytes)
    (b : PlainStatements) (stop : Pos) (made : NotedStatements)
    → note_body outside at gs h b stop ≡ Ok made → hs ≡ gs → k ≡ h →
    note_declaration outside (function_body at gs h b stop) ≡ Ok (function_body at hs k made stop)
function_noted outside at gs hs h k b stop made noted generics header =
    ap (λ r. r then λ noted. Ok (function_body at gs h noted stop)) noted
    ∙ (λ i. Ok (function_body at (sym generics i) (sym header i) made stop))

pub instance_noted : (outside : Outside) (at : Pos) (gs hs : List (Constrained Bytes)) (n m : Placed Bytes)
    (t u : WrittenType) (ms : List PlainMethod) (made : List NotedMethod)
    → note_methods outside gs ms ≡ Ok made → hs ≡ gs → m ≡ n → u ≡ t →
    note_declaration outside (instance_body at gs n t ms) ≡ Ok (instance_body at hs m u made)
instance_noted outside at gs hs n m t u ms made noted generics name of =
    ap (λ r. r then λ noted. Ok (instance_body at gs n t noted)) noted
    ∙ (λ i. Ok (instance_body at (sym generics i) (sym name i) (sym of i) made))

-- what a declaration says is noted as what it is
pub noted_as : {X : Type 0} (view : X → NotedDeclaration) (r : Result X Refused) (outside : Outside)
    (d e : PlainDeclaration) → d ≡ e → Judges view r (note_declaration outside e) →
    Judges view r (note_declaration outside d)
noted_as view r outside d e is h = subst (λ x. Judges view r (note_declaration outside x)) (sym is) h

pub declarations_each : (outside : Outside) (ds : List PlainDeclaration) → note_declarations outside ds
    ≡ each (note_declaration outside) ds
declarations_each outside [] = refl
declarations_each outside (d ∷ rest) = ap (followed (note_declaration outside d)) (declarations_each outside rest)

pub methods_each : (outside : Outside) (generics : List (Constrained Bytes)) (ms : List PlainMethod) →
    note_methods outside generics ms ≡ each (note_method outside generics) ms
methods_each outside generics [] = refl
methods_each outside generics (m ∷ rest) =
    ap (λ r. note_body outside m.header.name.at generics m.header m.body m.stop then λ body. r then λ all. Ok
    (made body ∷ all)) (methods_each outside generics rest)
    ∙ by (note_body outside m.header.name.at generics m.header m.body m.stop)
  where
    made : NotedStatements → NotedMethod
    made body = record { header = m.header; body = body; stop = m.stop }

    by : (r : Judged NotedStatements)
        → (r then λ body. each (note_method outside generics) rest then λ all. Ok (made body ∷ all))
        ≡ followed (r then λ body. Ok (made body)) (each (note_method outside generics) rest)
    by (Ok body) = refl
    by (Err fault) = refl
