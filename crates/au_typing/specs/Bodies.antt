-- When the bodies of functions and methods, and the values of constants, are good with their notes.
use Rattle.std.specs.Prelude.{◌≡◌, true, List, [], ◌∷◌, map, Some, Ok}
use Rattle.au_syntax.specs.Modules.{Constrained, Header}
use Rattle.au_syntax.specs.Plain.{Bytes}
use Rattle.au_syntax.specs.Types.{Labelled, WrittenType}
use Rattle.au_types.specs.Types as mean
use Rattle.au_types.specs.Types.{Meaning}
use Rattle.au_judged_types.specs.Bounds.{Bounded}
use Rattle.au_judged_types.specs.Meanings.{class_meant, with_classes, written_params}
use Rattle.au_typing.specs.Scopes.{Outside, Scope}
use Rattle.au_typing.specs.Faults.{Noting, ◌>>=◌}
use Rattle.au_typing.specs.Lookups.{written_type}
use Rattle.au_typing.specs.Notes.{NotedExpression}
use Rattle.au_typing.specs.InScope.{fixed_variable, with_variable}
use Rattle.au_typing.specs.Parts.{is_literal}
use Rattle.au_typing.specs.Returns.{block_returns}
use Rattle.au_typing.specs.Statements.{GoodBlock, Wants}
use Rattle.au_typing.specs.Trees.{NotedMethod, NotedStatements}

-- ---- what is in scope in a body

-- type parameters with the classes that their constraints mean in a part of a module
abbrev pub generics_in : Outside → List (Constrained Bytes) → List Bounded
generics_in outside generics =
    map (with_classes (class_meant (written_params generics) outside.visible outside.heads)) generics

-- Where nothing is in scope but what is outside of functions and type parameters; there is no result yet, for
-- which Unit stands.
abbrev pub outer_scope : Outside → List Bounded → Scope
outer_scope outside generics = record {
  outside = outside;
  generics = generics;
  result = mean.unit;
  regions = [];
  variables = [];
}

-- a scope with parameters, which aren't assigned to
abbrev pub with_parameters : List (Labelled Bytes) → Scope → Noting Scope
with_parameters [] sc = Ok sc
with_parameters (p ∷ rest) sc =
    written_type sc p.of >>= λ of. with_parameters rest (with_variable (fixed_variable p.name.name of) sc)

-- a scope with a result
abbrev pub with_result : WrittenType → Scope → Noting Scope
with_result t sc = written_type sc t >>= λ of. Ok (record sc { result = of })

-- The scope of a body: what is outside, the type parameters, the parameters and the result, whose types are
-- well formed.
abbrev pub body_scope : Outside → List (Constrained Bytes) → Header Bytes → Noting Scope
body_scope outside generics header =
    with_parameters header.parameters (outer_scope outside (generics_in outside generics))
    >>= λ sc. with_result header.result sc

-- ---- bodies and values

-- The body of a function or method is good in its scope, and returns on every path.
pub record GoodBody (outside : Outside) (generics : List (Constrained Bytes)) (header : Header Bytes)
    (body : NotedStatements) : Type 0 where
  pub scope : Scope
  pub formed : body_scope outside generics header ≡ Ok scope
  pub good : GoodBlock body scope
  pub returned : block_returns body ≡ true

-- The methods of an instance with these type parameters are good.
abbrev pub GoodMethods : Outside → List (Constrained Bytes) → List NotedMethod → Type 0
GoodMethods outside generics [] = Unit {0}
GoodMethods outside generics (m ∷ rest) =
    GoodBody outside generics m.header m.body × GoodMethods outside generics rest

-- The value of a constant is one literal, which wants the constant's type.
pub record GoodConstant (outside : Outside) (t : WrittenType) (e : NotedExpression) : Type 0 where
  pub of : Meaning
  pub formed : written_type (outer_scope outside []) t ≡ Ok of
  pub literal : is_literal e ≡ true
  pub wants : Wants (outer_scope outside []) e (Some of)
