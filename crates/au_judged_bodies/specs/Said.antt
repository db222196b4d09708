-- The notes of a body that is good by the rules of typing say of each variable what it asks.
use Rattle.std.specs.Prelude.{◌≡◌, ℕ, ◌+◌, List, length, map, Some}
use Rattle.au_lives.specs.declared.lives.Sort.{Sort}
use Rattle.au_lives.specs.Lives as life
use Rattle.au_meaning.specs.Meanings.{scope_of}
use Rattle.au_meaning.specs.Names as meaning
use Rattle.au_meaning.specs.Views.{Field, Function, View}
use Rattle.au_program_lives.specs.Scopes.{TypeScope}
use Rattle.au_syntax.specs.Modules.{Constrained, Header}
use Rattle.au_syntax.specs.Plain.{Bytes}
use Rattle.au_syntax.specs.Types.{Labelled}
use Rattle.au_typing.specs.Bodies.{GoodBody, generics_in, outer_scope}
use Rattle.au_typing.specs.Lookups.{is_free_in, parameters_in, variable_of}
use Rattle.au_typing.specs.Notes.{Note}
use Rattle.au_typing.specs.Scopes.{Outside, Scope, Variable}
use Rattle.au_judged_bodies.specs.Lived.{SaysSorts}
use Rattle.au_judged_bodies.specs.Parts.{EachIn}
use Rattle.au_judged_bodies.specs.Sorts.{sorts_of}

-- what types are judged by in a scope
abbrev pub types_of : Scope → TypeScope
types_of sc = record {
  regions = sc.regions;
  params = parameters_in sc;
  visible = sc.outside.visible;
  heads = sc.outside.heads;
}

-- a view says of each note whether its type is Free, as the rules of typing do in a scope
abbrev pub TellsFree : {I : Type 0} → View I Note (Unit {0}) → Scope → Type 0
TellsFree see sc = (n : Note) → see.is_free n ≡ is_free_in sc n.of

-- Each variable that is in scope where a body runs is in scope by the rules of typing, and asks of its life
-- what its type there says.
abbrev pub VariablesAgree : (ℕ → Sort) → Scope → meaning.Scope → Type 0
VariablesAgree sorts sc scope =
    (x : Bytes) (v : meaning.Variable) → meaning.variable_of scope x ≡ Some v
    → (one : Variable) × (variable_of sc x ≡ Some one)
    × (life.is_free (sorts v.number) ≡ is_free_in sc one.of)

-- Where a body is good, and what is seen of its notes says what is Free, the notes of its expressions say of
-- each mention of a variable whether the variable is Free.
abbrev pub SortsAreSaid : {I : Type 0} → Function I Note (Unit {0}) → Type 0
SortsAreSaid f =
    (outside : Outside) (generics : List (Constrained Bytes)) (header : Header Bytes)
    → GoodBody outside generics header f.body
    → map (λ (p : Labelled Bytes). p.name.name) header.parameters ≡ map (λ (p : Field). p.name) f.parameters
    → TellsFree f.view (outer_scope outside (generics_in outside generics))
    → EachIn f.view
    (SaysSorts (sorts_of f header.parameters (types_of (outer_scope outside (generics_in outside generics))))
    f.view)
    (λ number scope x block. Unit {0}) (f.first + length f.parameters) (scope_of f) f.body
