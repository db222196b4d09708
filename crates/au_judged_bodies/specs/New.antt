-- The names that a function declares are new in their scopes.
use Rattle.std.specs.Prelude.{◌≡◌, ℕ, ◌+◌, Bool, List, [], ◌++◌, length, map, None}
use Rattle.au_meaning.specs.Meanings.{scope_of}
use Rattle.au_meaning.specs.Names.{Scope, variable_of}
use Rattle.au_meaning.specs.Views.{Field, Function}
use Rattle.au_rules.specs.declared.marks.Kind.{Kind}
use Rattle.au_rules.specs.declared.marks.Kind.TheVariants.{Values}
use Rattle.au_rules.specs.declared.marks.Mark.{Mark}
use Rattle.au_rules.specs.Marks.{block_marks, labelled_mark}
use Rattle.au_rules.specs.Once.{AreNew}
use Rattle.au_syntax.specs.Plain.{Bytes, plain_statements}
use Rattle.au_syntax.specs.Statements.{Statements}
use Rattle.au_syntax.specs.Types.{Labelled}
use Rattle.au_judged_bodies.specs.Parts.{EachIn, EachParameter}

-- a name that is declared means nothing in the scope before it
abbrev pub IsNewIn : {T C : Type 0} → ℕ → Scope → Bytes → Statements Bytes T C → Type 0
IsNewIn number scope x block = variable_of scope x ≡ None

-- Where no name of a function is declared again in its text, its parameters first, each name that it declares
-- is new.
abbrev pub NamesAreNew : {I T C : Type 0} → Function I T C → Type 0
NamesAreNew f =
    (foreign : Kind → Bytes → Bool) (before : List Mark) (parameters : List (Labelled Bytes))
    → map (λ (p : Labelled Bytes). p.name.name) parameters ≡ map (λ (p : Field). p.name) f.parameters
    → AreNew foreign before
    (map (labelled_mark Values) parameters ++ block_marks (plain_statements (λ (b : Bytes). b) f.body))
    → EachParameter f.view (λ scope e. Unit {0}) IsNewIn f.first [] f.parameters f.body
    × EachIn f.view (λ scope e. Unit {0}) IsNewIn (f.first + length f.parameters) (scope_of f) f.body
