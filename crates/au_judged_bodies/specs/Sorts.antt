-- The variables of a function by the numbers of their declarations.
use Rattle.std.specs.Prelude.{◌≡◌, ℕ, ◌+◌, ◌==◌, List, [], ◌∷◌, length, map, if◌then◌else◌}
use Rattle.au_lives.specs.declared.lives.Sort.{Sort}
use Rattle.au_lives.specs.declared.lives.Sort.TheVariants as sort
use Rattle.au_lives.specs.Lives.{GoodLife}
use Rattle.au_lives.specs.Refusals.{GoodLives, Variable}
use Rattle.au_meaning.specs.Meanings.{scope_of}
use Rattle.au_meaning.specs.Names.{Scope}
use Rattle.au_meaning.specs.Views.{Field, Function}
use Rattle.au_program_lives.specs.Scopes.{TypeScope}
use Rattle.au_program_lives.specs.Variables.{variables_of}
use Rattle.au_syntax.specs.Plain.{Bytes, plain_statements}
use Rattle.au_syntax.specs.Statements.{Statements}
use Rattle.au_syntax.specs.Types.{Labelled}
use Rattle.au_judged_bodies.specs.Parts.{EachIn, EachParameter}

-- what the variable of a number asks, where variables are numbered in the order of the text from one on
abbrev pub sorts_from : ℕ → List Variable → ℕ → Sort
sorts_from first [] k = sort.Linear
sorts_from first (v ∷ rest) k = if first == k then v.sort else sorts_from (first + 1) rest k

-- a name that is declared has a good life over its block, by what the variable of its number asks
abbrev pub IsGoodOver : (ℕ → Sort) → {T C : Type 0} → ℕ → Scope → Bytes → Statements Bytes T C → Type 0
IsGoodOver sorts number scope x block = GoodLife x (sorts number) (plain_statements (λ (b : Bytes). b) block)

-- what the variables of a function ask, by number
abbrev pub sorts_of : {I T C : Type 0} → Function I T C → List (Labelled Bytes) → TypeScope → ℕ → Sort
sorts_of f parameters sc =
    sorts_from f.first (variables_of parameters (plain_statements (λ (b : Bytes). b) f.body) sc)

-- Where the variables of a function have good lives, in the order of the text, each name that it declares has
-- a good life, by its number.
abbrev pub LivesAreNumbered : {I T C : Type 0} → Function I T C → List (Labelled Bytes) → TypeScope → Type 0
LivesAreNumbered f parameters sc =
    map (λ (p : Labelled Bytes). p.name.name) parameters ≡ map (λ (p : Field). p.name) f.parameters
    → GoodLives (variables_of parameters (plain_statements (λ (b : Bytes). b) f.body) sc)
    → EachParameter f.view (λ scope e. Unit {0}) (IsGoodOver (sorts_of f parameters sc)) f.first []
    f.parameters f.body
    × EachIn f.view (λ scope e. Unit {0}) (IsGoodOver (sorts_of f parameters sc))
    (f.first + length f.parameters) (scope_of f) f.body
