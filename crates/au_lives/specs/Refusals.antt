-- What is told of a variable that has no good life, and of the first such variable of a body.
use Rattle.std.specs.Prelude.{◌≡◌, List, ℕ, [], ◌∷◌, ◌++◌, map, Option, None, Some, Ok, Err}
use Rattle.au_base.specs.declared.places.Pos.{Pos}
use Rattle.au_syntax.specs.Types.{Labelled}
use Rattle.au_syntax.specs.Plain.{Bytes, PlainStatements}
use Rattle.au_lives.specs.declared.lives.LifeKind.{LifeKind}
use Rattle.au_lives.specs.declared.lives.Sort.{Sort}
use Rattle.au_lives.specs.Lives.{GoodLife, BadPath}
use Rattle.au_lives.specs.Places.{loop_places, part_places}
use Rattle.au_lives.specs.Scopes.{Scope, scopes_of}
use Rattle.au_lives.specs.Trimming.{without_zeros}
use Rattle.au_lives.specs.Walks.{Walk, checked}

-- a consumption in a loop, at its place; one where an expression may leave out to look; or how a path breaks
-- the life, and that path
pub data Refusal : Type 0 where
  in_loop : Pos → Refusal
  in_part : Pos → Refusal
  on_path : LifeKind → List ℕ → Refusal

-- A refusal is right: its place is the first of its kind, it comes in this order, and its path breaks the
-- life.
abbrev pub Refuses : Bytes → Sort → PlainStatements → Refusal → Type 0
Refuses x sort b (in_loop at) = (rest : List Pos) × (loop_places x sort b ≡ at ∷ rest)
Refuses x sort b (in_part at) = (loop_places x sort b ≡ [])
    × ((rest : List Pos) × (part_places x sort b ≡ at ∷ rest))
Refuses x sort b (on_path kind path) =
    (loop_places x sort b ≡ []) × ((part_places x sort b ≡ []) × BadPath x sort b kind path)

-- a variable with its scope, and what its type asks of it
pub record Variable : Type 0 where
  pub scope : Scope
  pub sort : Sort

-- the variables of a function in text order, by what the type of each asks of it
abbrev pub variables : (Scope → Sort) → List (Labelled Bytes) → PlainStatements → List Variable
variables sort_of parameters body =
    map (λ scope. record { scope = scope; sort = sort_of scope }) (scopes_of parameters body)

-- the first of some places, if there is one
abbrev pub at_first : List Pos → (Pos → Refusal) → Option Refusal → Option Refusal
at_first [] told other = other
at_first (at ∷ rest) told other = Some (told at)

abbrev pub by_walk : Walk → Option Refusal
by_walk (Ok o) = None
by_walk (Err e) = Some (on_path e.kind (without_zeros e.path))

-- what a checker tells of one variable
abbrev pub refusal : Bytes → Sort → PlainStatements → Option Refusal
refusal x sort b =
    at_first (loop_places x sort b) in_loop
    (at_first (part_places x sort b) in_part (by_walk (checked x sort b)))

abbrev pub HasGoodLife : Variable → Type 0
HasGoodLife v = GoodLife v.scope.name.name v.sort v.scope.block

-- each of some variables has a good life
abbrev pub GoodLives : List Variable → Type 0
GoodLives [] = Unit {0}
GoodLives (v ∷ vs) = HasGoodLife v × GoodLives vs

-- a variable, and why it is refused
pub record Refused : Type 0 where
  pub variable : Variable
  pub why : Refusal

abbrev pub or_later : Variable → Option Refusal → Option Refused → Option Refused
or_later v (Some why) later = Some (record { variable = v; why = why })
or_later v None later = later

-- what a checker tells of some variables, one after another: the first that it refuses
abbrev pub first_refused : List Variable → Option Refused
first_refused [] = None
first_refused (v ∷ vs) = or_later v (refusal v.scope.name.name v.sort v.scope.block) (first_refused vs)

-- the first of some variables that has no good life
pub record IsFirstRefused (vs : List Variable) (r : Refused) : Type 0 where
  pub before : List Variable
  pub after : List Variable
  pub splits : vs ≡ before ++ (r.variable ∷ after)
  pub good : GoodLives before
  pub why : Refuses r.variable.scope.name.name r.variable.sort r.variable.scope.block r.why
