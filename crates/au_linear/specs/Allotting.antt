-- What is to be done for each variable, and what is told then.
use Rattle.std.specs.Prelude.{◌≡◌, ℕ, List, [], ◌∷◌, Option, None, Some, Result, Ok, Err, length, drop}
use Rattle.au_lives.specs.declared.lives.Sort.{Sort}
use Rattle.au_lives.specs.declared.lives.Sort.TheVariants as sorts
use Rattle.au_lives.specs.Lives.{GoodLife}
use Rattle.au_lives.specs.Scopes.{Scope}
use Rattle.au_lives.specs.Refusals.{Refused, refusal, or_later}
use Rattle.au_clearing.specs.declared.dealings.Life.{Life}
use Rattle.au_clearing.specs.Dealings.{life_of}
use Rattle.au_linear.specs.declared.faults.LinearFault.{LinearFault}
use Rattle.au_linear.specs.declared.tasks.Task.{Task}
use Rattle.au_linear.specs.declared.tasks.Task.TheVariants as tasks
use Rattle.au_linear.specs.Telling.{asked, Tells}

-- a variable is cleared only where its life is good; else its scope is walked, by what its type asks for
abbrev pub Allots : Life → Sort → Task → Type 0
Allots life sort tasks.Cleared = (s : Scope) → life ≡ life_of s → GoodLife s.name.name sort s.block
Allots life sort (tasks.Judge asked) = asked ≡ sort

-- the tasks of variables in text order
abbrev pub Allotted : List Life → List Sort → List Task → Type 0
Allotted [] sorts ts = Unit {0}
Allotted (life ∷ rest) sorts [] = ⊥
Allotted (life ∷ rest) sorts (t ∷ ts) = Allots life (asked sorts) t × Allotted rest (drop 1 sorts) ts

-- the first of some tasks; where there is none, a scope is walked for a variable that is consumed once
abbrev pub asked_task : List Task → Task
asked_task [] = tasks.Judge sorts.Linear
asked_task (t ∷ ts) = t

-- what is told of a variable, or else of others
abbrev pub told_by : Scope → Task → Option Refused → Option Refused
told_by s tasks.Cleared later = later
told_by s (tasks.Judge sort) later =
    or_later (record { scope = s; sort = sort }) (refusal s.name.name sort s.block) later

-- what is told of variables by their tasks: the first that is refused
abbrev pub first_told : List Scope → List Task → Option Refused
first_told [] ts = None
first_told (s ∷ rest) ts = told_by s (asked_task ts) (first_told rest (drop 1 ts))

-- a variable isn't refused by its task, or a fault tells why it is
abbrev pub Decides : Result (Unit {0}) LinearFault → Scope → Task → Type 0
Decides (Ok done) s t = told_by s t None ≡ None
Decides (Err f) s t = Tells f (told_by s t None)

-- Some variables whose tasks stand first in a list of tasks: none of them is refused, and the tasks behind
-- are left; or a fault tells which is.
abbrev pub Sees : Result ℕ LinearFault → List Scope → List Task → ℕ → Type 0
Sees (Ok next) scopes ts from =
    (first_told scopes (drop from ts) ≡ None) × (drop next ts ≡ drop (length scopes) (drop from ts))
Sees (Err f) scopes ts from = Tells f (first_told scopes (drop from ts))
