-- What is told of the variables of a body.
use Rattle.std.specs.Prelude.{◌≡◌, List, [], ◌∷◌, Option, Some, Result, Ok, Err, drop}
use Rattle.au_lives.specs.declared.lives.Sort.{Sort}
use Rattle.au_lives.specs.declared.lives.Sort.TheVariants as sorts
use Rattle.au_lives.specs.Scopes.{Scope}
use Rattle.au_lives.specs.Refusals.{Refusal, in_loop, in_part, on_path, Variable, Refused, first_refused}
use Rattle.au_lives.specs.Refusals.{GoodLives}
use Rattle.au_linear.specs.declared.faults.Why.{Why}
use Rattle.au_linear.specs.declared.faults.Why.TheVariants as whys
use Rattle.au_linear.specs.declared.faults.LinearFault.{LinearFault}
use Rattle.au_linear.specs.declared.faults.LinearFault.TheVariants as faults

-- the first sort of some, that of variables that are consumed once where there is none
abbrev pub asked : List Sort → Sort
asked [] = sorts.Linear
asked (sort ∷ rest) = sort

-- variables in text order, with what the type of each asks, in the same order
abbrev pub sorted : List Scope → List Sort → List Variable
sorted [] sorts = []
sorted (s ∷ rest) sorts = record { scope = s; sort = asked sorts } ∷ sorted rest (drop 1 sorts)

abbrev pub refusal_of : Why → Refusal
refusal_of (whys.InLoop at) = in_loop at
refusal_of (whys.InPart at) = in_part at
refusal_of (whys.OnPath kind path) = on_path kind path.items

-- a fault tells which variable is refused, and why; where memory ran out nothing is told
abbrev pub Tells : LinearFault → Option Refused → Type 0
Tells (faults.Refused f) r =
    (refused : Refused) × ((r ≡ Some refused)
    × ((refused.variable.scope.name.name ≡ f.variable)
    × ((refused.variable.scope.name.at ≡ f.at) × (refused.why ≡ refusal_of f.why))))
Tells faults.Memory r = Unit {0}

-- Each of some variables has a good life; or a fault tells which is the first that has none, and why.
abbrev pub Judges : Result (Unit {0}) LinearFault → List Variable → Type 0
Judges (Ok done) variables = GoodLives variables
Judges (Err f) variables = Tells f (first_refused variables)
