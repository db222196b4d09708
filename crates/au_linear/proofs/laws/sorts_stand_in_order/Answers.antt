use Rattle.std.proofs.Common.{◌≡◌, List, [], ◌∷◌, map, refl, ap}
use Rattle.au_lives.specs.declared.lives.Sort.{Sort}
use Rattle.au_lives.specs.Scopes.{Scope, scopes_of}
use Rattle.au_lives.specs.Refusals.{Variable}
use Rattle.au_linear.specs.Telling.{sorted}
use Rattle.au_linear.proofs.laws.sorts_stand_in_order.Goals as goal

abbrev variable : (Scope → Sort) → Scope → Variable
variable sort_of s = record { scope = s; sort = sort_of s }

in_order : (sort_of : Scope → Sort) (ss : List Scope) → sorted ss (map sort_of ss) ≡ map (variable sort_of) ss
in_order sort_of [] = refl
in_order sort_of (s ∷ ss) = ap (λ vs. variable sort_of s ∷ vs) (in_order sort_of ss)

pub returns : goal.returns
returns c sort_of parameters body = in_order sort_of (scopes_of parameters body)
