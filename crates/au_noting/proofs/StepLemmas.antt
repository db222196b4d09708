-- One step of each walk over parameters.
use Rattle.std.proofs.Common.{◌≡◌, ℕ, ◌+◌, drop, slice_get, List, ◌∷◌, ◌++◌, Option, None, Some}
use Rattle.std.proofs.Common.{option_to_list, if◌then◌else◌, refl, ◌∙◌}
use Rattle.au_types.specs.declared.parameters.Parameter.{Parameter}
use Rattle.au_types.specs.Types.{Argument, Meaning, of_type, in_region}
use Rattle.au_matching.specs.Bindings.{Bindings, value_of}
use Rattle.au_typing.specs.Scopes.{Scope}
use Rattle.au_typing.specs.Calls.{first_misfit, first_unfixed, is_fixed, type_values, value_fits}
use Rattle.au_noting.specs.Nodes.{type_in}
use Rattle.au_noting.proofs.WalkLemmas.{walked}

pub unfixed_step : (s : Bindings) (ps : List Parameter) (i : ℕ) (p : Parameter) → slice_get ps i ≡ Some p →
    first_unfixed s (drop i ps) ≡ (if is_fixed s p then first_unfixed s (drop (i + 1) ps) else Some p.name)
unfixed_step s ps i p is = walked (first_unfixed s) ps i p is

pub misfit_step : (scope : Scope) (s : Bindings) (ps : List Parameter) (i : ℕ) (p : Parameter) →
    slice_get ps i ≡ Some p →
    first_misfit scope s (drop i ps)
    ≡ (if value_fits scope p.universe (value_of p.name s) then first_misfit scope s (drop (i + 1) ps) else
    Some p)
misfit_step scope s ps i p is = walked (first_misfit scope s) ps i p is

values_of_one : (s : Bindings) (p : Parameter) (rest : List Parameter) (v : Option Argument) → value_of p.name s ≡ v →
    type_values s (p ∷ rest) ≡ option_to_list (type_in v) ++ type_values s rest
values_of_one s p rest None e = rw e
values_of_one s p rest (Some (of_type t)) e = rw e
values_of_one s p rest (Some (in_region r)) e = rw e

pub values_step : (s : Bindings) (ps : List Parameter) (i : ℕ) (p : Parameter) → slice_get ps i ≡ Some p →
    type_values s (drop i ps) ≡ option_to_list (type_in (value_of p.name s)) ++ type_values s (drop (i + 1) ps)
values_step s ps i p is = walked (type_values s) ps i p is ∙ values_of_one s p (drop (i + 1) ps)
    (value_of p.name s) refl
