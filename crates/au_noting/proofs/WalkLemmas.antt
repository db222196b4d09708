-- Walks over lists: what is left at an item, from the front and from the end on.
use Rattle.std.proofs.Common.{arith, ◌≡◌, ℕ, ◌+◌, ◌-◌, ◌<◌, length, drop, take, get_or, slice_get, List, []}
use Rattle.std.proofs.Common.{◌∷◌, ◌++◌, map, reverse, find, flat_map, Bool, Option, None, Some, option_map}
use Rattle.std.proofs.Common.{unwrap_or, if◌then◌else◌, refl, ap, subst, sym, ◌∙◌}
use Rattle.std.proofs.lemmas.List.{at_drop_more, drop_at, drop_more, get_or-map, length-drop, length-map}
use Rattle.std.proofs.lemmas.List.{length-reverse, map_more, reverse-append, take-append-drop}
use Rattle.std.proofs.lemmas.Option.{slice_get_within, get_or_from_slice_get}
use Rattle.au_judged_types.specs.Bounds.{Bounded, classes_of, parameters}
use Rattle.au_instances.specs.Instances.{Known}
use Rattle.au_instances.specs.Pairs.{named_with}
use Rattle.au_types.specs.declared.parameters.Parameter.{Parameter}

-- a function of what is left of a list, at an item that is read
pub walked : {A Y : Type 0} (F : List A → Y) (xs : List A) (i : ℕ) (x : A) → slice_get xs i ≡ Some x →
    F (drop i xs) ≡ F (x ∷ drop (i + 1) xs)
walked F xs i x is =
    ap F (drop_more xs i x (slice_get_within xs i x is)
    ∙ ap (λ y. y ∷ drop (i + 1) xs) (get_or_from_slice_get xs i x x is))

-- the constraints of some of the type parameters
abbrev pub constraints_from : List Bounded → List Bounded → Known
constraints_from all generics =
    flat_map (λ one. named_with one.parameter.name (unwrap_or (classes_of all one.parameter.name) [])) generics

-- the constraints of the type parameters from one on are its own and those of the others
pub constraints_at : (all generics : List Bounded) (i : ℕ) (p : Parameter) → slice_get (parameters generics) i
    ≡ Some p →
    constraints_from all (drop i generics) ≡ named_with p.name (unwrap_or (classes_of all p.name) [])
    ++ constraints_from all (drop (i + 1) generics)
constraints_at all generics i p is =
    let d : Bounded = record { parameter = p; classes = [] } in
    let lt : i < length generics = subst (λ n. i < n) (length-map generics (λ (g : Bounded). g.parameter))
    (slice_get_within (parameters generics) i p is) in
    at_drop_more (constraints_from all) generics i d lt
    ∙ ap (λ (q : Parameter). named_with q.name (unwrap_or (classes_of all q.name) [])
    ++ constraints_from all (drop (i + 1) generics))
    (sym (get_or-map (λ (g : Bounded). g.parameter) generics i d p lt)
    ∙ get_or_from_slice_get (parameters generics) i p p is)
