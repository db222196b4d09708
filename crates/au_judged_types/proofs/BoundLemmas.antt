-- Type parameters beside their classes.
use Rattle.std.proofs.Common.{◌≡◌, ℕ, suc, ◌+◌, ◌<◌, true, false, List, [], ◌∷◌, length, drop, get_or, map}
use Rattle.std.proofs.Common.{slice_get, Some, if◌then◌else◌, refl, ap, subst, sym, ◌∙◌}
use Rattle.std.specs.Str.{bytes_eq}
use Rattle.std.proofs.lemmas.Option.{slice_get_read}
use Rattle.au_base.proofs.ListLemmas.{drop_at}
use Rattle.au_syntax.specs.Plain.{Bytes}
use Rattle.au_types.specs.declared.parameters.Parameter.{Parameter}
use Rattle.au_types.specs.declared.types.DeclAt.{DeclAt}
use Rattle.au_judged_types.specs.Bounds.{bounded, parameters, classes_of}

pub parameters_of : (ps : List Parameter) (all : List (List DeclAt)) → length ps ≡ length all →
    parameters (bounded ps all) ≡ ps
parameters_of [] all same = refl
parameters_of (p ∷ rest) [] same = absurd cc
parameters_of (p ∷ rest) (classes ∷ all) same = ap (λ ps. p ∷ ps) (parameters_of rest all (cc))

pub length_of : (ps : List Parameter) (all : List (List DeclAt)) → length ps ≡ length all →
    length (bounded ps all) ≡ length ps
length_of [] all same = refl
length_of (p ∷ rest) [] same = absurd cc
length_of (p ∷ rest) (classes ∷ all) same = ap suc (length_of rest all (cc))

-- two lists made of one, item by item
pub of_each : {A : Type 0} (f : A → Parameter) (g : A → List DeclAt) (xs : List A) →
    bounded (map f xs) (map g xs) ≡ map (λ x. record { parameter = f x; classes = g x }) xs
of_each f g [] = refl
of_each f g (x ∷ xs) = ap (λ rest. record { parameter = f x; classes = g x } ∷ rest) (of_each f g xs)

-- the first of the type parameters that are left has the name, or the others decide
classes_step : (ps : List Parameter) (all : List (List DeclAt)) (name : Bytes) (i : ℕ) (p : Parameter)
    (classes : List DeclAt) →
    slice_get ps i ≡ Some p → slice_get all i ≡ Some classes →
    classes_of (bounded (drop i ps) (drop i all)) name
    ≡ (if bytes_eq p.name name then Some classes else classes_of
    (bounded (drop (i + 1) ps) (drop (i + 1) all)) name)
classes_step ps all name i p classes here there =
    ap (λ xs. classes_of (bounded xs (drop i all)) name) (drop_at ps i p here)
    ∙ ap (λ xs. classes_of (bounded (p ∷ drop (i + 1) ps) xs) name) (drop_at all i classes there)

module _ (ps : List Parameter) (all items : List (List DeclAt)) (name : Bytes) (i : ℕ) (p : Parameter)
    (classes : List DeclAt) where
  one_step : classes_of (bounded ps all) name ≡ classes_of (bounded (drop i ps) (drop i all)) name →
      slice_get ps i ≡ Some p → items ≡ all → i < length items → classes ≡ get_or items i classes
      → classes_of (bounded ps all) name
      ≡ (if bytes_eq p.name name then Some classes else classes_of
      (bounded (drop (i + 1) ps) (drop (i + 1) all)) name)
  one_step rest here same within is =
      rest ∙ classes_step ps all name i p classes here
      (subst (λ xs. slice_get xs i ≡ Some classes) same
      (slice_get_read items (length items) i classes refl within is))

  -- this type parameter has the name
  pub found_here : classes_of (bounded ps all) name ≡ classes_of (bounded (drop i ps) (drop i all)) name →
      slice_get ps i ≡ Some p → items ≡ all → i < length items → classes ≡ get_or items i classes
      → bytes_eq p.name name ≡ true → Some classes ≡ classes_of (bounded ps all) name
  found_here rest here same within is named =
      sym (one_step rest here same within is
      ∙ ap (λ b. if b then Some classes else classes_of (bounded (drop (i + 1) ps) (drop (i + 1) all)) name)
      named)

  -- it has another
  pub not_here : classes_of (bounded ps all) name ≡ classes_of (bounded (drop i ps) (drop i all)) name →
      slice_get ps i ≡ Some p → items ≡ all → i < length items → classes ≡ get_or items i classes
      → bytes_eq p.name name ≡ false → classes_of (bounded ps all) name
      ≡ classes_of (bounded (drop (i + 1) ps) (drop (i + 1) all)) name
  not_here rest here same within is other =
      one_step rest here same within is
      ∙ ap (λ b. if b then Some classes else classes_of (bounded (drop (i + 1) ps) (drop (i + 1) all)) name)
      other
