-- Names are numbered body after body, and each body stands at its place.
use Rattle.std.proofs.Common.{◌≡◌, ◌⊎◌, inl, inr, ℕ, zero, suc, ◌+◌, ◌<◌, ◌≤◌, Bool, true, false, cond, List, []}
use Rattle.std.proofs.Common.{◌∷◌, ◌++◌}
use Rattle.std.proofs.Common.{length, map, take, Option, Some, None, refl, sym, ap, subst, ◌∙◌, arith}
use Rattle.std.proofs.Common.{length-append}
use Rattle.std.specs.Prelude.{find, slice_get, if◌then◌else◌}
use Rattle.std.specs.List.{flat_map}
use Rattle.std.specs.Option.{option_and_then, option_map}
use Rattle.au_base.proofs.ListLemmas.{get_right, get_front}
use Rattle.au_syntax.specs.Modules.{Constrained, constant, opaque_type, record_type, union_type, function}
use Rattle.au_syntax.specs.Modules.{class, instance, constant_body, function_body, instance_body}
use Rattle.au_syntax.specs.Plain.{Bytes}
use Rattle.au_modules.specs.Programs.{ModuleParts}
use Rattle.au_names.specs.Standing.{Standing, standing_at}
use Rattle.au_typing.specs.Trees.{NotedDeclaration, NotedMethod, NotedParts}
use Rattle.au_closing.specs.Bodies.{BodyOf, body_at, body_in, body_of, body_of_parts, body_standing}
use Rattle.au_closing.specs.Bodies.{defining_index, is_method, method_body, noted_at}
use Rattle.au_closed_meanings.specs.Numbers.{BodiesStand, NumbersAreApart, FirstNamesAreApart, IsNameOf, bodies_in}
use Rattle.au_closed_meanings.specs.Numbers.{bodies_from, bodies_of, bodies_written, body_place, method_place}
use Rattle.au_closed_meanings.specs.Numbers.{names_before, names_of, place_behind, place_inside, place_standing}

-- ---- lists

-- what stands in one of several lists stands in all of them, behind those before
flat_there : {X Y : Type 0} (f : X → List Y) (xs : List X) (i m : ℕ) (x : X) (y : Y) → slice_get xs i ≡ Some x
    → slice_get (f x) m ≡ Some y
    → slice_get (flat_map f xs) (length (flat_map f (take i xs)) + m) ≡ Some y
flat_there f [] i m x y e h = absurd cc
flat_there f (x0 ∷ xs) zero m x y e h =
    let here : x0 ≡ x = cc in
    ap (slice_get (f x0 ++ flat_map f xs)) (let same : 0 + m ≡ m = omega arith in same)
    ∙ get_front (f x0) (flat_map f xs) m y (ap (λ z. slice_get (f z) m) here ∙ h)
flat_there f (x0 ∷ xs) (suc i) m x y e h =
    let before = flat_map f (take i xs) in
    ap (slice_get (f x0 ++ flat_map f xs))
    (let same : length (f x0 ++ before) + m ≡ length (f x0) + (length before + m) =
    omega (arith, length-append (f x0) before) in same)
    ∙ get_right (f x0) (flat_map f xs) (length before + m)
    ∙ flat_there f xs i m x y e h

-- ---- methods and declarations

method_there : (place : ℕ) (generics : List (Constrained Bytes)) (name : Bytes) (methods : List NotedMethod)
    (body : BodyOf) → option_map (method_body place generics) (find (is_method name) methods) ≡ Some body
    → slice_get (map (method_body place generics) methods) (method_place name methods) ≡ Some body
method_there place generics name [] body e = absurd cc
method_there place generics name (m ∷ rest) body e =
    by (is_method name m) e (method_there place generics name rest body)
  where
    by : (b : Bool)
        → option_map (method_body place generics) (cond b (Some m) (find (is_method name) rest)) ≡ Some body
        → (option_map (method_body place generics) (find (is_method name) rest) ≡ Some body
        → slice_get (map (method_body place generics) rest) (method_place name rest) ≡ Some body)
        → slice_get (method_body place generics m ∷ map (method_body place generics) rest)
        (if b then zero else suc (method_place name rest)) ≡ Some body
    by true e later = e
    by false e later = later e

declaration_there : (place : ℕ) (name : Bytes) (d : NotedDeclaration) (body : BodyOf)
    → body_in place name d ≡ Some body
    → slice_get (bodies_in place d) (place_inside name (Some d)) ≡ Some body
declaration_there place name (constant at n t) body e = absurd cc
declaration_there place name (opaque_type at n ps u) body e = absurd cc
declaration_there place name (record_type at n ps u fields) body e = absurd cc
declaration_there place name (union_type at n ps u cases) body e = absurd cc
declaration_there place name (function at gs h) body e = absurd cc
declaration_there place name (class at n p hs) body e = absurd cc
declaration_there place name (instance at gs n t) body e = absurd cc
declaration_there place name (constant_body at n t value) body e = absurd cc
declaration_there place name (function_body at gs h block stop) body e = e
declaration_there place name (instance_body at gs n t methods) body e =
    method_there place gs name methods body e

-- ---- modules

-- what stands in one of several modules stands in all of them, behind those before
from_there : (from : ℕ) (noted : List NotedParts) (i m : ℕ) (parts : NotedParts) (body : BodyOf)
    → slice_get noted i ≡ Some parts → slice_get (bodies_of (from + i) (Some parts)) m ≡ Some body
    → slice_get (bodies_from from noted) (length (bodies_from from (take i noted)) + m) ≡ Some body
from_there from [] i m parts body e h = absurd cc
from_there from (first ∷ rest) zero m parts body e h =
    let here : first ≡ parts = cc in
    let same : from ≡ from + 0 = omega arith in
    ap (slice_get (bodies_from from (first ∷ rest))) (let none : 0 + m ≡ m = omega arith in none)
    ∙ get_front (bodies_of from (Some first)) (bodies_from (from + 1) rest) m body
    (ap (λ z. slice_get (bodies_of from (Some z)) m) here
    ∙ ap (λ n. slice_get (bodies_of n (Some parts)) m) same ∙ h)
from_there from (first ∷ rest) (suc i) m parts body e h =
    let own = bodies_of from (Some first) in
    let before = bodies_from (from + 1) (take i rest) in
    let same : from + 1 + i ≡ from + suc i = omega arith in
    ap (slice_get (own ++ bodies_from (from + 1) rest))
    (let behind : length (own ++ before) + m ≡ length own + (length before + m) =
    omega (arith, length-append own before) in behind)
    ∙ get_right own (bodies_from (from + 1) rest) (length before + m)
    ∙ from_there (from + 1) rest i m parts body e (ap (λ n. slice_get (bodies_of n (Some parts)) m) same ∙ h)

module _ (program : List ModuleParts) (noted : List NotedParts) (name : Bytes) (body : BodyOf) where
  -- the module at a place has a body where there is a declaration in it
  module_there : (place : ℕ) (o : Option NotedParts) → slice_get noted place ≡ o → (m : ℕ)
      → slice_get (bodies_of place o) m ≡ Some body
      → slice_get (bodies_written noted) (length (bodies_from 0 (take place noted)) + m) ≡ Some body
  module_there place None there m e = absurd cc
  module_there place (Some parts) there m e =
      let same : 0 + place ≡ place = omega arith in
      from_there 0 noted place m parts body there
      (ap (λ n. slice_get (bodies_of n (Some parts)) m) same ∙ e)

  index_there : (place : ℕ) (index : Option ℕ)
      → option_and_then (body_in place name) (noted_at noted place index) ≡ Some body
      → slice_get (bodies_written noted) (place_behind program noted place name index) ≡ Some body
  index_there place None e = absurd cc
  index_there place (Some index) e = by (slice_get (body_at noted place) index) refl e
    where
      by : (o : Option NotedDeclaration) → slice_get (body_at noted place) index ≡ o
          → option_and_then (body_in place name) o ≡ Some body
          → slice_get (bodies_written noted)
          (length (bodies_from 0 (take place noted))
          + (length (flat_map (bodies_in place) (take index (body_at noted place))) + place_inside name o))
          ≡ Some body
      by None there e = absurd cc
      by (Some d) there e =
          module_there place (slice_get noted place) refl _
          (flat_there (bodies_in place) (body_at noted place) index (place_inside name (Some d)) d body there
          (declaration_there place name d body e))

  standing_there : (o : Option Standing) → body_standing program noted name o ≡ Some body
      → slice_get (bodies_written noted) (place_standing program noted name o) ≡ Some body
  standing_there None e = absurd cc
  standing_there (Some d) e = index_there d.place (defining_index program d d.part) e

-- at its place stands the body of a function or a method
pub bodies_stand : BodiesStand
bodies_stand program noted target body e =
    standing_there program noted target.name body (standing_at program target.at) e

-- ---- numbers

pub numbers_apart : NumbersAreApart
numbers_apart [] place other b less e = absurd cc
numbers_apart (x ∷ xs) place zero b less e = absurd (omega arith)
numbers_apart (x ∷ xs) zero (suc other) b less e =
    let here : x ≡ b = cc in
    let same : names_of x ≡ names_of b = ap names_of here in
    omega (arith, same)
numbers_apart (x ∷ xs) (suc place) (suc other) b less e =
    let later : names_before xs place + names_of b ≤ names_before xs other =
    numbers_apart xs place other b (omega arith) e in
    omega (arith, later)

-- two places are one, or one of them stands before the other
compared : (place other : ℕ) → (place < other) ⊎ ((place ≡ other) ⊎ (other < place))
compared zero zero = inr (inl refl)
compared zero (suc other) = inl (omega arith)
compared (suc place) zero = inr (inr (omega arith))
compared (suc place) (suc other) = by (compared place other)
  where
    by : (place < other) ⊎ ((place ≡ other) ⊎ (other < place))
        → (suc place < suc other) ⊎ ((suc place ≡ suc other) ⊎ (suc other < suc place))
    by (inl less) = inl (omega (arith, less))
    by (inr (inl same)) = inr (inl (ap (λ n. suc n) same))
    by (inr (inr more)) = inr (inr (omega (arith, more)))

-- of two bodies in their places, that share the number of a name
shared : (bodies : List BodyOf) (place other n : ℕ) (body another : BodyOf)
    → slice_get bodies place ≡ Some body → slice_get bodies other ≡ Some another
    → IsNameOf body (names_before bodies place) n → IsNameOf another (names_before bodies other) n
    → (place < other) ⊎ ((place ≡ other) ⊎ (other < place))
    → (body ≡ another) × (names_before bodies place ≡ names_before bodies other)
shared bodies place other n body another one two h k (inl less) =
    let apart = numbers_apart bodies place other body less one in
    absurd (omega (arith, apart, h.1, k.0))
shared bodies place other n body another one two h k (inr (inl same)) =
    let there : Some body ≡ Some another = sym one ∙ ap (slice_get bodies) same ∙ two in
    let is : body ≡ another = cc in
    (is, ap (names_before bodies) same)
shared bodies place other n body another one two h k (inr (inr more)) =
    let apart = numbers_apart bodies other place another more two in
    absurd (omega (arith, apart, k.1, h.0))

pub first_names_apart : FirstNamesAreApart
first_names_apart program noted one other n body another is too h k =
    let place = body_place program noted one.of in
    let behind = body_place program noted other.of in
    shared (bodies_written noted) place behind n body another (bodies_stand program noted one.of body is)
    (bodies_stand program noted other.of another too) h k (compared place behind)
