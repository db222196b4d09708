-- The function or method of the text that is run for a target.
use Rattle.std.proofs.Common.{◌≡◌, inl, inr, ℕ, zero, suc, ◌+◌, Bool, true, false, cond, List, [], ◌∷◌}
use Rattle.std.proofs.Common.{find, map, Option, None, Some, refl, sym, ap, ◌∙◌, subst, arith}
use Rattle.std.specs.Prelude.{Contains, slice_get}
use Rattle.std.specs.Option.{option_and_then, option_map}
use Rattle.std.proofs.lemmas.Option.{none-some, same_Some}
use Rattle.au_syntax.specs.Modules.{constant, opaque_type, record_type, union_type, function, class}
use Rattle.au_syntax.specs.Modules.{instance, constant_body, function_body, instance_body}
use Rattle.au_syntax.specs.Plain.{Bytes}
use Rattle.au_modules.specs.Programs.{ModuleParts}
use Rattle.au_names.specs.declared.targets.Target.{Target}
use Rattle.au_names.specs.Standing.{Standing, standing_at}
use Rattle.au_names.proofs.AmongLemmas.{Among, among-append_left, among-append_right, among-flat_map_from, contains}
use Rattle.au_typing.specs.Trees.{NotedDeclaration, NotedEntry, NotedMethod, NotedParts}
use Rattle.au_closing.specs.Bodies.{BodyOf, body_in, body_of, body_of_parts, body_standing, declared_in, defining}
use Rattle.au_closing.specs.Bodies.{defining_index, is_method, method_body, noted_at}
use Rattle.au_closing_laws.proofs.GatheredLemmas.{among_get}
use Rattle.au_caps_lists.specs.Bodies.{Bodied, Home, all_bodied, all_bodied_from, bodied_in, bodied_of_file, method_bodied}
use Rattle.au_caps_laws.specs.Births.{IsRunFor, run_as}

-- ---- lists

-- what is found is one of the items
found_among : {A : Type 0} (p : A → Bool) (xs : List A) (x : A) → find p xs ≡ Some x → Among x xs
found_among p [] x e = absurd (none-some x e)
found_among {A} p (y ∷ ys) x e = by (p y) e (found_among p ys x)
  where
    by : (b : Bool) → cond b (Some y) (find p ys) ≡ Some x → (find p ys ≡ Some x → Among x ys) → Among x (y ∷ ys)
    by true e later = inl (same_Some y x e)
    by false e later = inr (later e)

map_among : {A B : Type 0} (f : A → B) (xs : List A) (x : A) → Among x xs → Among (f x) (map f xs)
map_among f [] x m = absurd m
map_among f (y ∷ ys) x (inl here) = inl (ap f here)
map_among f (y ∷ ys) x (inr later) = inr (map_among f ys x later)

-- ---- a declaration

-- the body that a declaration has under a name is that of one of its functions or methods
bodied_there : (place : ℕ) (name : Bytes) (d : NotedDeclaration) (body : BodyOf) → body_in place name d ≡ Some body
    → (b : Bodied) × Among b (bodied_in place d) × (run_as b ≡ body)
bodied_there place name (function_body at generics h block stop) body e = (
  record { place = place; home = None; generics = generics; header = h; block = block },
  inl refl,
  same_Some (record { place = place; generics = generics; header = h; block = block }) body e,
)
bodied_there place name (instance_body at generics its_class t methods) body e =
    by (find (is_method name) methods) refl e
  where
    home : Home
    home = record { class = its_class.name; of = t }

    by : (o : Option NotedMethod) → find (is_method name) methods ≡ o
        → option_map (method_body place generics) o ≡ Some body
        → (b : Bodied) × Among b (map (method_bodied place home generics) methods) × (run_as b ≡ body)
    by None is e = absurd (none-some body e)
    by (Some m) is e = (
      method_bodied place home generics m,
      map_among (method_bodied place home generics) methods m (found_among (is_method name) methods m is),
      same_Some (method_body place generics m) body e,
    )
bodied_there place name (constant at n t) body e = absurd (none-some body e)
bodied_there place name (opaque_type at n ps u) body e = absurd (none-some body e)
bodied_there place name (record_type at n ps u fields) body e = absurd (none-some body e)
bodied_there place name (union_type at n ps u fields) body e = absurd (none-some body e)
bodied_there place name (function at gs h) body e = absurd (none-some body e)
bodied_there place name (class at n p hs) body e = absurd (none-some body e)
bodied_there place name (instance at gs n t) body e = absurd (none-some body e)
bodied_there place name (constant_body at n t v) body e = absurd (none-some body e)

-- ---- a program

module _ (b : Bodied) where
  in_file : (place : ℕ) (o : Option NotedEntry) (index : ℕ) (d : NotedDeclaration)
      → slice_get (declared_in o) index ≡ Some d → Among b (bodied_in place d) → Among b (bodied_of_file place o)
  in_file place None index d e m = absurd (none-some d e)
  in_file place (Some file) index d e m =
      among-flat_map_from (bodied_in place) file.tree.declarations d b (among_get file.tree.declarations index d e) m

  in_modules : (place k : ℕ) (ms : List NotedParts) (one : NotedParts) → slice_get ms k ≡ Some one
      → Among b (bodied_of_file (place + k) one.body) → Among b (all_bodied_from place ms)
  unfolding all_bodied_from
  in_modules place k [] one e m = absurd (none-some one e)
  in_modules place zero (x ∷ ms) one e m =
      among-append_left (bodied_of_file place x.body) (all_bodied_from (place + 1) ms) b
      (subst (λ (n : ℕ). Among b (bodied_of_file n x.body)) (at_zero place)
      (subst (λ (y : NotedParts). Among b (bodied_of_file (place + 0) y.body)) (sym (same_Some x one e)) m))
    where
      at_zero : (n : ℕ) → n + 0 ≡ n
      at_zero n = omega arith
  in_modules place (suc k) (x ∷ ms) one e m =
      among-append_right (bodied_of_file place x.body) (all_bodied_from (place + 1) ms) b
      (in_modules (place + 1) k ms one e
      (subst (λ (n : ℕ). Among b (bodied_of_file n one.body)) (shifted place k) m))
    where
      shifted : (n k : ℕ) → n + suc k ≡ (n + 1) + k
      shifted n k = omega arith

  in_program : (noted : List NotedParts) (place : ℕ) (o : Option ℕ) (d : NotedDeclaration)
      → noted_at noted place o ≡ Some d → Among b (bodied_in place d) → Contains (all_bodied noted) b
  in_program noted place None d e m = absurd (none-some d e)
  in_program noted place (Some index) d e m = by (slice_get noted place) refl e
    where
      by : (o : Option NotedParts) → slice_get noted place ≡ o → slice_get (body_of_parts o) index ≡ Some d
          → Contains (all_bodied noted) b
      by None is e = absurd (none-some d e)
      by (Some one) is e =
          contains (all_bodied noted) b
          (in_modules 0 place noted one is
          (subst (λ (n : ℕ). Among b (bodied_of_file n one.body)) (zero_before place)
          (in_file place one.body index d e m)))
        where
          zero_before : (n : ℕ) → n ≡ 0 + n
          zero_before n = omega arith

module _ (program : List ModuleParts) (noted : List NotedParts) where
  -- what is run for a target, and the declaration with notes that has it
  pub record IsRunAt (target : Target) (b : Bodied) : Type 0 where
    pub run : IsRunFor program noted target b
    pub declared : Standing
    pub found : standing_at program target.at ≡ Some declared
    pub noted_as : NotedDeclaration
    pub defines : defining program noted declared ≡ Some noted_as
    pub among : Among b (bodied_in declared.place noted_as)

  -- each body that is run for a target is that of a function or method of the text
  pub run_there : (target : Target) (body : BodyOf) → body_of program noted target ≡ Some body
      → (b : Bodied) × IsRunAt target b × (run_as b ≡ body)
  run_there target body there = by (standing_at program target.at) refl there
    where
      has : (d : Standing) → standing_at program target.at ≡ Some d → (o : Option NotedDeclaration)
          → defining program noted d ≡ o → option_and_then (body_in d.place target.name) o ≡ Some body
          → (b : Bodied) × IsRunAt target b × (run_as b ≡ body)
      has d found None is e = absurd (none-some body e)
      has d found (Some x) is e =
          let its = bodied_there d.place target.name x body e in (
            its.0,
            record {
              run = record {
                listed = in_program its.0 noted d.place (defining_index program d d.part) x is its.1;
                runs = there ∙ ap (λ (y : BodyOf). Some y) (sym its.2);
              };
              declared = d;
              found = found;
              noted_as = x;
              defines = is;
              among = its.1;
            },
            its.2,
          )

      by : (o : Option Standing) → standing_at program target.at ≡ o
          → body_standing program noted target.name o ≡ Some body
          → (b : Bodied) × IsRunAt target b × (run_as b ≡ body)
      by None is e = absurd (none-some body e)
      by (Some d) is e = has d is (defining program noted d) refl e
