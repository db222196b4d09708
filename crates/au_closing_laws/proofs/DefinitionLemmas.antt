-- The body of a function that is declared is there: in the body of its module, or the function is shipped.
use Rattle.std.proofs.Common.{◌≡◌, ◌⊎◌, inl, inr, ℕ, zero, suc, ◌+◌, Bool, true, false, List, [], ◌∷◌, ◌++◌}
use Rattle.std.proofs.Common.{Option, None, Some, refl, sym, ap, ◌∙◌, subst, arith}
use Rattle.std.specs.Prelude.{Contains, slice_get}
use Rattle.std.specs.List.{position, position_or_len}
use Rattle.std.specs.Option.{option_and_then, option_map}
use Rattle.std.proofs.lemmas.List.Folds.{find_at}
use Rattle.std.proofs.lemmas.Option.{get_or_from_slice_get, none-some, same_Some, slice_get-map, slice_get_within}
use Rattle.au_base.specs.declared.places.Pos.{Pos}
use Rattle.au_base.proofs.OptionLemmas.{map_some}
use Rattle.au_syntax.specs.declared.modules.Part.{Part}
use Rattle.au_syntax.specs.declared.modules.Part.TheVariants.{Interface, Body}
use Rattle.au_syntax.specs.Modules.{Constrained, Header, constant, opaque_type, record_type, union_type}
use Rattle.au_syntax.specs.Modules.{function, class, instance, constant_body, function_body, instance_body}
use Rattle.au_syntax.specs.Plain.{Bytes, PlainDeclaration}
use Rattle.au_types.specs.declared.types.DeclAt.{DeclAt}
use Rattle.au_modules.specs.Programs.{Entry, ModuleParts}
use Rattle.au_names.specs.declared.targets.Target.{Target}
use Rattle.au_names.specs.Exporting.{declarations_seen}
use Rattle.au_names.specs.Owned.{declarations_in}
use Rattle.au_names.specs.Standing.{Standing, body_standing as bodies_standing, standing_at, standing_from, standing_in}
use Rattle.au_promises.specs.Agreeing.{Sight, sight_of}
use Rattle.au_promises.specs.Fulfilled.{AllFulfil, Each, OfSignature, SameGeneric}
use Rattle.au_promises.specs.Promises.{defines}
use Rattle.au_promises.proofs.DecidingLemmas.{keeps_decides}
use Rattle.au_promises.proofs.FulfilledLemmas.{kept_passes}
use Rattle.au_typing.specs.Trees.{NotedDeclaration, NotedEntry, NotedParts, erase_declaration, erase_entry}
use Rattle.au_typing.specs.Trees.{erase_parts, erase_program}
use Rattle.au_closing.specs.Bodies.{BodyOf, body_at, body_in, body_of, body_of_parts, body_standing}
use Rattle.au_closing.specs.Bodies.{declared_in, defining_in, defining_index, noted_at}
use Rattle.au_closing_laws.proofs.MeantLemmas.{placed}

-- ---- lists

append_at : {A : Type 0} (xs ys : List A) (n : ℕ) (x : A) → slice_get (xs ++ ys) n ≡ Some x →
    (slice_get xs n ≡ Some x) ⊎ ((k : ℕ) × (slice_get ys k ≡ Some x))
append_at [] ys n x e = inr (n, e)
append_at (y ∷ xs) ys zero x e = inl e
append_at (y ∷ xs) ys (suc n) x e = append_at xs ys n x e

pub listed_at : {A : Type 0} (xs : List A) (i : ℕ) (x : A) → slice_get xs i ≡ Some x → Contains xs x
listed_at xs i x e = (i, slice_get_within xs i x e, get_or_from_slice_get xs i x x e)

-- ---- where a declaration stands

module _ (place : ℕ) (part : Part) where
  -- what stands in a part of a module
  abbrev pub IsThere : List PlainDeclaration → Standing → Type 0
  IsThere ds d = (d.place ≡ place) × (d.part ≡ part) × (slice_get ds d.index ≡ Some d.says)

  standing_is : (first : ℕ) (ds : List PlainDeclaration) (k : ℕ) (d : Standing) →
      slice_get (standing_from place part first ds) k ≡ Some d
      → (d.place ≡ place) × (d.part ≡ part) × (d.index ≡ first + k) × (slice_get ds k ≡ Some d.says)
  unfolding standing_from
  standing_is first [] k d e = absurd (none-some d e)
  standing_is first (x ∷ ds) zero d e =
      let is = same_Some (record { place = place; part = part; index = first; says = x }) d e in (
        sym (ap (λ (s : Standing). s.place) is),
        sym (ap (λ (s : Standing). s.part) is),
        sym (ap (λ (s : Standing). s.index) is) ∙ at_zero first,
        ap (λ (s : Standing). Some s.says) is,
      )
    where
      at_zero : (n : ℕ) → n ≡ n + 0
      at_zero n = omega arith
  standing_is first (x ∷ ds) (suc k) d e =
      let its = standing_is (first + 1) ds k d e in
      (its.0, its.1, its.2 ∙ shifted first k, its.3)
    where
      shifted : (n k : ℕ) → (n + 1) + k ≡ n + suc k
      shifted n k = omega arith

  from_start : (ds : List PlainDeclaration) (k : ℕ) (d : Standing) → slice_get (standing_from place part 0 ds)
      k ≡ Some d → IsThere ds d
  from_start ds k d e =
      let its = standing_is 0 ds k d e in
      (its.0, its.1, ap (slice_get ds) (its.2 ∙ before_zero k) ∙ its.3)
    where
      before_zero : (n : ℕ) → 0 + n ≡ n
      before_zero n = omega arith

-- a declaration that is found stands in a part of its module
pub stands_in : (program : List ModuleParts) (at : DeclAt) (d : Standing) → standing_at program at ≡ Some d
    → (m : ModuleParts) × (slice_get program at.«module» ≡ Some m)
    × (IsThere at.«module» Interface (declarations_in m.interface) d
    ⊎ IsThere at.«module» Body (declarations_in m.body) d)
stands_in program at d e = by (slice_get program at.«module») refl e
  where
    either_part : (m : ModuleParts) →
        (slice_get (standing_from at.«module» Interface 0 (declarations_in m.interface)) at.decl ≡ Some d)
        ⊎ ((k : ℕ) × (slice_get (bodies_standing at.«module» m) k ≡ Some d))
        → IsThere at.«module» Interface (declarations_in m.interface) d
        ⊎ IsThere at.«module» Body (declarations_in m.body) d
    either_part m (inl here) = inl (from_start at.«module» Interface (declarations_in m.interface) at.decl d here)
    either_part m (inr there) = inr (from_start at.«module» Body (declarations_in m.body) there.0 d there.1)

    by : (o : Option ModuleParts) → slice_get program at.«module» ≡ o → standing_in at.«module» at.decl o ≡ Some d
        → (m : ModuleParts) × (slice_get program at.«module» ≡ Some m)
        × (IsThere at.«module» Interface (declarations_in m.interface) d
        ⊎ IsThere at.«module» Body (declarations_in m.body) d)
    by None is e = absurd (none-some d e)
    by (Some m) is e = (
      m,
      is,
      either_part m (append_at (standing_from at.«module» Interface 0 (declarations_in m.interface))
          (bodies_standing at.«module» m) at.decl d e),
    )

-- ---- what stands in a body has its notes

noted_in : (o : Option NotedEntry) (index : ℕ) (says : PlainDeclaration) →
    slice_get (declarations_in (option_map erase_entry o)) index ≡ Some says
    → (d : NotedDeclaration) × (slice_get (declared_in o) index ≡ Some d) × (erase_declaration d ≡ says)
noted_in None index says e = absurd (none-some says e)
noted_in (Some entry) index says e =
    map_some erase_declaration (slice_get entry.tree.declarations index) says
    (sym (slice_get-map erase_declaration entry.tree.declarations index) ∙ e)

pub noted_there : (program : List ModuleParts) (noted : List NotedParts) → erase_program noted ≡ program →
    (place index : ℕ) (m : ModuleParts) (says : PlainDeclaration) → slice_get program place ≡ Some m
    → slice_get (declarations_in m.body) index ≡ Some says → (d : NotedDeclaration)
    × (slice_get (body_at noted place) index ≡ Some d) × (erase_declaration d ≡ says)
noted_there program noted erased place index m says is e =
    let its = map_some erase_parts (slice_get noted place) m
    (sym (slice_get-map erase_parts noted place) ∙ ap (λ p. slice_get p place) erased ∙ is) in
    let found = noted_in its.0.body index says
    (ap (λ (x : ModuleParts). slice_get (declarations_in x.body) index) its.2 ∙ e) in
    (found.0, ap (λ o. slice_get (body_of_parts o) index) its.1 ∙ found.1, found.2)

-- the type parameters of a function's body, as they are written
abbrev pub generics_written : PlainDeclaration → List (Constrained Bytes)
generics_written (function_body at generics h body stop) = generics
generics_written other = []

abbrev pub function_written : PlainDeclaration → Bool
function_written (function_body at generics h body stop) = true
function_written other = false

-- a function's declaration with notes has a body
noted_body : (place : ℕ) (name : Bytes) (d : NotedDeclaration) → function_written (erase_declaration d) ≡ true
    → (body : BodyOf) × (body_in place name d ≡ Some body) × (body.place ≡ place)
    × (body.generics ≡ generics_written (erase_declaration d))
noted_body place name (function_body at generics h block stop) e =
    (record { place = place; generics = generics; header = h; block = block }, refl, refl, refl)
noted_body place name (instance_body at generics its_class t methods) e = cc
noted_body place name (constant at n t) e = cc
noted_body place name (opaque_type at n ps u) e = cc
noted_body place name (record_type at n ps u fields) e = cc
noted_body place name (union_type at n ps u cases) e = cc
noted_body place name (function at gs h) e = cc
noted_body place name (class at n p hs) e = cc
noted_body place name (instance at gs n t) e = cc
noted_body place name (constant_body at n t v) e = cc

module _ (program : List ModuleParts) (noted : List NotedParts) (erased : erase_program noted ≡ program)
    (target : Target) (d : Standing) (found : standing_at program target.at ≡ Some d) where
  -- a body with these type parameters is there for the declaration
  abbrev pub HasBody : List (Constrained Bytes) → Type 0
  HasBody generics = (body : BodyOf) × (body_of program noted target ≡ Some body) × (body.place ≡ d.place)
      × (body.generics ≡ generics)

  body_from : (index : ℕ) (m : ModuleParts) (says : PlainDeclaration) → slice_get program d.place ≡ Some m →
      slice_get (declarations_in m.body) index ≡ Some says
      → function_written says ≡ true → defining_index program d d.part ≡ Some index → HasBody (generics_written says)
  body_from index m says is e written defining =
      let its = noted_there program noted erased d.place index m says is e in
      let has = noted_body d.place target.name its.0 (ap function_written its.2 ∙ written) in (
        has.0,
        ap (body_standing program noted target.name) found
            ∙ ap (λ o. option_and_then (body_in d.place target.name) (noted_at noted d.place o)) defining
            ∙ ap (option_and_then (body_in d.place target.name)) its.1 ∙ has.1,
        has.2,
        has.3 ∙ ap generics_written its.2,
      )

  -- that of a function in a body
  pub body_here : (m : ModuleParts) → slice_get program d.place ≡ Some m → d.part ≡ Body →
      slice_get (declarations_in m.body) d.index ≡ Some d.says → function_written d.says ≡ true →
      HasBody (generics_written d.says)
  body_here m is part e written = body_from d.index m d.says is e written (ap (defining_index program d) part)

  -- that of a function that is promised, in a module that has a body
  pub body_promised : AllFulfil program → (m : ModuleParts) (interface body : Entry) →
      slice_get program d.place ≡ Some m → m.interface ≡ Some interface → m.body ≡ Some body →
      d.part ≡ Interface
      → Contains interface.tree.declarations d.says → (at : Pos) (generics : List (Constrained Bytes))
      (h : Header Bytes) → d.says ≡ function at generics h
      → (others : List (Constrained Bytes)) × HasBody others × Each (SameGeneric (sight_of program d.place m))
      generics others
  body_promised promises m interface body is of_interface of_body part listed at generics h says =
      let promise : PlainDeclaration = function at generics h in
      let kept = promises d.place m interface body is of_interface of_body promise h.name.name
      (subst (Contains interface.tree.declarations) says listed) refl in
      let passes = kept_passes (sight_of program d.place m) promise body.tree.declarations kept in
      let first = find_at (defines (sight_of program d.place m) promise) body.tree.declarations in
      let index = position_or_len (defines (sight_of program d.place m) promise) body.tree.declarations in
      let defined : defining_index program d d.part ≡ Some index =
      ap (defining_index program d) part
      ∙ ap (λ o. defining_in program d.place o d.says) is
      ∙ ap (defining_in program d.place (Some m)) says
      ∙ ap (λ o. position (defines (sight_of program d.place m) promise)
      (declarations_seen (option_map (λ (e : Entry). e.tree) o))) of_body
      ∙ placed (defines (sight_of program d.place m) promise) body.tree.declarations passes.0 passes.1 in
      let there : slice_get (declarations_in m.body) index ≡ Some passes.0 =
      ap (λ o. slice_get (declarations_in o) index) of_body ∙ sym first ∙ passes.1 in
      let agrees = signed (sight_of program d.place m) generics h passes.0
      ((keeps_decides (sight_of program d.place m) promise passes.0).0 passes.2) in
      (generics_written passes.0, body_from index m passes.0 is there agrees.0 defined, agrees.1)
    where
      signed : (sight : Sight) (generics : List (Constrained Bytes)) (h : Header Bytes) (e : PlainDeclaration)
          → OfSignature sight generics h e
          → (function_written e ≡ true) × Each (SameGeneric sight) generics (generics_written e)
      signed sight generics h (function_body at others its body stop) agrees = (refl, agrees.0)
      signed sight generics h (instance_body at gs n t methods) agrees = absurd agrees
      signed sight generics h (constant at n t) agrees = absurd agrees
      signed sight generics h (opaque_type at n ps u) agrees = absurd agrees
      signed sight generics h (record_type at n ps u fields) agrees = absurd agrees
      signed sight generics h (union_type at n ps u cases) agrees = absurd agrees
      signed sight generics h (function at gs k) agrees = absurd agrees
      signed sight generics h (class at n p hs) agrees = absurd agrees
      signed sight generics h (instance at gs n t) agrees = absurd agrees
      signed sight generics h (constant_body at n t v) agrees = absurd agrees
