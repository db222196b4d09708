-- The type parameters of each body of a program mean something where all declarations are good.
use Rattle.std.proofs.Common.{◌≡◌, ℕ, zero, suc, ◌+◌, false, List, [], ◌∷◌, find, flat_map, length, Option}
use Rattle.std.proofs.Common.{None, Some, refl, sym, ap, ◌∙◌, subst, arith}
use Rattle.std.specs.Prelude.{◌≢◌, Contains, if◌then◌else◌, is_some, slice_get}
use Rattle.std.specs.Option.{option_and_then, option_map, option_or}
use Rattle.std.proofs.lemmas.List.Elements.{Contains-append_left, Contains-append_right}
use Rattle.std.proofs.lemmas.Option.{none-some, same_Some, slice_get-map}
use Rattle.au_base.proofs.ListLemmas.{Contains-first, Contains-rest}
use Rattle.au_syntax.specs.declared.declarations.Universe.{Universe}
use Rattle.au_syntax.specs.declared.declarations.Universe.TheVariants as universes
use Rattle.au_syntax.specs.declared.modules.Part.{Part}
use Rattle.au_syntax.specs.declared.modules.Part.TheVariants.{Interface, Body}
use Rattle.au_syntax.specs.Modules.{Constrained, InUniverse, constant, opaque_type, record_type, union_type}
use Rattle.au_syntax.specs.Modules.{function, class, instance, constant_body, function_body, instance_body}
use Rattle.au_syntax.specs.Names.{Placed}
use Rattle.au_syntax.specs.Plain.{Bytes, PlainDeclaration}
use Rattle.au_types.specs.declared.spaces.Space.TheVariants.{Types}
use Rattle.au_types.specs.declared.headings.Head.{Head}
use Rattle.au_types.specs.declared.parameters.Parameter.{Parameter}
use Rattle.au_types.specs.declared.types.DeclAt.{DeclAt}
use Rattle.au_modules.specs.Programs.{ModuleParts}
use Rattle.au_names.specs.declared.targets.Target.{Target}
use Rattle.au_names.specs.HeadsOf.{heads_of}
use Rattle.au_names.specs.Meanings.{declared_by}
use Rattle.au_names.specs.Owned.{declarations_in}
use Rattle.au_names.specs.Standing.{Standing, standing_at}
use Rattle.au_promises.specs.Mentions.{type_parameters}
use Rattle.au_judged_types.specs.declared.reading.Misfit.TheVariants.{NoClass, OfRegion}
use Rattle.au_judged_types.specs.Meanings.{class_in, class_meant, first_misfit, is_constrained_region, judged}
use Rattle.au_judged_types.specs.Meanings.{no_class, written_params}
use Rattle.au_formed.specs.Good.{IsGoodWriting, IsWellMade}
use Rattle.au_formed.specs.Text.{Spot, module_spots, spots_from, text_from, visible_in}
use Rattle.au_formed.specs.Writings.{Writing, a_class, a_universe, bound_writings, class_writings}
use Rattle.au_formed.specs.Writings.{generic_writings, header_writings, instance_writings, writings}
use Rattle.au_rules.specs.Good.{AllDeclarationsAreGood}
use Rattle.au_typing.specs.Written.{seen_in, types_at}
use Rattle.au_typing.specs.Bodies.{generics_in}
use Rattle.au_typing.specs.Trees.{NotedDeclaration, NotedEntry, NotedMethod, NotedParts, erase_declaration}
use Rattle.au_typing.specs.Trees.{erase_parts, erase_program}
use Rattle.au_accepted.specs.Faults.{IsDerived}
use Rattle.au_closing.specs.Bodies.{BodyOf, body_at, body_in, body_of, body_of_parts, body_standing}
use Rattle.au_closing.specs.Bodies.{declared_in, defining_index, is_method, method_body, noted_at}
use Rattle.au_closing_laws.specs.Targets.{bounds_in, bounds_of}
use Rattle.au_closing_laws.specs.Calls.{outside_at}

-- ---- type parameters whose writings are good

module _ (visible : List (Bytes × DeclAt)) (heads : List (DeclAt × Head)) (params : List Parameter) where
  abbrev class_of : Bytes → Option DeclAt
  class_of = class_meant params visible heads

  abbrev AreGood : List Writing → Type 0
  AreGood ws = (w : Writing) → Contains ws w → IsGoodWriting visible heads params w

  names_meant : (names : List (Placed Bytes)) → AreGood (class_writings names) → no_class class_of names ≡ None
  names_meant [] good = refl
  names_meant (one ∷ rest) good =
      let here = good (a_class one) (Contains-first (a_class one) (class_writings rest)) in
      let means : class_of one.name ≡ Some here.0 = ap class_in here.1 in
      ap (λ o. option_or (if is_some o then None else Some (NoClass one.at)) (no_class class_of rest)) means
      ∙ names_meant rest (λ w c. good w (Contains-rest (a_class one) (class_writings rest) w c))

  unconstrained : (universe : Universe) → is_constrained_region universe [] ≡ false
  unconstrained universes.Free = refl
  unconstrained universes.Linear = refl
  unconstrained universes.AnyType = refl
  unconstrained universes.Region = refl

  no_region : (universe : Universe) (one : Placed Bytes) (rest : List (Placed Bytes)) →
      universe ≢ universes.Region → is_constrained_region universe (one ∷ rest) ≡ false
  no_region universes.Free one rest other = refl
  no_region universes.Linear one rest other = refl
  no_region universes.AnyType one rest other = refl
  no_region universes.Region one rest other = absurd (other refl)

  bound_meant : (p : InUniverse Bytes) (names : List (Placed Bytes)) → AreGood (bound_writings p names)
      → (if is_constrained_region p.universe names then Some (OfRegion p.name.at) else no_class class_of names) ≡ None
  bound_meant p [] good = ap (λ b. if b then Some (OfRegion p.name.at) else None) (unconstrained p.universe)
  bound_meant p (one ∷ rest) good =
      let first = good (a_universe p.name.at p.universe)
      (Contains-first (a_universe p.name.at p.universe) (class_writings (one ∷ rest))) in
      ap (λ b. if b then Some (OfRegion p.name.at) else no_class class_of (one ∷ rest))
      (no_region p.universe one rest first)
      ∙ names_meant (one ∷ rest) (λ w c. good w
      (Contains-rest (a_universe p.name.at p.universe) (class_writings (one ∷ rest)) w c))

  all_meant : (written : List (Constrained Bytes)) → AreGood (flat_map generic_writings written) →
      first_misfit class_of written ≡ None
  all_meant [] good = refl
  all_meant (p ∷ rest) good =
      ap (λ o. option_or o (first_misfit class_of rest))
      (bound_meant p.parameter p.classes
      (λ w c. good w (Contains-append_left (generic_writings p) (flat_map generic_writings rest) w c)))
      ∙ all_meant rest (λ w c. good w (Contains-append_right (generic_writings p) (flat_map generic_writings rest) w c))

-- ---- the text of a program

pub spot_there : (place : ℕ) (part : Part) (number : ℕ) (ds : List PlainDeclaration) (index : ℕ)
    (d : PlainDeclaration) → slice_get ds index ≡ Some d
    → (n : ℕ) × Contains (spots_from place part number ds)
    (record { at = record { «module» = place; decl = n }; part = part; says = d })
unfolding spots_from
spot_there place part number [] index d e = absurd (none-some d e)
spot_there place part number (first ∷ rest) zero d e = (
  number,
  subst (λ x. Contains (spots_from place part number (first ∷ rest))
      (record { at = record { «module» = place; decl = number }; part = part; says = x })) (same_Some first d e)
      (Contains-first (record { at = record { «module» = place; decl = number }; part = part; says = first })
      (spots_from place part (number + 1) rest)),
)
spot_there place part number (first ∷ rest) (suc index) d e =
    let later = spot_there place part (number + 1) rest index d e in (
      later.0,
      Contains-rest (record { at = record { «module» = place; decl = number }; part = part; says = first })
          (spots_from place part (number + 1) rest)
          (record { at = record { «module» = place; decl = later.0 }; part = part; says = d }) later.1,
    )

pub text_there : (place k : ℕ) (ms : List ModuleParts) (m : ModuleParts) (s : Spot) → slice_get ms k ≡ Some m →
    Contains (module_spots (place + k) m) s → Contains (text_from place ms) s
unfolding text_from
text_there place k [] m s e c = absurd (none-some m e)
text_there place zero (first ∷ rest) m s e c =
    Contains-append_left (module_spots place first) (text_from (place + 1) rest) s
    (subst (λ n. Contains (module_spots n first) s) (omega arith)
    (subst (λ x. Contains (module_spots (place + 0) x) s) (sym (same_Some first m e)) c))
text_there place (suc k) (first ∷ rest) m s e c =
    Contains-append_right (module_spots place first) (text_from (place + 1) rest) s
    (text_there (place + 1) k rest m s e (subst (λ n. Contains (module_spots n m) s) (omega arith) c))

pub visible_same : (program : List ModuleParts) (place : ℕ) (part : Part) (o : Option ModuleParts) →
    visible_in program place part o ≡ declared_by (seen_in Types program place part o)
visible_same program place part None = refl
visible_same program place part (Some m) = refl

-- a declaration of the body of a module is well made
pub made_there : (program : List ModuleParts) → AllDeclarationsAreGood program →
    (place : ℕ) (m : ModuleParts) (index : ℕ) (d : PlainDeclaration) → slice_get program place ≡ Some m
    → slice_get (declarations_in m.body) index ≡ Some d → IsWellMade (types_at program place Body) (heads_of program) d
made_there program good place m index d is e =
    let spot = spot_there place Body (length (declarations_in m.interface)) (declarations_in m.body) index d e in
    let at : Spot = record { at = record { «module» = place; decl = spot.0 }; part = Body; says = d } in
    let inside : Contains (module_spots (0 + place) m) at =
    subst (λ n. Contains (module_spots n m) at) (before_zero place)
    (Contains-append_right (spots_from place Interface 0 (declarations_in m.interface))
    (spots_from place Body (length (declarations_in m.interface)) (declarations_in m.body)) at spot.1) in
    subst (λ names. IsWellMade names (heads_of program) d) (visible_same program place Body (slice_get program place))
    (good.each at (text_there 0 place program m at is inside)).made
  where
    before_zero : (n : ℕ) → n ≡ 0 + n
    before_zero n = omega arith

-- so is one of its interface
pub made_promised : (program : List ModuleParts) → AllDeclarationsAreGood program →
    (place : ℕ) (m : ModuleParts) (index : ℕ) (d : PlainDeclaration) → slice_get program place ≡ Some m
    → slice_get (declarations_in m.interface) index ≡ Some d → IsWellMade (types_at program place Interface)
    (heads_of program) d
made_promised program good place m index d is e =
    let spot = spot_there place Interface 0 (declarations_in m.interface) index d e in
    let at : Spot = record { at = record { «module» = place; decl = spot.0 }; part = Interface; says = d } in
    let inside : Contains (module_spots (0 + place) m) at =
    subst (λ n. Contains (module_spots n m) at) (before_zero place)
    (Contains-append_left (spots_from place Interface 0 (declarations_in m.interface))
    (spots_from place Body (length (declarations_in m.interface)) (declarations_in m.body)) at spot.1) in
    subst (λ names. IsWellMade names (heads_of program) d)
    (visible_same program place Interface (slice_get program place))
    (good.each at (text_there 0 place program m at is inside)).made
  where
    before_zero : (n : ℕ) → n ≡ 0 + n
    before_zero n = omega arith

-- ---- bodies

-- what a declaration says that a body is of: it has the body's type parameters, and what is written in these
abbrev pub IsOf : ℕ → BodyOf → PlainDeclaration → Type 0
IsOf place body d =
    (body.place ≡ place) × ((w : Writing) → Contains (flat_map generic_writings body.generics) w →
    Contains (writings d) w)
    × (type_parameters d ≡ written_params body.generics)

pub of_declared : (place : ℕ) (name : Bytes) (d : NotedDeclaration) (body : BodyOf) → body_in place name d
    ≡ Some body → IsOf place body (erase_declaration d)
of_declared place name (function_body at generics h block stop) body e =
    subst (λ b. IsOf place b (erase_declaration (function_body at generics h block stop)))
    (same_Some (record { place = place; generics = generics; header = h; block = block }) body e)
    (refl, (λ w c. Contains-append_left (flat_map generic_writings generics) (header_writings h) w c), refl)
of_declared place name (instance_body at generics its_class t methods) body e =
    by (find (is_method name) methods) e
  where
    by : (o : Option NotedMethod) → option_map (method_body place generics) o ≡ Some body →
        IsOf place body (erase_declaration (instance_body at generics its_class t methods))
    by None e = absurd (none-some body e)
    by (Some m) e =
        subst (λ b. IsOf place b (erase_declaration (instance_body at generics its_class t methods)))
        (same_Some (method_body place generics m) body e) (
          refl,
          (λ w c. Contains-append_left (instance_writings generics its_class t) _ w
              (Contains-append_left (flat_map generic_writings generics) _ w c)),
          refl,
        )
of_declared place name (constant at n t) body e = absurd (none-some body e)
of_declared place name (opaque_type at n ps u) body e = absurd (none-some body e)
of_declared place name (record_type at n ps u fields) body e = absurd (none-some body e)
of_declared place name (union_type at n ps u cases) body e = absurd (none-some body e)
of_declared place name (function at gs h) body e = absurd (none-some body e)
of_declared place name (class at n p hs) body e = absurd (none-some body e)
of_declared place name (instance at gs n t) body e = absurd (none-some body e)
of_declared place name (constant_body at n t v) body e = absurd (none-some body e)

module _ (program : List ModuleParts) (noted : List NotedParts) where
  -- where the declaration of a body stands
  abbrev pub StandsAt : Bytes → BodyOf → Type 0
  StandsAt name body = (place : ℕ) × (index : ℕ) × (d : NotedDeclaration)
      × (slice_get (body_at noted place) index ≡ Some d) × (body_in place name d ≡ Some body)

  pub body_stands : (name : Bytes) (o : Option Standing) (body : BodyOf) → body_standing program noted name o
      ≡ Some body → StandsAt name body
  body_stands name None body e = absurd (none-some body e)
  body_stands name (Some d) body e = by (defining_index program d d.part) e
    where
      found : (index : ℕ) (o : Option NotedDeclaration) → slice_get (body_at noted d.place) index ≡ o →
          option_and_then (body_in d.place name) o ≡ Some body → StandsAt name body
      found index None is e = absurd (none-some body e)
      found index (Some one) is e = (d.place, index, one, is, e)

      by : (o : Option ℕ) → option_and_then (body_in d.place name) (noted_at noted d.place o) ≡ Some body →
          StandsAt name body
      by None e = absurd (none-some body e)
      by (Some index) e = found index (slice_get (body_at noted d.place) index) refl e

  -- without its notes it stands in the body of its module
  pub erased_there : erase_program noted ≡ program → (place index : ℕ) (d : NotedDeclaration) →
      slice_get (body_at noted place) index ≡ Some d
      → (m : ModuleParts) × (slice_get program place ≡ Some m)
      × (slice_get (declarations_in m.body) index ≡ Some (erase_declaration d))
  erased_there erased place index d e = by (slice_get noted place) refl e
    where
      within : (o : Option NotedEntry) (m : NotedParts) → m.body ≡ o → slice_get (declared_in o) index
          ≡ Some d → slice_get (declarations_in (erase_parts m).body) index ≡ Some (erase_declaration d)
      within None m is e = absurd (none-some d e)
      within (Some entry) m is e =
          ap (λ o. slice_get (declarations_in
          (erase_parts (record { name = m.name; interface = m.interface; body = o })).body) index) is
          ∙ slice_get-map erase_declaration entry.tree.declarations index ∙ ap (option_map erase_declaration) e

      by : (o : Option NotedParts) → slice_get noted place ≡ o → slice_get (body_of_parts o) index ≡ Some d
          → (m : ModuleParts) × (slice_get program place ≡ Some m)
          × (slice_get (declarations_in m.body) index ≡ Some (erase_declaration d))
      by None is e = absurd (none-some d e)
      by (Some m) is e = (
        erase_parts m,
        sym (ap (λ p. slice_get p place) erased) ∙ slice_get-map erase_parts noted place
            ∙ ap (option_map erase_parts) is,
        within m.body m refl e,
      )

  -- nothing is wrong with the type parameters of a body
  pub misfit_none : AllDeclarationsAreGood program → IsDerived program noted →
      (target : Target) (body : BodyOf) → body_of program noted target ≡ Some body
      → first_misfit (class_meant (written_params body.generics) (types_at program body.place Body)
      (heads_of program)) body.generics ≡ None
  misfit_none good derived target body there =
      let stands = body_stands target.name (standing_at program target.at) body there in
      let erased = erased_there derived.erased stands.0 stands.1 stands.2 stands.3 in
      let its = of_declared stands.0 target.name stands.2 body stands.4 in
      let made = made_there program good stands.0 erased.0 stands.1 (erase_declaration stands.2) erased.1 erased.2 in
      let here : IsWellMade (types_at program body.place Body) (heads_of program) (erase_declaration stands.2) =
      subst (λ n. IsWellMade (types_at program n Body) (heads_of program) (erase_declaration stands.2))
      (sym its.0) made in
      all_meant (types_at program body.place Body) (heads_of program) (written_params body.generics) body.generics
      (λ w c. subst (λ ps. IsGoodWriting (types_at program body.place Body) (heads_of program) ps w) its.2
      (here.written w (its.1 w c)))

  -- the type parameters of each body mean something
  pub bounds_meant : AllDeclarationsAreGood program → IsDerived program noted →
      (target : Target) (body : BodyOf) → body_of program noted target ≡ Some body
      → bounds_of program body ≡ generics_in (outside_at program body) body.generics
  bounds_meant good derived target body there =
      ap (λ o. bounds_in (judged (generics_in (outside_at program body) body.generics) o))
      (misfit_none good derived target body there)
