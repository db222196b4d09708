-- The bodies of functions that are called.
use Rattle.std.proofs.Common.{◌≡◌, ◌⊎◌, inl, inr, ℕ, Bool, true, true≢false, List, [], ◌∷◌, length, cond, Option}
use Rattle.std.proofs.Common.{None, Some, refl, sym, ap, ◌∙◌, subst, lt-ltb}
use Rattle.std.specs.Prelude.{Contains, find, slice_get}
use Rattle.std.specs.List.{position, position_or_len}
use Rattle.std.specs.Option.{option_and_then, option_map}
use Rattle.std.proofs.lemmas.List.Folds.{find_at}
use Rattle.std.proofs.lemmas.Option.{none-some, same_Some, slice_get_within}
use Rattle.au_base.specs.declared.places.Pos.{Pos}
use Rattle.au_base.proofs.OptionLemmas.{map_some}
use Rattle.au_shipped.specs.Calls.{prim_of}
use Rattle.au_syntax.specs.declared.modules.Part.{Part}
use Rattle.au_syntax.specs.declared.modules.Part.TheVariants.{Interface, Body}
use Rattle.au_syntax.specs.Forms.{formed_declaration}
use Rattle.au_syntax.specs.Modules.{Constrained, Header, constant, opaque_type, record_type, union_type, function, class}
use Rattle.au_syntax.specs.Modules.{instance, constant_body, function_body, instance_body}
use Rattle.au_syntax.specs.Plain.{Bytes, PlainDeclaration, PlainStatements}
use Rattle.au_syntax.specs.Types.{Labelled, WrittenType}
use Rattle.au_types.specs.declared.parameters.Parameter.{Parameter}
use Rattle.au_types.specs.declared.spaces.Space.TheVariants.{Types}
use Rattle.au_types.specs.declared.types.DeclAt.{DeclAt}
use Rattle.au_types.specs.Meant.{meant}
use Rattle.au_types.specs.Types.{Meaning}
use Rattle.au_judged_types.specs.Bounds.{Bounded, parameters}
use Rattle.au_judged_types.specs.declared.reading.Meant.{Meant}
use Rattle.au_judged_types.specs.declared.reading.Meant.TheVariants.{Are, Fails}
use Rattle.au_judged_types.specs.Meanings.{class_meant, first_misfit, generics_meant, judged, written_params}
use Rattle.au_judged_types.proofs.MeaningLemmas.{params_written}
use Rattle.au_modules.specs.Programs.{Entry, ModuleParts}
use Rattle.au_names.specs.declared.targets.Target.{Target}
use Rattle.au_names.specs.Exporting.{declarations_seen}
use Rattle.au_names.specs.HeadsOf.{heads_of}
use Rattle.au_names.specs.Meanings.{declared_by}
use Rattle.au_names.specs.Owned.{declarations_in}
use Rattle.au_names.specs.Standing.{Standing, standing_at}
use Rattle.au_promises.specs.Agreeing.{Sight, scope_of, sight_of}
use Rattle.au_promises.specs.Fulfilled.{AllFulfil, Each, OfSignature, SameGeneric, SameLabelled, SameSignature}
use Rattle.au_promises.specs.Promises.{defines}
use Rattle.au_promises.proofs.DecidingLemmas.{keeps_decides}
use Rattle.au_promises.proofs.FulfilledLemmas.{kept_passes}
use Rattle.au_judged_bodies.specs.TypeNames.{type_names}
use Rattle.au_judged_bodies.specs.Bodies.{BodyOf, body_in, body_of, body_standing, defining_in, defining_index, noted_at}
use Rattle.au_judged_bodies.specs.Leading.{a_function, called_of, module_name}
use Rattle.au_closing_laws.specs.Premises.{AreOfParts, FunctionsAreShipped}
use Rattle.au_closing_laws.specs.Targets.{bounds_in, bounds_of}
use Rattle.au_closing_laws.proofs.DefinitionLemmas.{IsThere, listed_at, noted_there, stands_in}
use Rattle.au_closing_laws.proofs.FunctionLemmas.{bounds_here, bounds_promised}
use Rattle.au_judged_bodies.specs.Called.{callable, declared_callable, function_called}
use Rattle.au_judged_bodies.specs.Scopes.{Callable, Typed}
use Rattle.au_judged_bodies.specs.Trees.{NotedDeclaration, NotedParts, erase_declaration, erase_program}
use Rattle.au_judged_bodies.specs.Written.{all_typed, meant_in, seen_in, typed, types_at}
use Rattle.au_judged_bodies.proofs.LawfulLemmas.{followed_is}
use Rattle.au_judged_bodies.specs.Keys.{bounds_in_body, meant_in_body}
use Rattle.au_judged_bodies.specs.Functions.{EachMeans, IsBodyOf}
use Rattle.au_judged_programs.specs.CalledBodiesBodies.{ConstraintsAreMeant, FunctionIsThere, is_function}

-- ---- what is called

-- it has these type parameters, parameters and result
pub callable_has : (generics : List Bounded) (of : Option (Bytes × DeclAt)) (given : Option (List Typed))
    (result : Option Meaning) (c : Callable) → callable generics of given result ≡ Some c
    → (c.generics ≡ generics) × (given ≡ Some c.parameters) × (result ≡ Some c.result)
callable_has generics of (Some given) (Some result) c e =
    let same = same_Some (record { generics = generics; parameters = given; result = result; class = of }) c e in (
      sym (ap (λ (x : Callable). x.generics) same),
      ap (λ (x : Callable). Some x.parameters) same,
      ap (λ (x : Callable). Some x.result) same,
    )
callable_has generics of None result c e = absurd (none-some c e)
callable_has generics of (Some given) None c e = absurd (none-some c e)

-- what is called means what is written
record IsMeantAs (program : List ModuleParts) (d : Standing) (generics : List (Constrained Bytes)) (h : Header Bytes)
    (called : Callable) : Type 0 where
  means : generics_meant (types_at program d.place d.part) (heads_of program) generics ≡ Are called.generics
  over : parameters called.generics ≡ written_params generics
  takes : all_typed program d (parameters called.generics) h.parameters ≡ Some called.parameters
  gives : meant_in program d (parameters called.generics) h.result ≡ Some called.result

meant_as : (program : List ModuleParts) (d : Standing) (generics : List (Constrained Bytes)) (h : Header Bytes)
    (called : Callable)
    → function_called program d h (generics_meant (types_at program d.place d.part) (heads_of program) generics)
    ≡ Some called → IsMeantAs program d generics h called
meant_as program d generics h called e =
    by (generics_meant (types_at program d.place d.part) (heads_of program) generics) refl e
  where
    by : (o : Meant) → generics_meant (types_at program d.place d.part) (heads_of program) generics ≡ o
        → function_called program d h o ≡ Some called → IsMeantAs program d generics h called
    by (Fails why) is e = absurd (none-some called e)
    by (Are all) is e =
        let its = callable_has all None (all_typed program d (parameters all) h.parameters)
        (meant_in program d (parameters all) h.result) called e in record {
          means = is ∙ ap Are (sym its.0);
          over = ap parameters its.0
              ∙ params_written (types_at program d.place d.part) (heads_of program) generics all is;
          takes = ap (λ bs. all_typed program d (parameters bs) h.parameters) its.0 ∙ its.1;
          gives = ap (λ bs. meant_in program d (parameters bs) h.result) its.0 ∙ its.2;
        }

-- ---- the body of a declaration

abbrev pub written_function : PlainDeclaration → Option (List (Constrained Bytes) × Header Bytes)
written_function (function_body at generics h body stop) = Some (generics, h)
written_function other = None

-- a body with these type parameters and this header is there
abbrev pub HasBody : List ModuleParts → List NotedParts → Target → ℕ → List (Constrained Bytes) → Header Bytes → Type 0
HasBody program trees target place generics h =
    (body : BodyOf) × (body_of program trees target ≡ Some body) × (body.place ≡ place) × (body.generics ≡ generics)
    × (body.header ≡ h)

noted_body : (place : ℕ) (name : Bytes) (d : NotedDeclaration) (generics : List (Constrained Bytes)) (h : Header Bytes)
    → written_function (erase_declaration d) ≡ Some (generics, h)
    → (body : BodyOf) × (body_in place name d ≡ Some body) × (body.place ≡ place) × (body.generics ≡ generics)
    × (body.header ≡ h)
noted_body place name (function_body at others its block stop) generics h e =
    let same : (others, its) ≡ (generics, h) = same_Some (others, its) (generics, h) e in (
      record { place = place; generics = others; header = its; block = block },
      refl,
      refl,
      ap (λ (p : List (Constrained Bytes) × Header Bytes). p.0) same,
      ap (λ (p : List (Constrained Bytes) × Header Bytes). p.1) same,
    )
noted_body place name (instance_body at gs its_class t methods) generics h e = absurd (none-some (generics, h) e)
noted_body place name (constant at n t) generics h e = absurd (none-some (generics, h) e)
noted_body place name (opaque_type at n ps u) generics h e = absurd (none-some (generics, h) e)
noted_body place name (record_type at n ps u fields) generics h e = absurd (none-some (generics, h) e)
noted_body place name (union_type at n ps u cases) generics h e = absurd (none-some (generics, h) e)
noted_body place name (function at gs k) generics h e = absurd (none-some (generics, h) e)
noted_body place name (class at n p hs) generics h e = absurd (none-some (generics, h) e)
noted_body place name (instance at gs n t) generics h e = absurd (none-some (generics, h) e)
noted_body place name (constant_body at n t v) generics h e = absurd (none-some (generics, h) e)

placed : {A : Type 0} (p : A → Bool) (xs : List A) (x : A) → find p xs ≡ Some x
    → position p xs ≡ Some (position_or_len p xs)
placed p xs x e =
    ap (λ b. cond b (Some (position_or_len p xs)) None)
    (lt-ltb (position_or_len p xs) (length xs) (slice_get_within xs (position_or_len p xs) x (sym (find_at p xs) ∙ e)))

-- what keeps the promise of a function
module _ (sight : Sight) (generics : List (Constrained Bytes)) (h : Header Bytes) where
  abbrev Signed : PlainDeclaration → Type 0
  Signed e =
      (others : List (Constrained Bytes)) × (its : Header Bytes) × (written_function e ≡ Some (others, its))
      × Each (SameGeneric sight) generics others
      × SameSignature sight (scope_of generics) (scope_of others) h its

  signed : (e : PlainDeclaration) → OfSignature sight generics h e → Signed e
  signed (function_body at others its body stop) agrees = (others, its, refl, agrees.0, agrees.1)
  signed (instance_body at gs n t methods) agrees = absurd agrees
  signed (constant at n t) agrees = absurd agrees
  signed (opaque_type at n ps u) agrees = absurd agrees
  signed (record_type at n ps u fields) agrees = absurd agrees
  signed (union_type at n ps u cases) agrees = absurd agrees
  signed (function at gs k) agrees = absurd agrees
  signed (class at n p hs) agrees = absurd agrees
  signed (instance at gs n t) agrees = absurd agrees
  signed (constant_body at n t v) agrees = absurd agrees

module _ (program : List ModuleParts) (trees : List NotedParts) (erased : erase_program trees ≡ program)
    (target : Target) (d : Standing) (found : standing_at program target.at ≡ Some d) where
  pub body_from : (index : ℕ) (m : ModuleParts) (says : PlainDeclaration) (generics : List (Constrained Bytes))
      (h : Header Bytes) → slice_get program d.place ≡ Some m → slice_get (declarations_in m.body) index ≡ Some says
      → written_function says ≡ Some (generics, h) → defining_index program d d.part ≡ Some index
      → HasBody program trees target d.place generics h
  body_from index m says generics h is e written defining =
      let its = noted_there program trees erased d.place index m says is e in
      let has = noted_body d.place target.name its.0 generics h (ap written_function its.2 ∙ written) in (
        has.0,
        ap (body_standing program trees target.name) found
            ∙ ap (λ o. option_and_then (body_in d.place target.name) (noted_at trees d.place o)) defining
            ∙ ap (option_and_then (body_in d.place target.name)) its.1 ∙ has.1,
        has.2,
        has.3,
        has.4,
      )

  -- that of a function that is promised, in a module that has a body
  body_promised : AllFulfil program → (m : ModuleParts) (interface entry : Entry) → slice_get program d.place ≡ Some m
      → m.interface ≡ Some interface → m.body ≡ Some entry → d.part ≡ Interface
      → Contains interface.tree.declarations d.says → (at : Pos) (generics : List (Constrained Bytes))
      (h : Header Bytes)
      → d.says ≡ function at generics h
      → (others : List (Constrained Bytes)) × (its : Header Bytes)
      × HasBody program trees target d.place others its
      × Each (SameGeneric (sight_of program d.place m)) generics others
      × SameSignature (sight_of program d.place m) (scope_of generics) (scope_of others) h its
  body_promised promises m interface entry is of_interface of_body part listed at generics h says =
      let promise : PlainDeclaration = function at generics h in
      let kept = promises d.place m interface entry is of_interface of_body promise h.name.name
      (subst (Contains interface.tree.declarations) says listed) refl in
      let passes = kept_passes (sight_of program d.place m) promise entry.tree.declarations kept in
      let first = find_at (defines (sight_of program d.place m) promise) entry.tree.declarations in
      let index = position_or_len (defines (sight_of program d.place m) promise) entry.tree.declarations in
      let defined : defining_index program d d.part ≡ Some index =
      ap (defining_index program d) part
      ∙ ap (λ o. defining_in program d.place o d.says) is
      ∙ ap (defining_in program d.place (Some m)) says
      ∙ ap (λ o. position (defines (sight_of program d.place m) promise)
      (declarations_seen (option_map (λ (e : Entry). e.tree) o))) of_body
      ∙ placed (defines (sight_of program d.place m) promise) entry.tree.declarations passes.0 passes.1 in
      let there : slice_get (declarations_in m.body) index ≡ Some passes.0 =
      ap (λ o. slice_get (declarations_in o) index) of_body ∙ sym first ∙ passes.1 in
      let agrees = signed (sight_of program d.place m) generics h passes.0
      ((keeps_decides (sight_of program d.place m) promise passes.0).0 passes.2) in (
        agrees.0,
        agrees.1,
        body_from index m passes.0 agrees.0 agrees.1 is there agrees.2 defined,
        agrees.3,
        agrees.4,
      )

-- ---- its types

same_written : (sight : Sight) (generics others : List (Constrained Bytes)) → Each (SameGeneric sight) generics others
    → written_params generics ≡ written_params others
same_written sight [] [] each = refl
same_written sight [] (o ∷ others) each = absurd each
same_written sight (g ∷ generics) [] each = absurd each
same_written sight (g ∷ generics) (o ∷ others) each =
    λ i. record { name = each.0.0.0 i; universe = each.0.0.1 i } ∷ same_written sight generics others each.1 i

seen_same : (program : List ModuleParts) (place : ℕ) (m : ModuleParts) (part : Part) → slice_get program place ≡ Some m
    → types_at program place part ≡ declared_by (seen_in Types program place part (Some m))
seen_same program place m part is = ap (λ o. declared_by (seen_in Types program place part o)) is

module _ (program : List ModuleParts) (d : Standing) (ps : List Parameter) (body : BodyOf) where
  -- written types of a declaration and of a body mean the same
  abbrev Alike : WrittenType → WrittenType → Type 0
  Alike t u = meant_in program d ps t ≡ meant_in_body program body u

  abbrev EachAlike : List (Labelled Bytes) → List (Labelled Bytes) → Type 0
  EachAlike ws vs =
      Each (λ (w v : Labelled Bytes). (w.name.name ≡ v.name.name) × Alike w.of v.of) ws vs

  each_means : (ws vs : List (Labelled Bytes)) (kinds : List Typed) → EachAlike ws vs
      → all_typed program d ps ws ≡ Some kinds → EachMeans program body vs kinds
  each_means [] [] kinds alike e = subst (EachMeans program body []) (same_Some [] kinds e) tt
  each_means [] (v ∷ vs) kinds alike e = absurd alike
  each_means (w ∷ ws) [] kinds alike e = absurd alike
  each_means (w ∷ ws) (v ∷ vs) kinds alike e =
      on (followed_is (typed program d ps w) (all_typed program d ps ws) kinds e)
      (λ others its. each_means ws vs others alike.1 its)
    where
      on : (x : Typed) × (others : List Typed) × (typed program d ps w ≡ Some x)
          × (all_typed program d ps ws ≡ Some others) × (x ∷ others ≡ kinds)
          → ((others : List Typed) → all_typed program d ps ws ≡ Some others → EachMeans program body vs others)
          → EachMeans program body (v ∷ vs) kinds
      on (x, others, first, its, whole) later =
          let from = map_some (λ t. record { name = w.name.name; of = t }) (meant_in program d ps w.of) x first in
          subst (EachMeans program body (v ∷ vs)) whole (
            sym alike.0.0 ∙ ap (λ (y : Typed). y.name) from.2,
            sym alike.0.1 ∙ from.1 ∙ ap (λ (y : Typed). Some y.of) from.2,
            later others its,
          )

  all_alike : ((t : WrittenType) → Alike t t) → (ws : List (Labelled Bytes)) → EachAlike ws ws
  all_alike so [] = tt
  all_alike so (w ∷ ws) = ((refl, so w.of), all_alike so ws)

is_body : (program : List ModuleParts) (d : Standing) (generics : List (Constrained Bytes)) (h : Header Bytes)
    (called : Callable) (body : BodyOf) → IsMeantAs program d generics h called
    → written_params body.generics ≡ written_params generics → bounds_in_body program body ≡ called.generics
    → EachAlike program d (parameters called.generics) body h.parameters body.header.parameters
    → Alike program d (parameters called.generics) body h.result body.header.result → IsBodyOf program body called
is_body program d generics h called body meant over bounds takes gives = record {
  over = over ∙ sym meant.over;
  bounds = bounds;
  takes = each_means program d (parameters called.generics) body h.parameters body.header.parameters called.parameters
      takes meant.takes;
  gives = sym gives ∙ meant.gives;
}

module _ (program : List ModuleParts) (d : Standing) (generics : List (Constrained Bytes)) (h : Header Bytes)
    (called : Callable) (meant_so : IsMeantAs program d generics h called) (body : BodyOf)
    (place : body.place ≡ d.place)
    (none : first_misfit (class_meant (written_params body.generics) (types_at program body.place Body)
    (heads_of program))
    body.generics ≡ None) where
  -- the constraints of a body mean classes
  scope_so : bounds_of program body ≡ called.generics → bounds_in_body program body ≡ called.generics
  scope_so same = sym (ap (λ o. bounds_in (judged (bounds_in_body program body) o)) none) ∙ same

  means_at : (part : Part) → d.part ≡ part
      → generics_meant (types_at program d.place part) (heads_of program) generics ≡ Are called.generics
  means_at part is = subst
      (λ p. generics_meant (types_at program d.place p) (heads_of program) generics ≡ Are called.generics) is
      meant_so.means

  -- the body of a function that stands in a body
  own_body : d.part ≡ Body → body.generics ≡ generics → body.header ≡ h → IsBodyOf program body called
  own_body part same header =
      is_body program d generics h called body meant_so (ap written_params same)
      (scope_so (bounds_here program body d.place place generics called.generics same (means_at Body part)))
      (subst (λ (k : Header Bytes). EachAlike program d (parameters called.generics) body h.parameters k.parameters)
      (sym header) (all_alike program d (parameters called.generics) body alike h.parameters))
      (subst (λ (k : Header Bytes). Alike program d (parameters called.generics) body h.result k.result) (sym header)
      (alike h.result))
    where
      alike : (t : WrittenType) → Alike program d (parameters called.generics) body t t
      alike t =
          ap (λ ps. meant [] ps (types_at program d.place d.part) (heads_of program) t)
          (meant_so.over ∙ sym (ap written_params same))
          ∙ ap (λ p. meant [] (written_params body.generics) (types_at program d.place p) (heads_of program) t) part
          ∙ ap (λ n. meant [] (written_params body.generics) (types_at program n Body) (heads_of program) t) (sym place)

  -- that of one that is promised
  kept_body : (m : ModuleParts) (others : List (Constrained Bytes)) (its : Header Bytes)
      → slice_get program d.place ≡ Some m → d.part ≡ Interface → body.generics ≡ others → body.header ≡ its
      → Each (SameGeneric (sight_of program d.place m)) generics others
      → SameSignature (sight_of program d.place m) (scope_of generics) (scope_of others) h its
      → IsBodyOf program body called
  kept_body m others its is part same header each signed =
      is_body program d generics h called body meant_so
      (ap written_params same ∙ sym (same_written (sight_of program d.place m) generics others each))
      (scope_so (bounds_promised program body d.place place m generics others called.generics is same each
      (means_at Interface part) none))
      (subst (λ (k : Header Bytes). EachAlike program d (parameters called.generics) body h.parameters k.parameters)
      (sym header) (all_so h.parameters its.parameters signed.0))
      (subst (λ (k : Header Bytes). Alike program d (parameters called.generics) body h.result k.result) (sym header)
      (alike h.result its.result signed.1))
    where
      alike : (t u : WrittenType)
          → meant [] (scope_of generics) (sight_of program d.place m).interface (heads_of program) t
          ≡ meant [] (scope_of others) (sight_of program d.place m).body (heads_of program) u
          → Alike program d (parameters called.generics) body t u
      alike t u e =
          ap (λ ps. meant [] ps (types_at program d.place d.part) (heads_of program) t) meant_so.over
          ∙ ap (λ p. meant [] (written_params generics) (types_at program d.place p) (heads_of program) t) part
          ∙ ap (λ names. meant [] (written_params generics) names (heads_of program) t)
          (seen_same program d.place m Interface is)
          ∙ e
          ∙ ap (λ names. meant [] (written_params others) names (heads_of program) u)
          (sym (seen_same program d.place m Body is))
          ∙ ap (λ gs. meant [] (written_params gs) (types_at program d.place Body) (heads_of program) u) (sym same)
          ∙ ap (λ n. meant [] (written_params body.generics) (types_at program n Body) (heads_of program) u) (sym place)

      all_so : (ws vs : List (Labelled Bytes))
          → Each (SameLabelled (sight_of program d.place m) (scope_of generics) (scope_of others)) ws vs
          → EachAlike program d (parameters called.generics) body ws vs
      all_so [] [] alike_each = tt
      all_so [] (v ∷ vs) alike_each = absurd alike_each
      all_so (w ∷ ws) [] alike_each = absurd alike_each
      all_so (w ∷ ws) (v ∷ vs) alike_each =
          ((alike_each.0.0, alike w.of v.of alike_each.0.1), all_so ws vs alike_each.1)

-- ---- functions

module _ (program : List ModuleParts) (trees : List NotedParts) (erased : erase_program trees ≡ program)
    (promises : AllFulfil program) (parts : AreOfParts program) (shipped : FunctionsAreShipped program)
    (meant_all : ConstraintsAreMeant program trees) (target : Target) (d : Standing) (called : Callable)
    (found : standing_at program target.at ≡ Some d) where
  abbrev There : Type 0
  There = FunctionIsThere program trees target d called

  abbrev Stands : Bytes → Type 0
  Stands declared =
      prim_of (module_name program target.at.«module») declared None ≡ None
      → (body : BodyOf) × (body_of program trees target ≡ Some body) × IsBodyOf program body called

  module _ (generics : List (Constrained Bytes)) (h : Header Bytes)
      (meant_so : IsMeantAs program d generics h called) where
    here : (at : Pos) (block : PlainStatements) (stop : Pos) → d.says ≡ function_body at generics h block stop
        → Stands h.name.name
    here at block stop says none = by (stands_in program target.at d found)
      where
        by : (m : ModuleParts) × (slice_get program target.at.«module» ≡ Some m)
            × (IsThere target.at.«module» Interface (declarations_in m.interface) d
            ⊎ IsThere target.at.«module» Body (declarations_in m.body) d)
            → (body : BodyOf) × (body_of program trees target ≡ Some body) × IsBodyOf program body called
        by (m, is, inl its) =
            absurd (true≢false (sym (parts target.at d found)
            ∙ ap (λ p. formed_declaration p d.says) its.1 ∙ ap (formed_declaration Interface) says))
        by (m, is, inr its) =
            let has = body_from program trees erased target d found d.index m d.says generics h
            (ap (slice_get program) its.0 ∙ is) its.2 (ap written_function says)
            (ap (defining_index program d) its.1) in (
              has.0,
              has.1,
              own_body program d generics h called meant_so has.0 has.2 (meant_all target has.0 has.1) its.1 has.3
                  has.4,
            )

    promised : (at : Pos) → d.says ≡ function at generics h → Stands h.name.name
    promised at says none = by (stands_in program target.at d found)
      where
        defined : (m : ModuleParts) → slice_get program target.at.«module» ≡ Some m
            → IsThere target.at.«module» Interface (declarations_in m.interface) d → (interface : Option Entry)
            → m.interface ≡ interface → (its_body : Option Entry) → m.body ≡ its_body
            → (body : BodyOf) × (body_of program trees target ≡ Some body) × IsBodyOf program body called
        defined m is its None of_none other same =
            absurd (none-some d.says (sym (ap (λ o. slice_get (declarations_in o) d.index) of_none) ∙ its.2))
        defined m is its (Some interface) of_interface None no_body =
            let prim = shipped target.at d m found is no_body at generics h says in
            absurd (none-some prim.0 (sym none ∙ prim.1))
        defined m is its (Some interface) of_interface (Some entry) of_body =
            let at_place : slice_get program d.place ≡ Some m = ap (slice_get program) its.0 ∙ is in
            let kept = body_promised program trees erased target d found promises m interface entry at_place
            of_interface
            of_body its.1
            (listed_at interface.tree.declarations d.index d.says
            (sym (ap (λ o. slice_get (declarations_in o) d.index) of_interface) ∙ its.2)) at generics h says in
            let has = kept.2 in (
              has.0,
              has.1,
              kept_body program d generics h called meant_so has.0 has.2 (meant_all target has.0 has.1) m kept.0 kept.1
                  at_place its.1 has.3 has.4
                  kept.3 kept.4,
            )

        by : (m : ModuleParts) × (slice_get program target.at.«module» ≡ Some m)
            × (IsThere target.at.«module» Interface (declarations_in m.interface) d
            ⊎ IsThere target.at.«module» Body (declarations_in m.body) d)
            → (body : BodyOf) × (body_of program trees target ≡ Some body) × IsBodyOf program body called
        by (m, is, inl its) = defined m is its m.interface refl m.body refl
        by (m, is, inr its) =
            absurd (true≢false (sym (parts target.at d found)
            ∙ ap (λ p. formed_declaration p d.says) its.1 ∙ ap (formed_declaration Body) says))

  as_said : (says : PlainDeclaration) → d.says ≡ says → is_function says ≡ true
      → declared_callable program d target.at target.name says ≡ Some called → There
  as_said (function at generics h) says is e =
      let meant_so = meant_as program d generics h called e in record {
        declared = h.name.name;
        leads = ap (called_of target.name) says
            ∙ ap (λ ps. Some (a_function h.name.name (type_names ps))) (sym meant_so.over);
        stands = promised generics h meant_so at says;
      }
  as_said (function_body at generics h block stop) says is e =
      let meant_so = meant_as program d generics h called e in record {
        declared = h.name.name;
        leads = ap (called_of target.name) says
            ∙ ap (λ ps. Some (a_function h.name.name (type_names ps))) (sym meant_so.over);
        stands = here generics h meant_so at block stop says;
      }
  as_said (class at n p hs) says is e = absurd (true≢false (sym is))
  as_said (record_type at n ps u fields) says is e = absurd (true≢false (sym is))
  as_said (union_type at n ps u cases) says is e = absurd (true≢false (sym is))
  as_said (constant at n t) says is e = absurd (true≢false (sym is))
  as_said (opaque_type at n ps u) says is e = absurd (true≢false (sym is))
  as_said (instance at gs n t) says is e = absurd (true≢false (sym is))
  as_said (constant_body at n t v) says is e = absurd (true≢false (sym is))
  as_said (instance_body at gs n t ms) says is e = absurd (true≢false (sym is))

  pub function_there : is_function d.says ≡ true
      → declared_callable program d target.at target.name d.says ≡ Some called → There
  function_there is e = as_said d.says refl is e
