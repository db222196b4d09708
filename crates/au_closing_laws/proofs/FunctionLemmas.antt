-- A function that is called in a body of an accepted program is typed.
use Rattle.std.proofs.Common.{◌≡◌, ◌⊎◌, inl, inr, ℕ, List, map, Option, None, Some, refl, sym, ap, ◌∙◌, subst}
use Rattle.std.proofs.Common.{true≢false}
use Rattle.std.specs.Prelude.{Contains, IsTrue, slice_get}
use Rattle.std.proofs.lemmas.Option.{none-some, same_Some}
use Rattle.au_base.specs.declared.places.Pos.{Pos}
use Rattle.au_syntax.specs.declared.declarations.Universe.{Universe}
use Rattle.au_syntax.specs.declared.modules.Part.{Part}
use Rattle.au_syntax.specs.declared.modules.Part.TheVariants.{Interface, Body}
use Rattle.au_syntax.specs.Forms.{formed_declaration}
use Rattle.au_syntax.specs.Modules.{Constrained, Header, function, function_body}
use Rattle.au_syntax.specs.Plain.{Bytes, PlainStatements}
use Rattle.au_types.specs.declared.spaces.Space.TheVariants.{Types}
use Rattle.au_types.specs.declared.types.DeclAt.{DeclAt}
use Rattle.au_types.specs.Types.{Meaning}
use Rattle.au_modules.specs.Programs.{Entry, ModuleParts}
use Rattle.au_names.specs.declared.targets.Target.{Target}
use Rattle.au_names.specs.HeadsOf.{heads_of}
use Rattle.au_names.specs.Meanings.{declared_by}
use Rattle.au_names.specs.Owned.{declarations_in}
use Rattle.au_names.specs.Standing.{Standing}
use Rattle.au_promises.specs.Agreeing.{sight_of}
use Rattle.au_promises.specs.Fulfilled.{AllFulfil, Each, SameGeneric}
use Rattle.au_judged_types.specs.declared.reading.Meant.{Meant}
use Rattle.au_judged_types.specs.declared.reading.Meant.TheVariants.{Are, Fails}
use Rattle.au_judged_types.specs.declared.reading.Misfit.{Misfit}
use Rattle.au_judged_types.specs.Bounds.{Bounded, constrains, parameters}
use Rattle.au_judged_types.specs.Meanings.{class_meant, first_misfit, generics_meant, judged, with_classes}
use Rattle.au_judged_types.specs.Meanings.{written_params}
use Rattle.au_judged_types.proofs.MeaningLemmas.{params_written}
use Rattle.au_classes.specs.Good.{InstancesAreGood}
use Rattle.au_rules.specs.Good.{AllDeclarationsAreGood}
use Rattle.au_typing.specs.Scopes.{Callable, Typed}
use Rattle.au_typing.specs.Called.{callable, declared_callable, function_called}
use Rattle.au_typing.specs.Written.{all_typed, meant_in, seen_in, types_at}
use Rattle.au_typing.specs.Trees.{NotedParts}
use Rattle.au_accepted.specs.Faults.{IsDerived}
use Rattle.au_closed_trees.specs.TypeNames.{type_names}
use Rattle.au_closing.specs.Bodies.{BodyOf, body_of}
use Rattle.au_closing_laws.specs.Targets.{Call, FunctionIsTyped, IsFor, IsTypeOf, bounds_in, bounds_of}
use Rattle.au_closing_laws.specs.Targets.{calls_listed, function_has_body, function_is_shipped}
use Rattle.au_closing_laws.specs.Calls.{IsMeant, put_for}
use Rattle.au_closing_laws.specs.Premises.{AreOfParts, FunctionsAreShipped, PutTypesStand}
use Rattle.au_closing_laws.proofs.GenericsLemmas.{bounds_meant, misfit_none}
use Rattle.au_closing_laws.proofs.PutLemmas.{parameter_put}
use Rattle.au_closing_laws.proofs.DefinitionLemmas.{IsThere, body_here, body_promised, function_written}
use Rattle.au_closing_laws.proofs.DefinitionLemmas.{generics_written, listed_at, stands_in}
use Rattle.au_closing_laws.proofs.SameLemmas.{same_bounds}

-- ---- the type parameters of a function that is called

callable_generics : (generics : List Bounded) (of : Option (Bytes × DeclAt)) (given : Option (List Typed))
    (result : Option Meaning) (c : Callable) → callable generics of given result ≡ Some c →
    c.generics ≡ generics
callable_generics generics of (Some given) (Some result) c e =
    sym (ap (λ (x : Callable). x.generics)
    (same_Some (record { generics = generics; parameters = given; result = result; class = of }) c e))
callable_generics generics of None result c e = absurd (none-some c e)
callable_generics generics of (Some given) None c e = absurd (none-some c e)

called_generics : (program : List ModuleParts) (d : Standing) (h : Header Bytes) (o : Meant) (c : Callable) →
    function_called program d h o ≡ Some c → o ≡ Are c.generics
called_generics program d h (Fails why) c e = absurd (none-some c e)
called_generics program d h (Are generics) c e =
    ap Are (sym (callable_generics generics None (all_typed program d (parameters generics) h.parameters)
    (meant_in program d (parameters generics) h.result) c e))

-- where type parameters mean something, they are those that are written
judged_from : (all : List Bounded) (o : Option Misfit) (generics : List Bounded) →
    judged all o ≡ Are generics → (o ≡ None) × (all ≡ generics)
judged_from all None generics e = (refl, cc)
judged_from all (Some found) generics e = cc

seen_same : (program : List ModuleParts) (place : ℕ) (m : ModuleParts) (part : Part) → slice_get program place
    ≡ Some m → types_at program place part ≡ declared_by (seen_in Types program place part (Some m))
seen_same program place m part is = ap (λ o. declared_by (seen_in Types program place part o)) is

-- ---- the type parameters of its body

module _ (program : List ModuleParts) (callee : BodyOf) (place : ℕ) (at_place : callee.place ≡ place) where
  abbrev names_there : Part → List (Bytes × DeclAt)
  names_there part = types_at program place part

  abbrev meant_there : Part → List (Constrained Bytes) → Meant
  meant_there part generics = generics_meant (names_there part) (heads_of program) generics

  -- of a function that stands in the body
  pub bounds_here : (generics : List (Constrained Bytes)) (all : List Bounded) → callee.generics ≡ generics →
      meant_there Body generics ≡ Are all → bounds_of program callee ≡ all
  bounds_here generics all same means =
      ap (λ n. bounds_in (generics_meant (types_at program n Body) (heads_of program) callee.generics)) at_place
      ∙ ap (λ gs. bounds_in (meant_there Body gs)) same ∙ ap bounds_in means

  -- of one that is promised
  pub bounds_promised : (m : ModuleParts) (generics others : List (Constrained Bytes)) (all : List Bounded) →
      slice_get program place ≡ Some m → callee.generics ≡ others
      → Each (SameGeneric (sight_of program place m)) generics others → meant_there Interface generics ≡ Are all
      → first_misfit (class_meant (written_params callee.generics) (types_at program callee.place Body)
      (heads_of program)) callee.generics ≡ None
      → bounds_of program callee ≡ all
  bounds_promised m generics others all is written same means none =
      let one = judged_from (map (with_classes
      (class_meant (written_params generics) (names_there Interface) (heads_of program))) generics)
      (first_misfit (class_meant (written_params generics) (names_there Interface) (heads_of program))
      generics) all means in
      let none_there : first_misfit (class_meant (written_params others) (names_there Body)
      (heads_of program)) others ≡ None =
      subst (λ gs. first_misfit (class_meant (written_params gs) (names_there Body) (heads_of program)) gs
      ≡ None) written
      (subst (λ n. first_misfit (class_meant (written_params callee.generics) (types_at program n Body)
      (heads_of program)) callee.generics ≡ None) at_place none) in
      let bodies = seen_same program place m Body is in
      let promises = seen_same program place m Interface is in
      let both = same_bounds (sight_of program place m) (written_params generics) (written_params others)
      generics others same
      (subst (λ names. first_misfit (class_meant (written_params generics) names (heads_of program)) generics
      ≡ None) promises one.0)
      (subst (λ names. first_misfit (class_meant (written_params others) names (heads_of program)) others
      ≡ None) bodies none_there) in
      ap (λ n. bounds_in (generics_meant (types_at program n Body) (heads_of program) callee.generics)) at_place
      ∙ ap (λ gs. bounds_in (meant_there Body gs)) written
      ∙ ap (λ o. bounds_in (judged (map
      (with_classes (class_meant (written_params others) (names_there Body) (heads_of program))) others) o))
      none_there
      ∙ ap (λ names. map (with_classes (class_meant (written_params others) names (heads_of program))) others) bodies
      ∙ sym both
      ∙ ap (λ names. map (with_classes (class_meant (written_params generics) names (heads_of program)))
      generics) (sym promises)
      ∙ one.1

-- ---- a function that is called

module _ (program : List ModuleParts) (noted : List NotedParts) (derived : IsDerived program noted)
    (declared : AllDeclarationsAreGood program) (instances : InstancesAreGood program)
    (promises : AllFulfil program)
    (parts : AreOfParts program) (is_shipped : FunctionsAreShipped program) (standing : PutTypesStand program noted)
    (caller : Target) (body : BodyOf) (there : body_of program noted caller ≡ Some body) (call : Call)
    (listed : Contains (calls_listed body.block) call) (meant : IsMeant program body call) where
  abbrev its_generics : List Bounded
  its_generics = meant.is_good.good.called.generics

  -- a function whose body has the type parameters of what is called
  typed_with : (name : Bytes) (generics : List (Constrained Bytes)) (callee : BodyOf) →
      body_of program noted meant.target ≡ Some callee → bounds_of program callee ≡ its_generics →
      parameters its_generics ≡ written_params generics
      → FunctionIsTyped program noted body call.0 meant.target name (type_names (written_params generics))
  typed_with name generics callee has same params =
      function_has_body callee has (ap (λ bs. type_names (parameters bs)) same ∙ ap type_names params)
      (λ p universe is. one_for p universe (subst (λ bs. IsTypeOf (parameters bs) p universe) same is))
    where
      one_for : (p : Bytes) (universe : Universe) → IsTypeOf (parameters its_generics) p universe →
          IsFor program body (bounds_of program callee) p universe (put_for call.0 p)
      one_for p universe is =
          let suits = parameter_put program instances body
          (bounds_meant program noted declared derived caller body there) call meant.is_good p universe is
          in
          record {
            stands = standing caller body there call listed meant.is_good p universe is;
            taken = suits.taken;
            holds = λ class c. suits.holds class (subst (λ bs. IsTrue (constrains bs p class)) same c);
          }

  abbrev d : Standing
  d = meant.declared

  -- what the type parameters of what is called mean
  meant_at : (part : Part) (generics : List (Constrained Bytes)) → d.part ≡ part →
      generics_meant (types_at program d.place d.part) (heads_of program) generics ≡ Are its_generics
      → generics_meant (types_at program d.place part) (heads_of program) generics ≡ Are its_generics
  meant_at part generics is e = subst
      (λ p. generics_meant (types_at program d.place p) (heads_of program) generics ≡ Are its_generics) is e

  -- one that stands in a body
  pub typed_here : (place : Pos) (generics : List (Constrained Bytes)) (h : Header Bytes)
      (block : PlainStatements) (stop : Pos) → d.says ≡ function_body place generics h block stop
      → FunctionIsTyped program noted body call.0 meant.target h.name.name (type_names (written_params generics))
  typed_here place generics h block stop says = by (stands_in program meant.target.at d meant.found)
    where
      means : generics_meant (types_at program d.place d.part) (heads_of program) generics ≡ Are its_generics
      means = called_generics program d h
          (generics_meant (types_at program d.place d.part) (heads_of program) generics)
          meant.is_good.good.called
          (subst (λ x. declared_callable program d meant.target.at meant.target.name x
          ≡ Some meant.is_good.good.called) says meant.has)

      by : (m : ModuleParts) × (slice_get program meant.target.at.«module» ≡ Some m)
          × (IsThere meant.target.at.«module» Interface (declarations_in m.interface) d
          ⊎ IsThere meant.target.at.«module» Body (declarations_in m.body) d)
          → FunctionIsTyped program noted body call.0 meant.target h.name.name (type_names (written_params generics))
      by (m, is, inl its) =
          absurd (true≢false (sym (parts meant.target.at d meant.found)
          ∙ ap (λ p. formed_declaration p d.says) its.1 ∙ ap (formed_declaration Interface) says))
      by (m, is, inr its) =
          let has = body_here program noted derived.erased meant.target d meant.found m
          (ap (slice_get program) its.0 ∙ is) its.1 its.2 (ap function_written says) in
          typed_with h.name.name generics has.0 has.1
          (bounds_here program has.0 d.place has.2 generics its_generics (has.3 ∙ ap generics_written says)
          (meant_at Body generics its.1 means))
          (params_written (types_at program d.place d.part) (heads_of program) generics its_generics means)

  -- one that is promised
  pub typed_promised : (place : Pos) (generics : List (Constrained Bytes)) (h : Header Bytes) →
      d.says ≡ function place generics h
      → FunctionIsTyped program noted body call.0 meant.target h.name.name (type_names (written_params generics))
  typed_promised place generics h says = by (stands_in program meant.target.at d meant.found)
    where
      means : generics_meant (types_at program d.place d.part) (heads_of program) generics ≡ Are its_generics
      means = called_generics program d h
          (generics_meant (types_at program d.place d.part) (heads_of program) generics)
          meant.is_good.good.called
          (subst (λ x. declared_callable program d meant.target.at meant.target.name x
          ≡ Some meant.is_good.good.called) says meant.has)

      defined : (m : ModuleParts) → slice_get program meant.target.at.«module» ≡ Some m →
          IsThere meant.target.at.«module» Interface (declarations_in m.interface) d
          → (interface : Option Entry) → m.interface ≡ interface → (its_body : Option Entry) → m.body ≡ its_body
          → FunctionIsTyped program noted body call.0 meant.target h.name.name (type_names (written_params generics))
      defined m is its None none other same =
          absurd (none-some d.says (sym (ap (λ o. slice_get (declarations_in o) d.index) none) ∙ its.2))
      defined m is its (Some interface) of_interface None none =
          let shipped = is_shipped meant.target.at d m meant.found is none place generics h says in
          function_is_shipped shipped.0 shipped.1
      defined m is its (Some interface) of_interface (Some entry) of_body =
          let here : slice_get program d.place ≡ Some m = ap (slice_get program) its.0 ∙ is in
          let kept = body_promised program noted derived.erased meant.target d meant.found promises m
          interface entry here of_interface of_body its.1
          (listed_at interface.tree.declarations d.index d.says
          (sym (ap (λ o. slice_get (declarations_in o) d.index) of_interface) ∙ its.2)) place generics h
          says in
          let has = kept.1 in
          typed_with h.name.name generics has.0 has.1
          (bounds_promised program has.0 d.place has.2 m generics kept.0 its_generics here has.3 kept.2
          (meant_at Interface generics its.1 means)
          (misfit_none program noted declared derived meant.target has.0 has.1))
          (params_written (types_at program d.place d.part) (heads_of program) generics its_generics means)

      by : (m : ModuleParts) × (slice_get program meant.target.at.«module» ≡ Some m)
          × (IsThere meant.target.at.«module» Interface (declarations_in m.interface) d
          ⊎ IsThere meant.target.at.«module» Body (declarations_in m.body) d)
          → FunctionIsTyped program noted body call.0 meant.target h.name.name (type_names (written_params generics))
      by (m, is, inl its) = defined m is its m.interface refl m.body refl
      by (m, is, inr its) =
          absurd (true≢false (sym (parts meant.target.at d meant.found)
          ∙ ap (λ p. formed_declaration p d.says) its.1 ∙ ap (formed_declaration Body) says))
