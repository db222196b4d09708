-- What is seen outside of functions is known, in a program of which the declarations fit.
use Rattle.std.proofs.Common.{◌≡◌, ◌⊎◌, inl, inr, ℕ, Bool, true, false, true≢false, cond, List, [], ◌∷◌, ◌++◌, map, find}
use Rattle.std.proofs.Common.{flat_map, Option, None, Some, refl, sym, ap, ◌∙◌, subst}
use Rattle.std.specs.Prelude.{Contains, is_some}
use Rattle.std.proofs.lemmas.Bool.{and_parts}
use Rattle.std.proofs.lemmas.List.Elements.{Contains-append_left, Contains-append_right}
use Rattle.std.proofs.lemmas.Option.{none-some, same_Some}
use Rattle.au_base.proofs.ListLemmas.{Contains-cases, Contains-first, Contains-rest, nothing_there}
use Rattle.au_base.proofs.OptionLemmas.{map_some}
use Rattle.au_syntax.specs.declared.declarations.Universe.{Universe}
use Rattle.au_syntax.specs.declared.declarations.Universe.TheVariants as universes
use Rattle.au_syntax.specs.declared.modules.Part.{Part}
use Rattle.au_syntax.specs.Modules.{Constrained, Header, Variant, constant, opaque_type, record_type}
use Rattle.au_syntax.specs.Modules.{union_type, function, class, instance, constant_body, function_body}
use Rattle.au_syntax.specs.Modules.{instance_body}
use Rattle.au_syntax.specs.Plain.{Bytes, PlainDeclaration}
use Rattle.au_syntax.specs.Types.{Labelled, WrittenType}
use Rattle.au_types.specs.declared.spaces.Space.TheVariants.{Values, Callables}
use Rattle.au_types.specs.Tables as tables
use Rattle.au_types.specs.declared.headings.Head.{Head}
use Rattle.au_types.specs.declared.parameters.Parameter.{Parameter}
use Rattle.au_types.specs.declared.types.DeclAt.{DeclAt}
use Rattle.au_types.specs.Rows.{head_of}
use Rattle.au_types.specs.Types.{Meaning, Argument, Arguments, named, of_type, in_region, no_arguments, arguments}
use Rattle.au_types.specs.Universes.{universe_in}
use Rattle.au_matching.specs.Bindings.{value_of}
use Rattle.au_matching.specs.Forming.{IsWellFormed, all_fit, all_formed, fit_row, fits, fits_in_kind}
use Rattle.au_matching.specs.Forming.{is_formed}
use Rattle.au_matching.specs.Fitting.{BindingsFit}
use Rattle.au_matching.specs.Substituted.{substituted}
use Rattle.au_matching.specs.Universes.{of_parameter}
use Rattle.au_matching.proofs.LawLemmas.{fits_kind}
use Rattle.au_matching.proofs.SubstitutedLemmas.{each_so}
use Rattle.au_judged_types.specs.declared.reading.Meant.{Meant}
use Rattle.au_judged_types.specs.declared.reading.Meant.TheVariants.{Are, Fails}
use Rattle.au_judged_types.specs.declared.reading.Misfit.{Misfit}
use Rattle.au_judged_types.specs.Bounds.{Bounded, parameters}
use Rattle.au_judged_types.specs.Meanings.{class_meant, first_misfit, generics_meant, judged, parameter, with_classes}
use Rattle.au_judged_types.specs.Meanings.{written_params}
use Rattle.au_modules.specs.Programs.{ModuleParts}
use Rattle.au_names.specs.declared.targets.Target.{Target}
use Rattle.au_names.specs.DeclaredTypes.{a_type, type_declared}
use Rattle.au_names.specs.HeadsOf.{heads_of}
use Rattle.au_names.specs.Standing.{Standing, definition_of, standing_at, whole_name}
use Rattle.au_promises.specs.Mentions.{type_parameters}
use Rattle.au_formed.specs.Good.{IsFormed, IsGoodWriting, IsWellMade}
use Rattle.au_formed.specs.Writings.{Writing, a_universe, case_writings, field_writings, generic_writings}
use Rattle.au_formed.specs.Writings.{header_writings, value_writings}
use Rattle.au_formed.specs.Writings as writing
use Rattle.au_written_types.specs.Written.{IsRegionName, IsTypeName}
use Rattle.au_written_types.proofs.MeantLemmas.{meant_written}
use Rattle.au_typing.specs.Scopes.{Callable, Typed}
use Rattle.au_typing.specs.Called.{by_header, callable, callable_at, callable_standing, case_called}
use Rattle.au_typing.specs.Called.{declared_callable, function_called, is_case, is_method, maker}
use Rattle.au_typing.specs.Called.{method_called, type_itself, unconstrained}
use Rattle.au_typing.specs.Insides.{fields_defined, fields_of, is_known, known_definition, known_standing, record_fields}
use Rattle.au_typing.specs.Insides.{typed_under, with_arguments}
use Rattle.au_typing.specs.Outsides.{constant_at, constant_declared, constant_standing, outside_of}
use Rattle.au_typing.specs.Written.{all_typed, meant_in, seen_at, typed, types_at}
use Rattle.au_typing.proofs.MakerLemmas.{made}
use Rattle.au_tables.specs.Tables.{DefinitionsFit}
use Rattle.au_tables.proofs.ArgumentLemmas.{AllPass, argument_given, arguments_well}
use Rattle.au_tables.proofs.LawfulLemmas.{followed_is}
use Rattle.au_tables.proofs.MadeLemmas.{FieldsAreGood, cases_good}
use Rattle.au_known_types.specs.Known.{EachIsDeclared, EachIsKnown, IsDeclared, IsKnown, IsKnownArgument, OutsideIsKnown}
use Rattle.au_known_types.proofs.KnownLemmas.{AllKnown, RegionThere, TypeThere, first_known, named_parts, rest_known}
use Rattle.au_known_types.proofs.KnownLemmas.{under_known}
use Rattle.au_known_programs.specs.Programs.{DeclarationsFit}

judged_from : (all : List Bounded) (o : Option Misfit) (generics : List Bounded) → judged all o ≡ Are generics
    → all ≡ generics
judged_from all None generics e = cc
judged_from all (Some found) generics e = cc

-- the type parameters that are meant are those that are written
pub meant_parameters : (class_of : Bytes → Option DeclAt) (written : List (Constrained Bytes))
    → parameters (map (with_classes class_of) written) ≡ map (λ (p : Constrained Bytes). parameter p.parameter) written
meant_parameters class_of [] = refl
meant_parameters class_of (p ∷ rest) = ap (λ more. parameter p.parameter ∷ more) (meant_parameters class_of rest)

found_contains : {A : Type 0} (test : A → Bool) (xs : List A) (x : A) → find test xs ≡ Some x → Contains xs x
found_contains test [] x e = absurd (none-some x e)
found_contains {A} test (y ∷ ys) x e = by (test y) e (λ later. found_contains test ys x later)
  where
    by : (b : Bool) → cond b (Some y) (find test ys) ≡ Some x → (find test ys ≡ Some x → Contains ys x)
        → Contains (y ∷ ys) x
    by true e later = subst (λ z. Contains (y ∷ ys) z) (same_Some y x e) (Contains-first y ys)
    by false e later = Contains-rest y ys x (later e)

in_flat : {A B : Type 0} (f : A → List B) (xs : List A) (x : A) (y : B) → Contains xs x → Contains (f x) y
    → Contains (flat_map f xs) y
in_flat f [] x y there c = absurd (nothing_there x there)
in_flat {A} {B} f (z ∷ zs) x y there c =
    by (Contains-cases z zs x there) (λ later. in_flat f zs x y later c)
  where
    by : (z ≡ x) ⊎ Contains zs x → (Contains zs x → Contains (flat_map f zs) y) → Contains (f z ++ flat_map f zs) y
    by (inl is) later =
        Contains-append_left (f z) (flat_map f zs) y (subst (λ (v : A). Contains (f v) y) (sym is) c)
    by (inr behind) later = Contains-append_right (f z) (flat_map f zs) y (later behind)

module _ (program : List ModuleParts) where
  abbrev heads : List (DeclAt × Head)
  heads = heads_of program

  -- ---- what is written in a declaration

  module _ (d : Standing) (params : List Parameter) where
    abbrev visible : List (Bytes × DeclAt)
    visible = types_at program d.place d.part

    -- what is well formed where it is written is declared
    formed_declared : (w : WrittenType) (t : Meaning) → IsFormed visible heads params w
        → meant_in program d params w ≡ Some t → IsDeclared heads params t
    formed_declared w t formed e = (
      subst (IsWellFormed heads params) (same_Some formed.0 t (sym formed.1 ∙ e)) formed.2,
      meant_written [] params visible heads w t e,
    )

    abbrev AreGood : List Writing → Type 0
    AreGood ws = (w : Writing) → Contains ws w → IsGoodWriting visible heads params w

    abbrev pub EachFormed : List (Labelled Bytes) → Type 0
    EachFormed [] = Unit {0}
    EachFormed (one ∷ rest) = IsFormed visible heads params one.of × EachFormed rest

    pub written_formed : (fields : List (Labelled Bytes)) → AreGood (field_writings fields) → EachFormed fields
    written_formed [] good = tt
    written_formed (one ∷ rest) good = (
      good (writing.a_type one.of) (Contains-first (writing.a_type one.of) (field_writings rest)),
      written_formed rest (λ w c. good w (Contains-rest (writing.a_type one.of) (field_writings rest) w c)),
    )

    pub fields_declared : (fields : List (Labelled Bytes)) (out : List Typed) → EachFormed fields
        → all_typed program d params fields ≡ Some out → EachIsDeclared heads params out
    fields_declared [] out formed e = subst (EachIsDeclared heads params) (same_Some [] out e) tt
    fields_declared (one ∷ rest) out formed e =
        on (followed_is (typed program d params one) (all_typed program d params rest) out e)
        (λ others its. fields_declared rest others formed.1 its)
      where
        on : (x : Typed) × (others : List Typed) × (typed program d params one ≡ Some x)
            × (all_typed program d params rest ≡ Some others) × (x ∷ others ≡ out)
            → ((others : List Typed) → all_typed program d params rest ≡ Some others
            → EachIsDeclared heads params others) → EachIsDeclared heads params out
        on (x, others, is, its, all) later =
            let from = map_some (λ t. record { name = one.name.name; of = t }) (meant_in program d params one.of) x is in
            subst (EachIsDeclared heads params) all (
              subst (IsDeclared heads params) (ap (λ (y : Typed). y.of) from.2)
                  (formed_declared one.of from.0 formed.0 from.1),
              later others its,
            )

  -- ---- what is called

  abbrev CallableIsDeclared : Callable → Type 0
  CallableIsDeclared c =
      EachIsDeclared heads (parameters c.generics) c.parameters × IsDeclared heads (parameters c.generics) c.result

  callable_declared : (generics : List Bounded) (of : Option (Bytes × DeclAt)) (given : Option (List Typed))
      (result : Option Meaning) (c : Callable) → callable generics of given result ≡ Some c
      → ((out : List Typed) → given ≡ Some out → EachIsDeclared heads (parameters generics) out)
      → ((t : Meaning) → result ≡ Some t → IsDeclared heads (parameters generics) t) → CallableIsDeclared c
  callable_declared generics of (Some given) (Some result) c e takes gives =
      subst CallableIsDeclared (same_Some
      (record { generics = generics; parameters = given; result = result; class = of }) c e)
      (takes given refl, gives result refl)
  callable_declared generics of None result c e takes gives = absurd (none-some c e)
  callable_declared generics of (Some given) None c e takes gives = absurd (none-some c e)

  module _ (d : Standing) where
    -- by a header whose writings are good over these type parameters
    header_declared : (generics : List Bounded) (params : List Parameter) → parameters generics ≡ params
        → (of : Option (Bytes × DeclAt)) (h : Header Bytes) (c : Callable) → AreGood d params (header_writings h)
        → by_header program d generics of h ≡ Some c → CallableIsDeclared c
    header_declared generics params same of h c good e =
        callable_declared generics of (all_typed program d (parameters generics) h.parameters)
        (meant_in program d (parameters generics) h.result) c e
        (λ out is. fields_declared d (parameters generics) h.parameters out
        (written_formed d (parameters generics) h.parameters
        (λ w there. its w (Contains-append_left (field_writings h.parameters) (writing.a_type h.result ∷ []) w there))) is)
        (λ t is. formed_declared d (parameters generics) h.result t
        (its (writing.a_type h.result)
        (Contains-append_right (field_writings h.parameters) (writing.a_type h.result ∷ []) (writing.a_type h.result)
        (Contains-first (writing.a_type h.result) []))) is)
      where
        its : AreGood d (parameters generics) (header_writings h)
        its = subst (λ ps. AreGood d ps (header_writings h)) (sym same) good

    function_declared : (generics : List (Constrained Bytes)) (h : Header Bytes) (c : Callable)
        → AreGood d (map (λ (p : Constrained Bytes). parameter p.parameter) generics)
        (flat_map generic_writings generics ++ header_writings h)
        → (o : Meant) → generics_meant (types_at program d.place d.part) heads generics ≡ o
        → function_called program d h o ≡ Some c → CallableIsDeclared c
    function_declared generics h c good (Fails misfit) is e = absurd (none-some c e)
    function_declared generics h c good (Are all) is e =
        let class_of = class_meant (written_params generics) (types_at program d.place d.part) heads in
        let from = judged_from (map (with_classes class_of) generics) (first_misfit class_of generics) all is in
        header_declared all (map (λ (p : Constrained Bytes). parameter p.parameter) generics)
        (ap parameters (sym from) ∙ meant_parameters class_of generics) None h c
        (λ w there. good w (Contains-append_right (flat_map generic_writings generics) (header_writings h) w there)) e

    method_declared : (at : DeclAt) (p : Parameter) (o : Option (Header Bytes)) (c : Callable)
        → ((h : Header Bytes) → o ≡ Some h → AreGood d (p ∷ []) (header_writings h))
        → method_called program d at p o ≡ Some c → CallableIsDeclared c
    method_declared at p None c good e = absurd (none-some c e)
    method_declared at p (Some h) c good e =
        header_declared (unconstrained p ∷ []) (p ∷ []) refl (Some (p.name, at)) h c (good h refl) e

    module _ (own : DeclarationsFit program) (at : DeclAt) (there : standing_at program at ≡ Some d) where
      maker_declared : (name : Bytes) (params : List Parameter) (fields : List (Labelled Bytes)) (c : Callable)
          → maker program d name params fields ≡ Some c → EachFormed d params fields
          → ((t : Meaning) → type_itself program d.place name params ≡ Some t → IsDeclared heads params t)
          → CallableIsDeclared c
      maker_declared name params fields c e formed itself =
          let its = made program d name params fields c e in
          subst (λ ps. EachIsDeclared heads ps c.parameters × IsDeclared heads ps c.result) (sym its.0) (
            fields_declared d params fields c.parameters formed
                (subst (λ ps. all_typed program d ps fields ≡ Some c.parameters) its.0 its.1.given),
            itself c.result (subst (λ ps. type_itself program d.place name ps ≡ Some c.result) its.0 its.1.result),
          )

      declared_called : (target : Target) (c : Callable) (says : PlainDeclaration) → d.says ≡ says
          → IsWellMade (types_at program d.place d.part) heads says
          → declared_callable program d target.at target.name says ≡ Some c → CallableIsDeclared c
      declared_called target c (function place generics h) is made e =
          function_declared generics h c made.written
          (generics_meant (types_at program d.place d.part) heads generics) refl e
      declared_called target c (function_body place generics h body stop) is made e =
          function_declared generics h c made.written
          (generics_meant (types_at program d.place d.part) heads generics) refl e
      declared_called target c (class place name p methods) is made e =
          method_declared target.at (parameter p) (find (is_method target.name) methods) c
          (λ h its w there. made.written w
          (Contains-rest (a_universe p.name.at p.universe) (flat_map header_writings methods) w
          (in_flat header_writings methods h w (found_contains (is_method target.name) methods h its) there))) e
      declared_called target c (record_type place name params universe fields) is made e =
          maker_declared name.name (map parameter params) fields c e
          (written_formed d (map parameter params) fields
          (λ w there. made.written w (Contains-rest (a_universe place universe) (field_writings fields) w there)))
          (λ t itself. own.own at d name.name (a_type false name.name params universe) t there (ap whole_name is)
          (ap type_declared is) itself)
      declared_called target c (union_type place name params universe cases) is made e =
          by (find (is_case target.name) cases) refl e
        where
          by : (o : Option (Variant Bytes)) → find (is_case target.name) cases ≡ o
              → case_called program d name.name (map parameter params) o ≡ Some c → CallableIsDeclared c
          by None its e = absurd (none-some c e)
          by (Some v) its e =
              maker_declared name.name (map parameter params) v.fields c e
              (written_formed d (map parameter params) v.fields
              (λ w there. made.written w
              (Contains-rest (a_universe place universe) (flat_map case_writings cases) w
              (in_flat case_writings cases v w (found_contains (is_case target.name) cases v its) there))))
              (λ t itself. own.own at d name.name (a_type false name.name params universe) t there
              (ap whole_name is) (ap type_declared is) itself)
      declared_called target c (constant at n t) is made e = absurd (none-some c e)
      declared_called target c (opaque_type at n ps u) is made e = absurd (none-some c e)
      declared_called target c (instance at gs n t) is made e = absurd (none-some c e)
      declared_called target c (constant_body at n t v) is made e = absurd (none-some c e)
      declared_called target c (instance_body at gs n t ms) is made e = absurd (none-some c e)

    -- ---- constants

    constant_known : (says : PlainDeclaration) (t : Meaning) → IsWellMade (types_at program d.place d.part) heads says
        → constant_declared program d says ≡ Some t → IsDeclared heads [] t
    constant_known (constant at n w) t made e =
        formed_declared d [] w t (made.written (writing.a_type w) (Contains-first (writing.a_type w) [])) e
    constant_known (constant_body at n w v) t made e =
        formed_declared d [] w t
        (made.written (writing.a_type w) (Contains-first (writing.a_type w) (value_writings v))) e
    constant_known (opaque_type at n ps u) t made e = absurd (none-some t e)
    constant_known (record_type at n ps u fields) t made e = absurd (none-some t e)
    constant_known (union_type at n ps u cases) t made e = absurd (none-some t e)
    constant_known (function at gs h) t made e = absurd (none-some t e)
    constant_known (class at n p hs) t made e = absurd (none-some t e)
    constant_known (instance at gs n w) t made e = absurd (none-some t e)
    constant_known (function_body at gs h b stop) t made e = absurd (none-some t e)
    constant_known (instance_body at gs n w ms) t made e = absurd (none-some t e)

  called_known : DeclarationsFit program → (o : Option Target) (c : Callable) → callable_at program o ≡ Some c
      → CallableIsDeclared c
  called_known own None c e = absurd (none-some c e)
  called_known own (Some target) c e = by (standing_at program target.at) refl e
    where
      by : (o : Option Standing) → standing_at program target.at ≡ o → callable_standing program target o ≡ Some c
          → CallableIsDeclared c
      by None is e = absurd (none-some c e)
      by (Some d) is e = declared_called d own target.at is target c d.says refl (own.made target.at d is) e

  constants_known : DeclarationsFit program → (o : Option Target) (t : Meaning) → constant_at program o ≡ Some t
      → IsDeclared heads [] t
  constants_known own None t e = absurd (none-some t e)
  constants_known own (Some target) t e = by (standing_at program target.at) refl e
    where
      by : (o : Option Standing) → standing_at program target.at ≡ o → constant_standing program o ≡ Some t
          → IsDeclared heads [] t
      by None is e = absurd (none-some t e)
      by (Some d) is e = constant_known d d.says t (own.made target.at d is) e

  -- ---- fields

  module _ (params : List Parameter) (regions : List Bytes) where
    abbrev Known : Meaning → Type 0
    Known t = IsKnown heads params regions t

    abbrev ArgumentKnown : Argument → Type 0
    ArgumentKnown one = IsKnownArgument heads params regions one

    each_known : (args : Arguments) → AllKnown heads params regions args
        → AllPass (fits heads params) ArgumentKnown args
    each_known no_arguments all = tt
    each_known (arguments one rest) all =
        (first_known heads params regions one rest all, each_known rest (rest_known heads params regions one rest all))

    module _ (ps : List Parameter) (args : Arguments) (fit : all_fit (fits heads params) ps args ≡ true)
        (all : AllKnown heads params regions args) where
      fitting : BindingsFit heads ps params (with_arguments ps args)
      fitting name universe e = (arguments_well heads params ps args fit all.0 name universe e).0

      type_in : (universe : Universe) (value : Argument) (name : List ℕ)
          → is_some (of_parameter (Some universe)) ≡ true → fits_in_kind universe value ≡ true → ArgumentKnown value
          → value_of name (with_arguments ps args) ≡ Some value
          → TypeThere heads params regions ps (with_arguments ps args) fitting name
      type_in universe (of_type t) name some kind known is = (t, is, known)
      type_in universes.Free (in_region r) name some kind known is = absurd (true≢false (sym kind))
      type_in universes.Linear (in_region r) name some kind known is = absurd (true≢false (sym kind))
      type_in universes.AnyType (in_region r) name some kind known is = absurd (true≢false (sym kind))
      type_in universes.Region (in_region r) name some kind known is = absurd (true≢false (sym some))

      region_in : (value : Argument) (name : List ℕ) → fits_in_kind universes.Region value ≡ true
          → ArgumentKnown value → value_of name (with_arguments ps args) ≡ Some value
          → RegionThere heads params regions ps (with_arguments ps args) fitting name
      region_in (in_region r) name kind known is = (r, is, known)
      region_in (of_type t) name kind known is = absurd (true≢false (sym kind))

      types_there : (name : List ℕ) → IsTypeName ps name
          → TypeThere heads params regions ps (with_arguments ps args) fitting name
      types_there name some = by (universe_in ps name) refl some
        where
          by : (o : Option Universe) → universe_in ps name ≡ o → is_some (of_parameter o) ≡ true
              → TypeThere heads params regions ps (with_arguments ps args) fitting name
          by None is some = absurd (true≢false (sym some))
          by (Some universe) is some =
              let its = argument_given (fits heads params) ArgumentKnown ps args fit (each_known args all) name universe
              is in
              type_in universe its.0 name some (fits_kind heads params universe its.0 its.2) its.3 its.1

      regions_there : (name : List ℕ) → IsRegionName [] ps name
          → RegionThere heads params regions ps (with_arguments ps args) fitting name
      regions_there name (inl e) = absurd (true≢false (sym e))
      regions_there name (inr e) =
          let its = argument_given (fits heads params) ArgumentKnown ps args fit (each_known args all) name
          universes.Region e in
          region_in its.0 name (fits_kind heads params universes.Region its.0 its.2) its.3 its.1

      field_known : (t : Meaning) → IsDeclared heads ps t → Known (substituted (with_arguments ps args) t)
      field_known t declared =
          under_known heads params regions ps (with_arguments ps args) fitting t declared.0
          (each_so (IsTypeName ps) (TypeThere heads params regions ps (with_arguments ps args) fitting)
          (IsRegionName [] ps) (RegionThere heads params regions ps (with_arguments ps args) fitting) types_there
          regions_there t declared.1.names)

      pub fields_known : (kinds : List Typed) → EachIsDeclared heads ps kinds
          → EachIsKnown heads params regions (map (typed_under (with_arguments ps args)) kinds)
      fields_known [] each = tt
      fields_known (x ∷ rest) each = (field_known x.of each.0, fields_known rest each.1)

    known_defined : (place : ℕ) (at : DeclAt) (o : Option Standing) (d : Standing)
        → known_standing program place at o ≡ Some d → definition_of program at ≡ Some d
    known_defined place at None d e = absurd (none-some d e)
    known_defined place at (Some s) d e = by (is_known place s) e
      where
        by : (b : Bool) → cond b (definition_of program at) None ≡ Some d → definition_of program at ≡ Some d
        by true e = e
        by false e = absurd (none-some d e)

    pub good_formed : (d : Standing) (ps : List Parameter) (universe : Universe) (fields : List (Labelled Bytes))
        → FieldsAreGood (types_at program d.place d.part) heads ps universe fields → EachFormed d ps fields
    good_formed d ps universe [] good = tt
    good_formed d ps universe (one ∷ rest) good = (good.0.0, good_formed d ps universe rest good.1)

    record_known : DefinitionsFit program → (at : DeclAt) (args : Arguments) (d : Standing)
        → definition_of program at ≡ Some d → Known (named at args) → (says : PlainDeclaration) → d.says ≡ says
        → (fields : List Typed) → record_fields program d args says ≡ Some fields
        → EachIsKnown heads params regions fields
    unfolding is_formed
    record_known fit at args d defined whole (record_type p n ps u written) is fields e =
        by (head_of heads at) refl
        (and_parts (fit_row (fits heads params) (head_of heads at) args) (all_formed (fits heads params) heads params args)
        whole.0).0
      where
        by : (o : Option Head) → head_of heads at ≡ o → fit_row (fits heads params) o args ≡ true
            → EachIsKnown heads params regions fields
        by None has fitted = absurd (true≢false (sym fitted))
        by (Some head) has fitted =
            let same : head.params ≡ map parameter ps =
            fit.parameters at d head defined has ∙ ap type_parameters is in
            let its = map_some (map (typed_under (with_arguments (map parameter ps) args)))
            (all_typed program d (map parameter ps) written) fields e in
            let good = cases_good (types_at program d.place d.part) heads (record_type p n ps u written)
            (subst (IsWellMade (types_at program d.place d.part) heads) is (fit.made at d defined)) 0 written refl in
            subst (EachIsKnown heads params regions) its.2
            (fields_known (map parameter ps) args
            (subst (λ qs. all_fit (fits heads params) qs args ≡ true) same fitted)
            (named_parts heads params regions at args whole) its.0
            (fields_declared d (map parameter ps) written its.0
            (good_formed d (map parameter ps) good.0.universe written good.3) its.1))
    record_known fit at args d defined whole other is fields e = absurd (none-some fields e)

    all_known : DefinitionsFit program → (place : ℕ) (t : Meaning) (fields : List Typed)
        → fields_of program place t ≡ Some fields → Known t → EachIsKnown heads params regions fields
    all_known fit place (named at args) fields e whole = by (known_definition program place at) refl e
      where
        by : (o : Option Standing) → known_definition program place at ≡ o → fields_defined program args o ≡ Some fields
            → EachIsKnown heads params regions fields
        by None is e = absurd (none-some fields e)
        by (Some d) is e = record_known fit at args d (known_defined place at (standing_at program at) d is)
            whole d.says refl fields e
    all_known fit place other fields e whole = absurd (none-some fields e)

  pub outside_known : DefinitionsFit program → DeclarationsFit program → (place : ℕ) (part : Part)
      → OutsideIsKnown (outside_of program place part)
  outside_known fit own place part = record {
    constants = λ name t e. constants_known own (tables.find name (seen_at Values program place part)) t e;
    takes = λ name c e. (called_known own (tables.find name (seen_at Callables program place part)) c e).0;
    gives = λ name c e. (called_known own (tables.find name (seen_at Callables program place part)) c e).1;
    fields = λ params regions t fields e whole. all_known params regions fit place t fields e whole;
  }
