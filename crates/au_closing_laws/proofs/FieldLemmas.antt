-- The fields of a type that stands over type parameters stand over them.
use Rattle.std.proofs.Common.{◌≡◌, ◌⊎◌, inl, inr, ℕ, Bool, true, false, cond, true≢false, List, [], ◌∷◌}
use Rattle.std.proofs.Common.{map, find, Option, None, Some, refl, sym, ap, ◌∙◌, subst}
use Rattle.std.specs.Prelude.{slice_get}
use Rattle.std.specs.Str.{bytes_eq}
use Rattle.std.proofs.lemmas.Bool.{and_parts}
use Rattle.std.proofs.lemmas.Option.{none-some, same_Some}
use Rattle.std.proofs.lemmas.Slice.Eq.{bytes_eq-Decides}
use Rattle.au_base.proofs.OptionLemmas.{map_some}
use Rattle.au_syntax.specs.declared.declarations.Universe.{Universe}
use Rattle.au_syntax.specs.declared.modules.Part.TheVariants.{Interface, Body}
use Rattle.au_syntax.specs.Forms.{formed_declaration}
use Rattle.au_syntax.specs.Modules.{InUniverse, opaque_type, record_type, union_type}
use Rattle.au_syntax.specs.Plain.{Bytes, PlainDeclaration}
use Rattle.au_types.specs.declared.headings.Head.{Head}
use Rattle.au_types.specs.declared.parameters.Parameter.{Parameter}
use Rattle.au_types.specs.declared.types.DeclAt.{DeclAt}
use Rattle.au_types.specs.Rows.{head_of}
use Rattle.au_types.specs.Types.{Argument, Arguments}
use Rattle.au_types.specs.Types.{named, no_arguments, arguments}
use Rattle.au_types.specs.Universes.{universe_in}
use Rattle.au_matching.specs.Bindings.{value_of}
use Rattle.au_matching.proofs.BindingLemmas.{value_of-with}
use Rattle.au_matching.specs.Fitting.{stand_in}
use Rattle.au_matching.specs.Forming.{StandsOver, all_fit, all_formed, argument_formed, fit_row, fits_in_kind}
use Rattle.au_matching.specs.Forming.{is_formed}
use Rattle.au_matching.proofs.SubstitutingFormedLemmas.{standing_kept}
use Rattle.au_judged_types.specs.Meanings.{parameter}
use Rattle.au_modules.specs.Programs.{Entry, ModuleParts}
use Rattle.au_names.specs.DeclaredTypes.{DeclaredType, a_type, type_declared}
use Rattle.au_names.specs.HeadsOf.{heads_of}
use Rattle.au_names.specs.Owned.{declarations_in}
use Rattle.au_names.specs.Standing.{Standing, body_at, defined_by, definition_for, definition_of, is_whole}
use Rattle.au_names.specs.Standing.{opaque_name, standing_at, standing_from}
use Rattle.au_promises.specs.Agreeing.{Sight, sight_of}
use Rattle.au_promises.specs.Fulfilled.{Agrees, Each, OfHeading, SameParameter}
use Rattle.au_imports.specs.Good.{IsGood}
use Rattle.au_imports.proofs.OpaqueLemmas.{opaque_defined}
use Rattle.au_typing.specs.Scopes.{Typed}
use Rattle.au_typing.specs.Insides.{fields_defined, is_known, known_definition, known_standing}
use Rattle.au_typing.specs.Insides.{record_fields, typed_under, with_arguments}
use Rattle.au_typing.specs.Written.{all_typed}
use Rattle.au_closing_laws.specs.Premises.{AreOfParts}
use Rattle.au_closing_laws.specs.Standing.{EachStand, FieldsStand}
use Rattle.au_closing_laws.proofs.DefinitionLemmas.{IsThere, stands_in}
use Rattle.au_closing_laws.proofs.HeadLemmas.{Declares, row_stands}
use Rattle.au_closing_laws.proofs.OutsideStandLemmas.{typed_stand}

-- ---- arguments for type parameters

module _ (heads : List (DeclAt × Head)) (params : List Parameter) where
  -- what stands for a type parameter is of its kind and stands
  abbrev Suits : Universe → List ℕ → Option Argument → Type 0
  Suits universe name o = (fits_in_kind universe (stand_in o universe name) ≡ true)
      × (argument_formed fits_in_kind heads params (stand_in o universe name) ≡ true)

  arguments_suit : (ps : List Parameter) (args : Arguments) → all_fit fits_in_kind ps args ≡ true →
      all_formed fits_in_kind heads params args ≡ true
      → (name : List ℕ) (universe : Universe) → universe_in ps name ≡ Some universe →
      Suits universe name (value_of name (with_arguments ps args))
  unfolding all_formed
  arguments_suit [] args fit formed name universe e = absurd (none-some universe e)
  arguments_suit (p ∷ ps) no_arguments fit formed name universe e = absurd (true≢false (sym fit))
  arguments_suit (p ∷ ps) (arguments one rest) fit formed name universe e =
      let fits = and_parts (fits_in_kind p.universe one) (all_fit fits_in_kind ps rest) fit in
      let forms = and_parts (argument_formed fits_in_kind heads params one)
      (all_formed fits_in_kind heads params rest) formed in
      subst (Suits universe name) (sym (value_of-with name p.name one (with_arguments ps rest)))
      (by (bytes_eq p.name name) refl (bytes_eq name p.name) refl e fits.0 forms.0
      (arguments_suit ps rest fits.1 forms.1 name universe))
    where
      by : (a : Bool) → bytes_eq p.name name ≡ a → (b : Bool) → bytes_eq name p.name ≡ b →
          cond a (Some p.universe) (universe_in ps name) ≡ Some universe
          → fits_in_kind p.universe one ≡ true → argument_formed fits_in_kind heads params one ≡ true
          → (universe_in ps name ≡ Some universe → Suits universe name (value_of name (with_arguments ps rest)))
          → Suits universe name (cond b (Some one) (value_of name (with_arguments ps rest)))
      by true same true also e fits forms later =
          (subst (λ u. fits_in_kind u one ≡ true) (same_Some p.universe universe e) fits, forms)
      by false same false also e fits forms later = later e
      by true same false also e fits forms later =
          absurd (true≢false (sym ((bytes_eq-Decides name p.name).1
          (sym ((bytes_eq-Decides p.name name).0 same))) ∙ also))
      by false same true also e fits forms later =
          absurd (true≢false (sym ((bytes_eq-Decides p.name name).1
          (sym ((bytes_eq-Decides name p.name).0 also))) ∙ same))

  under_stand : (ps : List Parameter) (args : Arguments) → all_fit fits_in_kind ps args ≡ true →
      all_formed fits_in_kind heads params args ≡ true → (fields : List Typed) → EachStand heads ps fields
      → EachStand heads params (map (typed_under (with_arguments ps args)) fields)
  under_stand ps args fit formed [] each = tt
  under_stand ps args fit formed (one ∷ rest) each = (
    standing_kept heads ps params (with_arguments ps args) one.of (arguments_suit ps args fit formed)
        each.0,
    under_stand ps args fit formed rest each.1,
  )

-- ---- definitions have the type parameters of their rows

params_same : (ps qs : List (InUniverse Bytes)) → Each SameParameter ps qs → map parameter ps ≡ map parameter qs
params_same [] [] same = refl
params_same (p ∷ ps) (q ∷ qs) same =
    ap (λ n. record { name = n; universe = p.universe } ∷ map parameter ps) same.0.0
    ∙ ap (λ u. record { name = q.name.name; universe = u } ∷ map parameter ps) same.0.1
    ∙ ap (λ rest. parameter q ∷ rest) (params_same ps qs same.1)
params_same [] (q ∷ qs) same = absurd same
params_same (p ∷ ps) [] same = absurd same

defined_same : (sight : Sight) (ps : List (InUniverse Bytes)) (universe : Universe) (says : PlainDeclaration)
    (one : DeclaredType) → OfHeading sight ps universe says
    → type_declared says ≡ Some one → map parameter ps ≡ map parameter one.parameters
defined_same sight ps universe (record_type at n qs u fields) one agrees e = params_same ps qs agrees.0
    ∙ ap (λ (x : DeclaredType). map parameter x.parameters) (same_Some (a_type false n.name qs u) one e)
defined_same sight ps universe (union_type at n qs u cases) one agrees e = params_same ps qs agrees.0
    ∙ ap (λ (x : DeclaredType). map parameter x.parameters) (same_Some (a_type false n.name qs u) one e)
defined_same sight ps universe other one agrees e = absurd agrees

heading_same : (sight : Sight) (says its : PlainDeclaration) (name : Bytes) (dt one : DeclaredType) →
    opaque_name says ≡ Some name → Agrees sight says its → type_declared says ≡ Some dt →
    type_declared its ≡ Some one
    → map parameter dt.parameters ≡ map parameter one.parameters
heading_same sight (opaque_type at n ps u) its name dt one opaque agrees e f =
    ap (λ (x : DeclaredType). map parameter x.parameters) (sym (same_Some (a_type true n.name ps u) dt e))
    ∙ defined_same sight ps u its one agrees f
heading_same sight other its name dt one opaque agrees e f = absurd (none-some name opaque)

not_in_body : (says : PlainDeclaration) (name : Bytes) → opaque_name says ≡ Some name →
    formed_declaration Body says ≡ true → ⊥
not_in_body (opaque_type at n ps u) name opaque formed = true≢false (sym formed)
not_in_body other name opaque formed = none-some name opaque

module _ (program : List ModuleParts) (parts : AreOfParts program) (good : IsGood program) where
  pub params_agree : (at : DeclAt) (d : Standing) → definition_of program at ≡ Some d → (head : Head) →
      head_of (heads_of program) at ≡ Some head → (one : DeclaredType) → type_declared d.says ≡ Some one
      → head.params ≡ map parameter one.parameters
  unfolding standing_from
  params_agree at d defined head e one f = by_row (row_stands program at head e)
    where
      by_row : (s : Standing) × (standing_at program at ≡ Some s) × Declares s.says head →
          head.params ≡ map parameter one.parameters
      by_row (s, found, (dt, declared, same)) = same ∙ by (opaque_name s.says) refl
        where
          defined_so : defined_by (body_at s.place (slice_get program s.place)) s (opaque_name s.says) ≡ Some d
          defined_so = sym (ap (definition_for program) found) ∙ defined

          promised : (name : Bytes) → opaque_name s.says ≡ Some name → (m : ModuleParts) →
              slice_get program at.«module» ≡ Some m →
              IsThere at.«module» Interface (declarations_in m.interface) s
              → (interface : Option Entry) → m.interface ≡ interface → (body : Option Entry) → m.body ≡ body →
              map parameter dt.parameters ≡ map parameter one.parameters
          promised name opaque m is its None none body same =
              absurd (none-some s.says (sym (ap (λ o. slice_get (declarations_in o) s.index) none) ∙ its.2))
          promised name opaque m is its (Some interface) of_interface None none = absurd (none-some d nothing)
            where
              nothing : None ≡ Some d
              nothing = sym (ap (λ n. defined_by (body_at n (slice_get program n)) s (opaque_name s.says))
                  its.0 ∙ ap (λ o. defined_by (body_at at.«module» o) s (opaque_name s.says)) is
                  ∙ ap (λ o. defined_by (body_at at.«module» (Some m)) s o) opaque
                  ∙ ap (λ o. find (is_whole name) (standing_from at.«module» Body 0 (declarations_in o)))
                  none) ∙ defined_so
          promised name opaque m is its (Some interface) of_interface (Some body) of_body =
              let kept = opaque_defined program at m interface body s name good is of_interface of_body found
              its.1 opaque in
              let same = same_Some kept.0 d (sym kept.1 ∙ defined) in
              heading_same (sight_of program at.«module» m) s.says d.says name dt one opaque
              (subst (λ (x : Standing). Agrees (sight_of program at.«module» m) s.says x.says) same kept.2)
              declared f

          by : (o : Option Bytes) → opaque_name s.says ≡ o → map parameter dt.parameters ≡ map parameter one.parameters
          by None is =
              let same = same_Some s d (sym (ap (defined_by (body_at s.place (slice_get program s.place)) s)
              is) ∙ defined_so) in
              ap (λ (x : DeclaredType). map parameter x.parameters)
              (same_Some dt one (sym declared ∙ ap (λ (x : Standing). type_declared x.says) same ∙ f))
          by (Some name) is = in_part (stands_in program at s found)
            where
              in_part : (m : ModuleParts) × (slice_get program at.«module» ≡ Some m)
                  × (IsThere at.«module» Interface (declarations_in m.interface) s
                  ⊎ IsThere at.«module» Body (declarations_in m.body) s)
                  → map parameter dt.parameters ≡ map parameter one.parameters
              in_part (m, here, inl its) = promised name is m here its m.interface refl m.body refl
              in_part (m, here, inr its) = absurd
                  (not_in_body s.says name is (subst (λ p. formed_declaration p s.says ≡ true) its.1
                  (parts at s found)))

  known_defined : (place : ℕ) (at : DeclAt) (o : Option Standing) (d : Standing) →
      known_standing program place at o ≡ Some d → definition_of program at ≡ Some d
  known_defined place at None d e = absurd (none-some d e)
  known_defined place at (Some s) d e = by (is_known place s) e
    where
      by : (b : Bool) → cond b (definition_of program at) None ≡ Some d → definition_of program at ≡ Some d
      by true e = e
      by false e = absurd (none-some d e)

  record_stand : (at : DeclAt) (args : Arguments) (params : List Parameter) (d : Standing) →
      definition_of program at ≡ Some d → StandsOver (heads_of program) params (named at args)
      → (says : PlainDeclaration) → d.says ≡ says → (fields : List Typed) → record_fields program d args says
      ≡ Some fields → EachStand (heads_of program) params fields
  unfolding is_formed
  record_stand at args params d defined whole (record_type p n ps u written) is fields e =
      by (head_of (heads_of program) at) refl whole_parts.0
    where
      whole_parts : (fit_row fits_in_kind (head_of (heads_of program) at) args ≡ true)
          × (all_formed fits_in_kind (heads_of program) params args ≡ true)
      whole_parts = and_parts (fit_row fits_in_kind (head_of (heads_of program) at) args)
          (all_formed fits_in_kind (heads_of program) params args) whole

      by : (o : Option Head) → head_of (heads_of program) at ≡ o → fit_row fits_in_kind o args ≡ true →
          EachStand (heads_of program) params fields
      by None has fit = absurd (true≢false (sym fit))
      by (Some head) has fit =
          let same = params_agree at d defined head has (a_type false n.name ps u) (ap type_declared is) in
          let its = map_some (map (typed_under (with_arguments (map parameter ps) args)))
          (all_typed program d (map parameter ps) written) fields e in
          subst (EachStand (heads_of program) params) its.2
          (under_stand (heads_of program) params (map parameter ps) args
          (subst (λ qs. all_fit fits_in_kind qs args ≡ true) same fit) whole_parts.1 its.0
          (typed_stand program d (map parameter ps) written its.0 its.1))
  record_stand at args params d defined whole other is fields e = absurd (none-some fields e)

  pub fields_hold : FieldsStand program
  fields_hold place params (named at args) fields e whole = by (known_definition program place at) refl e
    where
      by : (o : Option Standing) → known_definition program place at ≡ o → fields_defined program args o
          ≡ Some fields → EachStand (heads_of program) params fields
      by None is e = absurd (none-some fields e)
      by (Some d) is e = record_stand at args params d (known_defined place at (standing_at program at) d is)
          whole d.says refl fields e
  fields_hold place params other fields e whole = absurd (none-some fields e)
