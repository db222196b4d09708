-- Calls of methods of classes whose bodies are written in the program.
use Rattle.std.proofs.Common.{◌≡◌, inl, inr, ℕ, Bool, true, false, true≢false, cond, List, [], ◌∷◌, find, Option}
use Rattle.std.proofs.Common.{None, Some, refl, sym, ap, ◌∙◌, subst}
use Rattle.std.specs.Prelude.{Contains, IsTrue, is_some, slice_get, unwrap_or}
use Rattle.std.specs.List.{position_or_len}
use Rattle.std.specs.Option.{option_map}
use Rattle.std.specs.Str.{bytes_eq}
use Rattle.std.proofs.lemmas.List.Folds.{find_at}
use Rattle.std.proofs.lemmas.Option.{none-some, same_Some}
use Rattle.std.proofs.lemmas.Slice.Eq.{bytes_eq-Decides}
use Rattle.au_base.specs.declared.places.Pos.{Pos}
use Rattle.au_base.proofs.OptionLemmas.{map_some}
use Rattle.au_shipped.specs.Calls.{prim_of}
use Rattle.au_syntax.specs.declared.declarations.Universe.{Universe}
use Rattle.au_syntax.specs.declared.declarations.Universe.TheVariants as universes
use Rattle.au_syntax.specs.declared.modules.Part.{Part}
use Rattle.au_syntax.specs.declared.modules.Part.TheVariants.{Body}
use Rattle.au_syntax.specs.Modules.{Header, InUniverse, class}
use Rattle.au_syntax.specs.Names.{Placed}
use Rattle.au_syntax.specs.Plain.{Bytes}
use Rattle.au_syntax.specs.Types.{Labelled, WrittenType}
use Rattle.au_types.specs.declared.headings.Head.{Head}
use Rattle.au_types.specs.declared.parameters.Parameter.{Parameter}
use Rattle.au_types.specs.declared.spaces.Space.TheVariants.{Callables, Types}
use Rattle.au_types.specs.declared.types.DeclAt.{DeclAt}
use Rattle.au_types.specs.Meant.{meant}
use Rattle.au_types.specs.Tables as tables
use Rattle.au_types.specs.Types.{Meaning, of_type, parameter}
use Rattle.au_matching.specs.Bindings.{Bindings, GivesRegion, GivesType, value_of}
use Rattle.au_matching.specs.Forming.{IsWellFormed}
use Rattle.au_matching.specs.Substituted.{Fixes, substituted, type_for}
use Rattle.au_matching.specs.Universes.{of_parameter}
use Rattle.au_matching.proofs.LawLemmas.{well_formed_stands}
use Rattle.au_matching.proofs.SubstitutedLemmas.{each_so, stays}
use Rattle.au_judged_types.specs.Bounds.{constrains, parameters}
use Rattle.au_judged_types.specs.Meanings.{parameter as parameter_written, written_params}
use Rattle.au_type_texts.specs.Closing.{closed}
use Rattle.au_type_texts.specs.Given.{Given, closed_under}
use Rattle.au_type_texts.specs.Types.{ClosedType}
use Rattle.au_running_types.specs.Running.{argument_running, called as called_at, running}
use Rattle.au_running_types.proofs.NameLemmas.{callees_run, type_alike, type_called}
use Rattle.au_running_types.proofs.UniverseLemmas.{formation_stays}
use Rattle.au_written_types.specs.Written.{IsRegionName, IsTypeName, IsWritten}
use Rattle.au_modules.specs.Programs.{ModuleParts}
use Rattle.au_names.specs.declared.targets.Target.{Target}
use Rattle.au_names.specs.HeadsOf.{heads_of}
use Rattle.au_names.specs.Meanings.{declared_by}
use Rattle.au_names.specs.Standing.{Standing, standing_at}
use Rattle.au_promises.specs.Fulfilled.{Each}
use Rattle.au_instances.specs.Becoming.{Becomes}
use Rattle.au_instances.specs.ClosedInstances.{ClosedInstance, closed_row}
use Rattle.au_instances.specs.Forms.{HasForm}
use Rattle.au_instances.specs.Instances.{Holds, Instance, assumed, by_row, given as given_by_row}
use Rattle.au_instances.specs.Rows.{Row}
use Rattle.au_instances.specs.Tables.{IsTable}
use Rattle.au_instances.proofs.AfterClosingLemmas.{instance_closed}
use Rattle.au_instances.proofs.ClosedLemmas.{closed_row_there}
use Rattle.au_classes.specs.Classes.{ClassText, class_at, class_in, class_standing, visible_at, visible_in}
use Rattle.au_classes.specs.Methods.{SameLabelled}
use Rattle.au_classes.specs.Rows.{rows_of}
use Rattle.au_classes.specs.Signatures.{given as meant_given, wanted}
use Rattle.au_closing_laws.proofs.DefinitionLemmas.{listed_at}
use Rattle.au_closing_laws.proofs.GenericsLemmas.{bounds_meant}
use Rattle.au_closing_laws.proofs.MethodLemmas.{IsSignedIn, MethodStands, methods_stand, stands_here, stands_shipped}
use Rattle.au_closing_laws.proofs.TableLemmas.{good_table}
use Rattle.au_closing_laws.proofs.TypedLemmas.{class_universe}
use Rattle.au_closing_laws.specs.Targets.{bounds_of}
use Rattle.au_judged_bodies.specs.ClosedTrees.ClosedNotes.{instance as instance_led}
use Rattle.au_judged_bodies.specs.TypeNames.{is_region}
use Rattle.au_judged_bodies.specs.Bodies.{BodyOf, body_of}
use Rattle.au_judged_bodies.specs.Called.{declared_callable, is_method, method_called, unconstrained}
use Rattle.au_judged_bodies.specs.Instances.{Instance as InstanceCalled, given_of_row, method_at}
use Rattle.au_judged_bodies.specs.Leading.{a_method, call_leads, called_leads, called_of, called_standing, class_leads}
use Rattle.au_judged_bodies.specs.Leading.{at_type, kind_of, method_called as method_led, method_leads, module_name}
use Rattle.au_judged_bodies.specs.Leading.{shipped_or, target_leads}
use Rattle.au_judged_bodies.specs.Notes.{Note}
use Rattle.au_judged_bodies.specs.Scopes.{Callable, Typed}
use Rattle.au_judged_bodies.specs.Trees.{NotedParts}
use Rattle.au_judged_bodies.specs.Written.{all_typed, meant_in, seen_at, seen_in, typed, types_at}
use Rattle.au_judged_bodies.specs.Tables.{types_of}
use Rattle.au_judged_bodies.specs.Generic.{view_under}
use Rattle.au_owners.specs.Owners.{owner_of}
use Rattle.au_judged_bodies.specs.KnownTypes.Known.{EachIsDeclared, IsDeclared, IsKnown}
use Rattle.au_judged_bodies.proofs.LawfulLemmas.{followed_is}
use Rattle.au_judged_bodies.specs.StandingTypesStanding.{StandsFor}
use Rattle.au_judged_bodies.proofs.StandingTypesStandLemmas.{known_closes}
use Rattle.au_judged_bodies.specs.Callees.{IsPut, RegionsStand}
use Rattle.au_judged_bodies.proofs.CalleeLemmas.{type_usable}
use Rattle.au_judged_bodies.specs.Frames.{IsUsable, TypesAreUsable}
use Rattle.au_judged_bodies.specs.Sights.{CallIsSeen}
use Rattle.au_judged_bodies.specs.Keys.{ConstraintsHold, Key, meant_or_unit, ways, written_running}
use Rattle.au_judged_bodies.proofs.KeyLemmas.{regions_kept, tokens_active, tokens_in, types_kept}
use Rattle.au_judged_bodies.specs.Functions.{BodyRuns, IsDeclaredWell}
use Rattle.au_judged_bodies.proofs.FunctionLemmas.{EachRuns, key_seen, type_taken}
use Rattle.au_judged_programs.specs.CheckedChecked.{IsChecked}
use Rattle.au_judged_programs.proofs.CalledBodiesBodyLemmas.{callable_has}
use Rattle.au_judged_programs.proofs.HoldLemmas.{head_lasts, lasting_alike}
use Rattle.au_judged_programs.proofs.MethodKeyLemmas.{row_regions, row_stands, row_types}

-- ---- what the class says

class_is : (o : Option (List (Bytes × DeclAt))) (pos : Pos) (name : Placed Bytes) (p : InUniverse Bytes)
    (methods : List (Header Bytes)) (its : ClassText) → class_in o (class pos name p methods) ≡ Some its
    → (o ≡ Some its.visible) × (its.parameter ≡ parameter_written p)
class_is None pos name p methods its e = absurd (none-some its e)
class_is (Some names) pos name p methods its e =
    let same = same_Some (record { visible = names; parameter = parameter_written p; methods = methods }) its e in (
      ap (λ (x : ClassText). Some x.visible) same,
      sym (ap (λ (x : ClassText). x.parameter) same),
    )

-- the names that a part sees are those by which its types are read
visible_types : (program : List ModuleParts) (place : ℕ) (part : Part) (names : List (Bytes × DeclAt))
    → visible_at program place part ≡ Some names → names ≡ types_at program place part
visible_types program place part names e = by (slice_get program place) refl
  where
    by : (o : Option ModuleParts) → slice_get program place ≡ o → names ≡ types_at program place part
    by None is = absurd (none-some names (sym (ap (visible_in program place part) is) ∙ e))
    by (Some m) is =
        same_Some names (declared_by (seen_in Types program place part (Some m)))
        (sym e ∙ ap (visible_in program place part) is)
        ∙ ap (λ o. declared_by (seen_in Types program place part o)) (sym is)

is_type_name : (p : Parameter) → is_region p.universe ≡ false → IsTypeName (p ∷ []) p.name
is_type_name p own =
    subst (λ b. is_some (of_parameter (cond b (Some p.universe) None)) ≡ true)
    (sym ((bytes_eq-Decides p.name p.name).1 refl)) (by p.universe own)
  where
    by : (universe : Universe) → is_region universe ≡ false → is_some (of_parameter (Some universe)) ≡ true
    by universes.Free is = refl
    by universes.Linear is = refl
    by universes.AnyType is = refl
    by universes.Region is = absurd (true≢false is)

-- it is the only name over which its methods write types
only_name : (p : Parameter) (name : List ℕ) → IsTypeName (p ∷ []) name → p.name ≡ name
only_name p name is = by (bytes_eq p.name name) refl is
  where
    by : (b : Bool) → bytes_eq p.name name ≡ b → is_some (of_parameter (cond b (Some p.universe) None)) ≡ true
        → p.name ≡ name
    by true same is = (bytes_eq-Decides p.name name).0 same
    by false same is = absurd (true≢false (sym is))

no_region : {P : Type 0} (p : Parameter) → is_region p.universe ≡ false → (name : List ℕ)
    → IsRegionName [] (p ∷ []) name → P
no_region p own name (inl is) = absurd (true≢false (sym is))
no_region {P} p own name (inr is) = by (bytes_eq p.name name) is
  where
    by : (b : Bool) → cond b (Some p.universe) None ≡ Some universes.Region → P
    by true e = absurd (true≢false (sym (ap is_region (same_Some p.universe universes.Region e)) ∙ own))
    by false e = absurd (none-some universes.Region e)

-- ---- the row that gives an instance

module _ (rows : List Row) (heads : List (DeclAt × Head)) where
  -- what a row that gives an instance at a type has
  record IsGiven (class_of : DeclAt) (t : Meaning) (row : Row) : Type 0 where
    q : Bindings
    listed : Contains rows row
    becomes : Becomes heads [] row t q
    met : (name : Bytes) (other : DeclAt) (value : Meaning) → IsTrue (constrains row.generics name other)
        → value_of name q ≡ Some (of_type value) → Holds rows heads [] [] other value

  given_so : (class_of : DeclAt) (t : Meaning) (row : Row) → Instance rows heads [] [] class_of t row
      → IsGiven class_of t row
  given_so class_of t row (by_row one v r q listed of_class becomes met) =
      record { q = q; listed = listed; becomes = becomes; met = met }

  pub row_given : (class_of : DeclAt) (t : Meaning) → Holds rows heads [] [] class_of t
      → (row : Row) × Instance rows heads [] [] class_of t row
  row_given class_of t (assumed one name h) = absurd (true≢false (sym h))
  row_given class_of t (given_by_row one v row instance) = (row, instance)

  -- it gives the instance at the closed type, too
  pub row_closed : IsTable rows → (class_of : DeclAt) (t : Meaning) (row : Row) → Instance rows heads [] [] class_of
      t row
      → IsWellFormed heads [] t → (c : ClosedType) → closed t ≡ Some c → ClosedInstance rows heads class_of c row
  row_closed table class_of t row instance formed c closes =
      instance_closed heads [] [] (λ name universe e. absurd (none-some universe e)) rows [] table
      (λ name other value part known is closes. absurd (true≢false (sym known))) class_of t row instance c
      (well_formed_stands heads [] t formed) (ap closed (stays t) ∙ closes)

-- ---- a call of a method

module _ (program : List ModuleParts) (noted : List NotedParts) (checked : IsChecked program noted) (place : ℕ)
    (params : List Parameter) (regions : List Bytes) (given : Given) (s : Bindings) (z : ℕ) (active : ℕ → Bool)
    (runs : BodyRuns program params regions given s z active) (note : Note) (name : Bytes) (target : Target)
    (d : Standing)
    (called : Callable) (put : Bindings)
    (means : tables.find name (seen_at Callables program place Body) ≡ Some target)
    (found : standing_at program target.at ≡ Some d)
    (has : declared_callable program d target.at target.name d.says ≡ Some called)
    (well : IsDeclaredWell program called)
    (notes : note.call ≡ Some put) (of : note.of ≡ substituted put called.result)
    (puts : IsPut (heads_of program) params regions (parameters called.generics) put) (pos : Pos)
    (class_name : Placed Bytes) (p : InUniverse Bytes) (methods : List (Header Bytes))
    (says : d.says ≡ class pos class_name p methods) (h : Header Bytes)
    (found_h : find (is_method target.name) methods ≡ Some h) where
  abbrev heads : List (DeclAt × Head)
  heads = heads_of program

  abbrev pp : Parameter
  pp = parameter_written p

  abbrev inner : List Parameter
  inner = pp ∷ []

  -- what is called is the method of the class
  its : (called.generics ≡ unconstrained pp ∷ []) × (all_typed program d inner h.parameters ≡ Some called.parameters)
      × (meant_in program d inner h.result ≡ Some called.result)
  its = callable_has (unconstrained pp ∷ []) (Some (p.name.name, target.at)) (all_typed program d inner h.parameters)
      (meant_in program d inner h.result) called
      (ap (method_called program d target.at pp) (sym found_h)
      ∙ subst (λ x. declared_callable program d target.at target.name x ≡ Some called) says has)

  over : parameters called.generics ≡ inner
  over = ap parameters its.0

  its_put : IsPut heads params regions inner put
  its_put = subst (λ ps. IsPut heads params regions ps put) over puts

  own : is_region p.universe ≡ false
  own = class_universe program checked.declared target.at d found pos class_name p methods says

  -- what is put for the class's parameter
  pub put_type : (t : Meaning) × (value_of p.name.name put ≡ Some (of_type t))
  put_type = its_put.fixes (parameter p.name.name) (record { lasting = refl; names = is_type_name pp own })

  abbrev pub of_call : Meaning
  of_call = put_type.0

  pub put_is : substituted put (parameter p.name.name) ≡ of_call
  put_is = ap (λ o. type_for o p.name.name) put_type.1

  pub call_known : IsKnown heads params regions of_call
  call_known = its_put.values p.name.name (of_type of_call) put_type.1

  -- its running type
  abbrev rt : Meaning
  rt = running s z of_call

  abbrev c : ClosedType
  c = closed_under given of_call

  rt_closes : closed rt ≡ Some c
  rt_closes = known_closes heads params regions given s z of_call runs.stands call_known

  rt_formed : IsWellFormed heads [] rt
  rt_formed = formation_stays heads params [] s z of_call runs.stands.formed call_known.0

  rt_usable : IsUsable active rt
  rt_usable =
      type_usable heads params regions given s z inner put runs.stands its_put active runs.here runs.opened runs.within
      of_call call_known.1

  table : IsTable (rows_of program)
  table = good_table program checked.instances

  listed_h : Contains methods h
  listed_h =
      listed_at methods (position_or_len (is_method target.name) methods) h
      (sym (find_at (is_method target.name) methods) ∙ found_h)

  module _ (row : Row) (instance : Instance (rows_of program) heads [] [] target.at rt row) where
    its_given : IsGiven (rows_of program) heads target.at rt row
    its_given = given_so (rows_of program) heads target.at rt row instance

    abbrev q : Bindings
    q = its_given.q

    form : HasForm row.generics row.head
    form = table.formed row its_given.listed

    closed_instance : ClosedInstance (rows_of program) heads target.at c row
    closed_instance = row_closed (rows_of program) heads table target.at rt row instance rt_formed c rt_closes

    pub row_is : closed_row (rows_of program) heads (closed_under given (substituted put (parameter p.name.name)))
        target.at
        ≡ Some row
    row_is =
        ap (λ t. closed_row (rows_of program) heads (closed_under given t) target.at) put_is
        ∙ closed_row_there (rows_of program) heads table target.at c row closed_instance

    pub called_is : called_of target.name d.says ≡ Some (a_method h.name.name p.name.name)
    called_is = ap (called_of target.name) says ∙ ap (option_map (method_led p.name.name)) found_h

    module _ (unshipped : prim_of (module_name program row.instance.«module») h.name.name (kind_of c) ≡ None) where
      abbrev one : InstanceCalled
      one = method_at h.name.name c row

      leads : call_leads program place given note name ≡ instance_led (Some one)
      leads =
          ap (target_leads program (rows_of program) given note) means
          ∙ ap (λ o. called_leads program (rows_of program) given note target (called_standing target.name o)) found
          ∙ ap (called_leads program (rows_of program) given note target) called_is
          ∙ ap (λ o. class_leads program (rows_of program) target.at h.name.name
          (closed_under given (substituted (unwrap_or o []) (parameter p.name.name)))) notes
          ∙ ap (λ t. class_leads program (rows_of program) target.at h.name.name (closed_under given t)) put_is
          ∙ ap (method_leads program (rows_of program) h.name.name c)
          (closed_row_there (rows_of program) heads table target.at c row closed_instance)
          ∙ ap (λ o. shipped_or (option_map (at_type c) o) one) unshipped

      -- ---- types that are written for the method

      module _ (text : ClassText) (is_text : class_at program target.at ≡ Some text) (body : BodyOf)
          (there : body_of program noted (record { at = row.instance; name = h.name.name }) ≡ Some body)
          (bounds : bounds_of program body ≡ row.generics)
          (params_are : parameters row.generics ≡ written_params body.generics)
          (signed : IsSignedIn program noted text h row body) where
        text_is : (visible_at program d.place d.part ≡ Some text.visible) × (text.parameter ≡ pp)
        text_is =
            class_is (visible_at program d.place d.part) pos class_name p methods text
            (ap (class_in (visible_at program d.place d.part)) (sym says)
            ∙ sym (ap (class_standing program) found) ∙ is_text)

        -- the head of the row for the class's parameter
        abbrev hb : Bindings
        hb = (pp.name, of_type row.head) ∷ []

        wanted_is : (w : WrittenType) → wanted heads text row.head w
            ≡ option_map (substituted hb) (meant_in program d inner w)
        wanted_is w =
            let names = visible_types program d.place d.part text.visible text_is.0 in
            λ i. option_map (substituted (((text_is.1 i).name, of_type row.head) ∷ []))
            (meant [] (text_is.1 i ∷ []) (names i) heads w)

        head_runs : running q 0 row.head ≡ rt
        head_runs = lasting_alike q 0 row.head (head_lasts row.generics row.head form) ∙ its_given.becomes.makes.equal

        -- the two ways in which the class's parameter stands for the type
        value_by_row : value_of pp.name (called_at q 0 hb) ≡ Some (of_type rt)
        value_by_row =
            ap (λ b. cond b (Some (of_type (running q 0 row.head))) None) ((bytes_eq-Decides pp.name pp.name).1 refl)
            ∙ ap (λ t. Some (of_type t)) head_runs

        value_by_call : value_of pp.name (called_at s z put) ≡ Some (of_type rt)
        value_by_call = callees_run s put z pp.name ∙ ap (option_map (argument_running s z)) put_type.1

        both_alike : (t : Meaning) → IsWritten [] inner t
            → running (called_at q 0 hb) 0 t ≡ running (called_at s z put) 0 t
        both_alike t is =
            type_alike (called_at q 0 hb) (called_at s z put) 0 t
            (each_so (IsTypeName inner) (λ n. value_of n (called_at q 0 hb) ≡ value_of n (called_at s z put))
            (IsRegionName [] inner) (λ n. value_of n (called_at q 0 hb) ≡ value_of n (called_at s z put))
            (λ n sort. subst (λ m. value_of m (called_at q 0 hb) ≡ value_of m (called_at s z put)) (only_name pp n sort)
            (value_by_row ∙ sym value_by_call)) (λ n sort. no_region pp own n sort) t is.names)

        head_fixes : (t : Meaning) → IsWritten [] inner t → Fixes hb t
        head_fixes t is =
            each_so (IsTypeName inner) (GivesType hb) (IsRegionName [] inner) (GivesRegion hb)
            (λ n sort. subst (GivesType hb) (only_name pp n sort) (
              row.head,
              ap (λ b. cond b (Some (of_type row.head)) None) ((bytes_eq-Decides pp.name pp.name).1 refl),
            )) (λ n sort. no_region pp own n sort) t is.names

        -- where the body runs, a type is that of the caller
        type_so : (w u : WrittenType) (t : Meaning) → meant_in program d inner w ≡ Some t → IsWritten [] inner t
            → wanted heads text row.head w
            ≡ meant_given heads (types_at program body.place Body) (written_params body.generics) u
            → written_running program body q u ≡ running s z (substituted put t)
        type_so w u t is written same =
            ap (λ o. running q 0 (meant_or_unit o))
            (sym same ∙ wanted_is w ∙ ap (option_map (substituted hb)) is)
            ∙ sym (type_called q hb (called_at q 0 hb) 0 0 (callees_run q hb 0) t written.lasting
            (head_fixes t written))
            ∙ both_alike t written
            ∙ type_taken program body s z put inner its_put.fixes t written

        abbrev Labels : List (Labelled Bytes) → List (Labelled Bytes) → Type 0
        Labels ws vs =
            Each (SameLabelled (wanted heads text row.head)
            (meant_given heads (types_at program body.place Body) (written_params body.generics))) ws vs

        each_runs : (ws vs : List (Labelled Bytes)) (kinds : List Typed) → Labels ws vs
            → all_typed program d inner ws ≡ Some kinds → EachIsDeclared heads inner kinds
            → EachRuns program body q s z put vs kinds
        each_runs [] [] kinds alike e known = subst (EachRuns program body q s z put []) (same_Some [] kinds e) tt
        each_runs [] (v ∷ vs) kinds alike e known = absurd alike
        each_runs (w ∷ ws) [] kinds alike e known = absurd alike
        each_runs (w ∷ ws) (v ∷ vs) kinds alike e known =
            on (followed_is (typed program d inner w) (all_typed program d inner ws) kinds e)
            (λ others it sure. each_runs ws vs others alike.1 it sure)
          where
            on : (x : Typed) × (others : List Typed) × (typed program d inner w ≡ Some x)
                × (all_typed program d inner ws ≡ Some others) × (x ∷ others ≡ kinds)
                → ((others : List Typed) → all_typed program d inner ws ≡ Some others → EachIsDeclared heads inner
                others
                → EachRuns program body q s z put vs others)
                → EachRuns program body q s z put (v ∷ vs) kinds
            on (x, others, first, it, whole) later =
                let from = map_some (λ t. record { name = w.name.name; of = t }) (meant_in program d inner w.of) x
                first in
                let sure : EachIsDeclared heads inner (x ∷ others) = subst (EachIsDeclared heads inner) (sym whole)
                known in
                subst (EachRuns program body q s z put (v ∷ vs)) whole (
                  sym alike.0.0 ∙ ap (λ (y : Typed). y.name) from.2,
                  type_so w.of v.of x.of (from.1 ∙ ap (λ (y : Typed). Some y.of) from.2) sure.0.1 alike.0.1,
                  later others it sure.1,
                )

        -- ---- the way in which it is called

        regions_there : RegionsStand active (parameters row.generics) q
        regions_there = row_regions heads row form rt q its_given.becomes active rt_usable

        types_there : TypesAreUsable active (parameters row.generics) q
        types_there = row_types heads row form rt q its_given.becomes active rt_usable

        abbrev key : Key program noted
        key = record {
          one = one;
          body = body;
          there = there;
          s = q;
          stands = subst (λ ps. StandsFor heads ps (given_of_row row c) q) params_are
              (row_stands heads row form rt q its_given.becomes rt_formed c rt_closes);
          holds = subst (λ gs. ConstraintsHold program gs q)
              (sym bounds ∙ bounds_meant program noted checked.declared checked.derives
              (record { at = row.instance; name = h.name.name }) body there) its_given.met;
          tokens = tokens_in active q (parameters row.generics);
          regions = λ other are. subst (λ ps. RegionsStand other ps q) params_are
              (regions_kept active q other (parameters row.generics) regions_there are);
          within = λ other are. subst (λ ps. TypesAreUsable other ps q) params_are
              (types_kept active q other (parameters row.generics) types_there are);
        }

        body_seen : CallIsSeen (types_of program) (owner_of program) (view_under program noted place params given)
            (ways program noted) active s z note name called put
        body_seen =
            key_seen (types_of program) (owner_of program) program noted place params given s z active note name
            called put
            key leads
            (each_runs h.parameters body.header.parameters called.parameters signed.0 its.1
            (subst (λ ps. EachIsDeclared heads ps called.parameters) over well.takes))
            (type_so h.result body.header.result called.result its.2
            (subst (λ ps. IsDeclared heads ps called.result) over well.gives).1 signed.1 ∙ ap (running s z) (sym of))
            (tokens_active active q (parameters row.generics)) well.apart

      -- a call of a method that isn't shipped is seen
      pub method_seen : CallIsSeen (types_of program) (owner_of program) (view_under program noted place params given)
          (ways program noted) active s z note name called put
      method_seen =
          let stands = methods_stand program noted checked.derives checked.declared checked.instances checked.kept
          checked.gathered target.at d found pos class_name p methods says h listed_h row c closed_instance in
          by stands.0 stands.1 stands.2
        where
          by : (text : ClassText) → class_at program target.at ≡ Some text → MethodStands program noted text h row c
              → CallIsSeen (types_of program) (owner_of program) (view_under program noted place params given)
              (ways program noted) active s z note name called put
          by text is_text (stands_shipped call is) = absurd (none-some call (sym unshipped ∙ is))
          by text is_text (stands_here body there bounds params_are signed) =
              body_seen text is_text body there bounds params_are signed
