-- Calls of methods whose instances are shipped.
use Rattle.std.proofs.Common.{◌≡◌, ℕ, Bool, true, true≢false, List, [], ◌∷◌, map, Option, None, Some, refl}
use Rattle.std.proofs.Common.{sym, ap, ◌∙◌, subst, find}
use Rattle.std.specs.Prelude.{codes, unwrap_or}
use Rattle.std.specs.Option.{option_map}
use Rattle.std.proofs.lemmas.Bool.{and_parts}
use Rattle.std.proofs.lemmas.Option.{none-some, same_Some}
use denote.Enum.Bare.{same_true, sameb}
use Rattle.au_base.specs.contracts.kinds.IntKind.{the_type as kind}
use Rattle.au_shipped.specs.declared.prims.ShippedCall.{ShippedCall}
use Rattle.au_shipped.specs.declared.prims.ShippedCall.TheVariants as prim
use Rattle.au_shipped.specs.Calls.{prim_of}
use Rattle.au_syntax.specs.declared.modules.Part.TheVariants.{Body, Interface}
use Rattle.au_syntax.specs.Modules.{Header, class}
use Rattle.au_syntax.specs.Plain.{Bytes}
use Rattle.au_types.specs.declared.parameters.Parameter.{Parameter}
use Rattle.au_types.specs.declared.spaces.Space.TheVariants.{Callables}
use Rattle.au_types.specs.declared.types.DeclAt.{DeclAt}
use Rattle.au_types.specs.Tables as tables
use Rattle.au_types.specs.Types as whole
use Rattle.au_types.specs.Types.{Meaning, of_type, parameter}
use Rattle.au_matching.specs.Bindings.{Bindings, value_of}
use Rattle.au_matching.specs.Substituted.{substituted, type_for}
use Rattle.au_type_texts.specs.Closing.{closed}
use Rattle.au_type_texts.specs.Given.{Given, closed_under}
use Rattle.au_type_texts.specs.Types.{ClosedType, integer, text, truth}
use Rattle.au_running_types.specs.Running.{running}
use Rattle.au_written_types.specs.Written.{IsTypeName}
use Rattle.au_modules.specs.Programs.{ModuleParts}
use Rattle.au_names.specs.declared.targets.Target.{Target}
use Rattle.au_names.specs.HeadsOf.{heads_of}
use Rattle.au_names.specs.Standing.{Standing, standing_at}
use Rattle.au_judged_types.specs.Bounds.{Bounded, parameters}
use Rattle.au_judged_types.specs.Meanings.{parameter as written_parameter}
use Rattle.au_classes.specs.Rows.{rows_of}
use Rattle.au_classes.proofs.ListLemmas.{found_passes}
use Rattle.au_judged_bodies.specs.Called.{by_header, callable, declared_callable, is_method, method_called}
use Rattle.au_judged_bodies.specs.Called.{unconstrained}
use Rattle.au_judged_bodies.specs.Callees.{IsPut}
use Rattle.au_judged_bodies.specs.Functions.{BodyRuns, IsDeclaredWell}
use Rattle.au_judged_bodies.specs.Generic.{lead_does, view_under}
use Rattle.au_judged_bodies.specs.Instances.{Instance, method_at}
use Rattle.au_judged_bodies.specs.Keys.{ways}
use Rattle.au_judged_bodies.specs.Leading.{Called, a_method, at_type, call_leads, called_leads, called_of}
use Rattle.au_judged_bodies.specs.Leading.{called_standing}
use Rattle.au_judged_bodies.specs.Leading.{class_leads, kind_of, method_leads, module_name, shipped_or, target_leads}
use Rattle.au_judged_bodies.specs.Leading.{method_called as method_named}
use Rattle.au_judged_bodies.specs.Notes.{Note}
use Rattle.au_judged_bodies.specs.Rounds.{names_of}
use Rattle.au_judged_bodies.specs.Scopes.{Callable, Typed}
use Rattle.au_judged_bodies.specs.Sights.{CallIsSeen, kinds_taken}
use Rattle.au_judged_bodies.specs.Tables.{types_of}
use Rattle.au_judged_bodies.specs.Trees.{NotedParts}
use Rattle.au_judged_bodies.specs.Written.{all_typed, meant_in, seen_at}
use Rattle.au_judged_bodies.proofs.StandingTypesStandLemmas.{known_closes}
use Rattle.au_meaning.specs.Views.{Callee, ships}
use Rattle.au_owners.specs.Owners.{owner_of}
use Rattle.au_safe_steps.specs.Granting.{IsOptionOf}
use Rattle.au_instances.specs.ClosedInstances.{closed_row}
use Rattle.au_instances.specs.Rows.{Row}
use Rattle.au_judged_programs.proofs.ShippedMethodFoundLemmas.{is_found}
use Rattle.au_closing_laws.proofs.GatheredLemmas.{all_among}
use Rattle.au_judged_programs.specs.CheckedChecked.{IsChecked}
use Rattle.au_judged_programs.proofs.ShippedMethodResultLemmas.{gives_option, gives_parameter, gives_unit}
use Rattle.au_judged_programs.proofs.ShippedMethodResultLemmas.{only_flat, parameters_taken}
use Rattle.au_judged_programs.proofs.ShippedMethodResultLemmas.{is_flat, opened}
use Rattle.au_judged_programs.proofs.ShippedMethodRowLemmas.{IsShippedClass, shipped_class}
use Rattle.au_judged_programs.proofs.ShippedMethodTestLemmas.{fits_some, gives, is_the_parameter, is_unit, its_name}
use Rattle.au_judged_programs.proofs.ShippedMethodTestLemmas.{method_fits, names_taken, over_class, takes_all}
use Rattle.au_judged_programs.proofs.ShippedMethodTestLemmas.{the_parameter}

-- ---- what is declared

-- what is called has the parameters and the result that are written of it
callable_has : (generics : List Bounded) (of : Option (Bytes × DeclAt)) (given : Option (List Typed))
    (result : Option Meaning)
    (c : Callable) → callable generics of given result ≡ Some c
    → (given ≡ Some c.parameters) × (result ≡ Some c.result) × (generics ≡ c.generics)
callable_has generics of (Some given) (Some result) c e =
    let same = same_Some (record { generics = generics; parameters = given; result = result; class = of }) c e in (
      ap (λ (x : Callable). Some x.parameters) same,
      ap (λ (x : Callable). Some x.result) same,
      ap (λ (x : Callable). x.generics) same,
    )
callable_has generics of None result c e = absurd (none-some c e)
callable_has generics of (Some given) None c e = absurd (none-some c e)

abbrev named_so : Called → Bytes
named_so (a_method name param) = name
named_so other = []

abbrev param_so : Called → Bytes
param_so (a_method name param) = param
param_so other = []

module _ (program : List ModuleParts) (noted : List NotedParts) (checked : IsChecked program noted) (place : ℕ)
    (params : List Parameter) (regions : List Bytes) (given : Given) (s : Bindings) (z : ℕ) (active : ℕ → Bool)
    (runs : BodyRuns program params regions given s z active) (note : Note) (name : Bytes) (target : Target)
    (d : Standing)
    (called : Callable) (put : Bindings) (declared param : Bytes) (row : Row) (call : ShippedCall)
    (leading : called_of target.name d.says ≡ Some (a_method declared param))
    (found_row : closed_row (rows_of program) (heads_of program)
    (closed_under given (substituted put (parameter param)))
    target.at ≡ Some row)
    (shipped_so : prim_of (module_name program row.instance.«module») declared
    (kind_of (closed_under given (substituted put (parameter param)))) ≡ Some call)
    (means : tables.find name (seen_at Callables program place Body) ≡ Some target)
    (found : standing_at program target.at ≡ Some d)
    (declares : declared_callable program d target.at target.name d.says ≡ Some called)
    (well : IsDeclaredWell program called) (notes : note.call ≡ Some put) (of : note.of ≡ substituted put called.result)
    (puts : IsPut (heads_of program) params regions (parameters called.generics) put) where
  abbrev t : ClosedType
  t = closed_under given (substituted put (parameter param))

  abbrev here : ShippedCall
  here = at_type t call

  -- ---- what is called

  abbrev leads_to : ShippedCall → Option (Callee Instance)
  leads_to one = lead_does program noted place (closed_under given note.of)
      (shipped_or (Some one) (method_at declared t row))

  sees : lead_does program noted place (closed_under given note.of) (call_leads program place given note name)
      ≡ leads_to here
  sees =
      ap (lead_does program noted place (closed_under given note.of))
      (ap (target_leads program (rows_of program) given note) means
      ∙ ap (λ o. called_leads program (rows_of program) given note target (called_standing target.name o)) found
      ∙ ap (called_leads program (rows_of program) given note target) leading
      ∙ ap (λ o. class_leads program (rows_of program) target.at declared
      (closed_under given (substituted (unwrap_or o []) (parameter param)))) notes
      ∙ ap (method_leads program (rows_of program) declared t) found_row
      ∙ ap (λ o. shipped_or (option_map (at_type t) o) (method_at declared t row)) shipped_so)

  -- ---- the class

  c : IsShippedClass program (module_name program row.instance.«module») t target.at
  c = shipped_class program noted checked t target.at row (is_found program t target.at row found_row) declared
      (kind_of t) call shipped_so

  d_is : record { place = c.place; part = Interface; index = c.number; says = class c.pos c.name c.p c.methods } ≡ d
  d_is =
      same_Some (record {
        place = c.place;
        part = Interface;
        index = c.number;
        says = class c.pos c.name c.p
            c.methods;
      })
      d (sym c.there ∙ found)

  at_place : d.place ≡ c.place
  at_place = ap (λ (x : Standing). x.place) (sym d_is)

  of_part : d.part ≡ Interface
  of_part = ap (λ (x : Standing). x.part) (sym d_is)

  says_is : class c.pos c.name c.p c.methods ≡ d.says
  says_is = ap (λ (x : Standing). x.says) d_is

  -- ---- the method

  module _ (h : Header Bytes) (is : find (is_method target.name) c.methods ≡ Some h) (named : h.name.name ≡ declared)
      (over : its_name ≡ param) (has : method_called program d target.at (written_parameter c.p) (Some h) ≡ Some
      called) where
    abbrev bounds : List Bounded
    bounds = unconstrained the_parameter ∷ []

    its : (all_typed program d (the_parameter ∷ []) h.parameters ≡ Some called.parameters)
        × (meant_in program d (the_parameter ∷ []) h.result ≡ Some called.result) × (bounds ≡ called.generics)
    its =
        callable_has bounds (Some (its_name, target.at)) (all_typed program d (the_parameter ∷ []) h.parameters)
        (meant_in program d (the_parameter ∷ []) h.result) called
        (ap (λ (q : Parameter). by_header program d (unconstrained q ∷ []) (Some (q.name, target.at)) h) (sym c.over)
        ∙ has)

    fit : fits_some t h (Some here) ≡ true
    fit =
        ap (λ o. fits_some t h (option_map (at_type t) o))
        (sym (ap (λ n. prim_of n h.name.name (kind_of t)) (sym c.named)
        ∙ ap (λ n. prim_of (module_name program row.instance.«module») n (kind_of t)) named ∙ shipped_so))
        ∙ all_among (method_fits c.m.name t) h c.methods c.fit
        (found_passes (is_method target.name) c.methods h is).0

    parts : (takes_all (names_taken here) h.parameters ≡ true) × (gives t here h.result ≡ true)
    parts = and_parts (takes_all (names_taken here) h.parameters) (gives t here h.result) fit

    abbrev put_so : Meaning
    put_so = running s z (substituted put (whole.parameter its_name))

    taken : (names_of called.parameters ≡ names_taken here)
        × (kinds_taken s z put called.parameters ≡ map (λ (n : Bytes). put_so) (names_taken here))
    taken = parameters_taken program d s z put (names_taken here) h.parameters called.parameters parts.0 its.0

    -- the type that is put closes, where it runs, to that for which the row is found
    value : (v : Meaning) × (value_of its_name put ≡ Some (of_type v))
    value =
        puts.fixes (whole.parameter its_name)
        (record {
          lasting = refl;
          names = subst (λ (gs : List Bounded). IsTypeName (parameters gs) its_name) its.2
              refl;
        })

    closes : closed put_so ≡ Some t
    closes =
        ap (λ o. closed (running s z (type_for o its_name))) value.1
        ∙ known_closes (heads_of program) params regions given s z value.0 runs.stands
        (puts.values its_name (of_type value.0) value.1)
        ∙ ap (λ o. Some (closed_under given (type_for o its_name))) (sym value.1)
        ∙ ap (λ n. Some (closed_under given (substituted put (whole.parameter n)))) over

    abbrev result_so : Meaning
    result_so = running s z (substituted put called.result)

    no_value : is_unit (over_class h.result) ≡ true → running s z note.of ≡ whole.unit
    no_value e =
        ap (running s z) of
        ∙ ap (λ r. running s z (substituted put r)) (gives_unit program d h.result called.result e its.1)

    its_own : is_the_parameter (over_class h.result) ≡ true → running s z note.of ≡ put_so
    its_own e =
        ap (running s z) of
        ∙ ap (λ r. running s z (substituted put r)) (gives_parameter program d h.result called.result e its.1)

    -- the arguments where the closed type is that of a running type, of which there is one
    kinds_are : (u : ClosedType) → closed put_so ≡ Some u → is_flat u ≡ true → (names : List Bytes)
        → kinds_taken s z put called.parameters ≡ map (λ (n : Bytes). put_so) names
        → kinds_taken s z put called.parameters ≡ map (λ (n : Bytes). opened u) names
    kinds_are u shut flat names kinds = kinds ∙ ap (λ r. map (λ (n : Bytes). r) names) (only_flat put_so u shut flat)

    abbrev Seen : Type 0
    Seen =
        CallIsSeen (types_of program) (owner_of program) (view_under program noted place params given)
        (ways program noted) active s z note name called put

    seen_with : (u : ClosedType) (one : ShippedCall) → closed put_so ≡ Some u → gives u one h.result ≡ true
        → lead_does program noted place (closed_under given note.of) (call_leads program place given note name)
        ≡ leads_to one
        → names_of called.parameters ≡ names_taken one
        → kinds_taken s z put called.parameters ≡ map (λ (n : Bytes). put_so) (names_taken one) → Seen
    seen_with truth prim.PrintBool shut e lead names kinds = record {
      one = record { parameters = codes "value" ∷ []; act = ships prim.PrintBool None };
      seen = λ c. lead;
      parameters = sym names;
      apart = well.apart;
      performs = (refl, (kinds_are truth shut refl (names_taken prim.PrintBool) kinds, no_value e));
    }
    seen_with truth prim.PrintLnBool shut e lead names kinds = record {
      one = record { parameters = codes "value" ∷ []; act = ships prim.PrintLnBool None };
      seen = λ c. lead;
      parameters = sym names;
      apart = well.apart;
      performs = (refl, (kinds_are truth shut refl (names_taken prim.PrintLnBool) kinds, no_value e));
    }
    seen_with text prim.PrintText shut e lead names kinds = record {
      one = record { parameters = codes "value" ∷ []; act = ships prim.PrintText None };
      seen = λ c. lead;
      parameters = sym names;
      apart = well.apart;
      performs = (refl, (kinds_are text shut refl (names_taken prim.PrintText) kinds, no_value e));
    }
    seen_with text prim.PrintLnText shut e lead names kinds = record {
      one = record { parameters = codes "value" ∷ []; act = ships prim.PrintLnText None };
      seen = λ c. lead;
      parameters = sym names;
      apart = well.apart;
      performs = (refl, (kinds_are text shut refl (names_taken prim.PrintLnText) kinds, no_value e));
    }
    seen_with (integer k) prim.PrintInt shut e lead names kinds = record {
      one = record { parameters = codes "value" ∷ []; act = ships prim.PrintInt None };
      seen = λ c. lead;
      parameters = sym names;
      apart = well.apart;
      performs = (refl, (k, (kinds_are (integer k) shut refl (names_taken prim.PrintInt) kinds, no_value e)));
    }
    seen_with (integer k) prim.PrintLnInt shut e lead names kinds = record {
      one = record { parameters = codes "value" ∷ []; act = ships prim.PrintLnInt None };
      seen = λ c. lead;
      parameters = sym names;
      apart = well.apart;
      performs = (refl, (k, (kinds_are (integer k) shut refl (names_taken prim.PrintLnInt) kinds, no_value e)));
    }
    seen_with (integer k) (prim.Wrap op other) shut e lead names kinds =
        let both = and_parts (sameb kind other k) (is_the_parameter (over_class h.result)) e in
        let same : k ≡ other = sym (same_true kind tt other k both.0) in
        record {
          one = record { parameters = codes "lhs" ∷ codes "rhs" ∷ []; act = ships (prim.Wrap op other) None };
          seen = λ c. lead;
          parameters = sym names;
          apart = well.apart;
          performs = (
            kinds_are (integer k) shut refl (names_taken (prim.Wrap op other)) kinds
                ∙ ap (λ i. whole.integer i ∷ whole.integer i ∷ []) same,
            its_own both.1 ∙ only_flat put_so (integer k) shut refl ∙ ap (λ i. whole.integer i) same,
          );
        }
    seen_with (integer k) (prim.Convert to) shut e lead names kinds = record {
      one = record { parameters = codes "value" ∷ []; act = ships (prim.Convert to) None };
      seen = λ c. lead;
      parameters = sym names;
      apart = well.apart;
      performs = (
        k,
        kinds_are (integer k) shut refl (names_taken (prim.Convert to)) kinds,
        subst (λ (r : Meaning). IsOptionOf (types_of program) r (whole.integer to)) (ap (running s z) (sym of))
            (gives_option program noted checked c.entry c.m c.same c.place c.here c.option d at_place of_part
            h.result to e
            called.result its.1 s z put),
      );
    }
    seen_with u one shut e lead names kinds = absurd (true≢false (sym e))

    seen : Seen
    seen = seen_with t here closes parts.1 sees taken.0 taken.1

  pub shipped_method_seen : CallIsSeen (types_of program) (owner_of program)
      (view_under program noted place params given)
      (ways program noted) active s z note name called put
  shipped_method_seen = by (find (is_method target.name) c.methods) refl
      (ap (called_of target.name) says_is ∙ leading)
      (ap (declared_callable program d target.at target.name) says_is ∙ declares)
    where
      by : (o : Option (Header Bytes)) → find (is_method target.name) c.methods ≡ o
          → option_map (method_named c.p.name.name) o ≡ Some (a_method declared param)
          → method_called program d target.at (written_parameter c.p) o ≡ Some called
          → CallIsSeen (types_of program) (owner_of program) (view_under program noted place params given)
          (ways program noted) active s z note name called put
      by None is lead has = absurd (none-some called has)
      by (Some h) is lead has =
          let same = same_Some (a_method h.name.name c.p.name.name) (a_method declared param) lead in
          seen h is (ap named_so same) (sym (ap (λ (p : Parameter). p.name) c.over) ∙ ap param_so same) has
