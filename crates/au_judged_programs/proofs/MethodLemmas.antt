-- Calls of methods of classes.
use Rattle.std.proofs.Common.{◌≡◌, ℕ, Bool, true, true≢false, List, [], ◌∷◌, find, Option, None, Some, refl, sym, ap, ◌∙◌, subst}
use Rattle.std.specs.Prelude.{Contains, option_to_list}
use Rattle.std.proofs.lemmas.List.Elements.{Contains-append_right}
use Rattle.std.proofs.lemmas.Option.{none-some}
use Rattle.au_base.specs.declared.places.Pos.{Pos}
use Rattle.au_base.proofs.ListLemmas.{Contains-first}
use Rattle.au_shipped.specs.declared.prims.ShippedCall.{ShippedCall}
use Rattle.au_shipped.specs.Calls.{prim_of}
use Rattle.au_syntax.specs.declared.modules.Part.TheVariants.{Body}
use Rattle.au_syntax.specs.Modules.{Header, InUniverse, constant, opaque_type, record_type, union_type, function, class}
use Rattle.au_syntax.specs.Modules.{instance, constant_body, function_body, instance_body}
use Rattle.au_syntax.specs.Names.{Placed}
use Rattle.au_syntax.specs.Plain.{Bytes, PlainDeclaration}
use Rattle.au_types.specs.declared.headings.Head.{Head}
use Rattle.au_types.specs.declared.spaces.Space.TheVariants.{Callables}
use Rattle.au_types.specs.declared.types.DeclAt.{DeclAt}
use Rattle.au_types.specs.Tables as tables
use Rattle.au_types.specs.Types.{Meaning}
use Rattle.au_matching.specs.Bindings.{Bindings}
use Rattle.au_matching.specs.Substituted.{substituted}
use Rattle.au_matching.proofs.LawLemmas.{well_formed_stands}
use Rattle.au_judged_types.specs.Bounds.{Bounded, parameters}
use Rattle.au_judged_types.specs.Meanings.{parameter as parameter_written}
use Rattle.au_type_texts.specs.Given.{Given, closed_under}
use Rattle.au_instances.specs.Instances.{Holds, Instance}
use Rattle.au_instances.specs.Pairs.{constraints_of}
use Rattle.au_instances.specs.Rows.{Row}
use Rattle.au_instances.specs.Tables.{IsTable}
use Rattle.au_classes.specs.Rows.{rows_of}
use Rattle.au_modules.specs.Programs.{ModuleParts}
use Rattle.au_names.specs.declared.targets.Target.{Target}
use Rattle.au_names.specs.HeadsOf.{heads_of}
use Rattle.au_names.specs.Standing.{Standing, standing_at}
use Rattle.au_running_types.specs.Running.{running}
use Rattle.au_closing_laws.proofs.TableLemmas.{good_table}
use Rattle.au_closing_laws.proofs.TypedLemmas.{callable_class}
use Rattle.au_judged_bodies.specs.Called.{declared_callable, is_method, method_called, unconstrained}
use Rattle.au_judged_bodies.specs.Calls.{wanted_of}
use Rattle.au_judged_bodies.specs.Leading.{kind_of, module_name}
use Rattle.au_judged_bodies.specs.Notes.{Note}
use Rattle.au_judged_bodies.specs.Scopes.{Callable, Outside}
use Rattle.au_judged_bodies.specs.Trees.{NotedParts}
use Rattle.au_judged_bodies.specs.Written.{all_typed, meant_in, seen_at}
use Rattle.au_judged_bodies.specs.Tables.{types_of}
use Rattle.au_judged_bodies.specs.Generic.{view_under}
use Rattle.au_owners.specs.Owners.{owner_of}
use Rattle.au_judged_bodies.specs.Callees.{IsPut}
use Rattle.au_judged_bodies.specs.Sights.{CallIsSeen}
use Rattle.au_judged_bodies.specs.Functions.{BodyRuns, IsDeclaredWell}
use Rattle.au_judged_bodies.specs.Keys.{ConstraintsHold, ways}
use Rattle.au_judged_programs.specs.CheckedChecked.{IsChecked}
use Rattle.au_judged_programs.specs.Programs.{HoldsHere, MethodsAreSeen, is_class}
use Rattle.au_judged_programs.specs.ShippedMethods.{ShippedMethodsAreSeen}
use Rattle.au_judged_programs.specs.SeenMethods.{MethodsOfProgramsAreSeen}
use Rattle.au_judged_programs.proofs.ShippedMethodSeenLemmas.{shipped_method_seen}
use Rattle.au_judged_programs.proofs.HoldLemmas.{held_here, holds_run, known_holds}
use Rattle.au_judged_programs.proofs.MethodSeenLemmas.{call_known, called_is, method_seen, of_call, put_is, put_type}
use Rattle.au_judged_programs.proofs.MethodSeenLemmas.{row_given, row_is}

module _ (program : List ModuleParts) (noted : List NotedParts) (shipped : ShippedMethodsAreSeen program noted)
    (checked : IsChecked program noted) (place : ℕ) (generics : List Bounded) (given : Given) (regions : List Bytes)
    (s : Bindings) (z : ℕ) (active : ℕ → Bool)
    (runs : BodyRuns program (parameters generics) regions given s z active)
    (holds : ConstraintsHold program generics s)
    (note : Note) (name : Bytes) (target : Target) (d : Standing) (called : Callable) (put : Bindings)
    (here : HoldsHere program noted place generics given called put)
    (means : tables.find name (seen_at Callables program place Body) ≡ Some target)
    (found : standing_at program target.at ≡ Some d)
    (has : declared_callable program d target.at target.name d.says ≡ Some called)
    (well : IsDeclaredWell program called)
    (notes : note.call ≡ Some put) (of : note.of ≡ substituted put called.result)
    (puts : IsPut (heads_of program) (parameters generics) regions (parameters called.generics) put) where
  abbrev heads : List (DeclAt × Head)
  heads = heads_of program

  abbrev Seen : Type 0
  Seen =
      CallIsSeen (types_of program) (owner_of program) (view_under program noted place (parameters generics) given)
      (ways program noted) active s z note name called put

  module _ (pos : Pos) (class_name : Placed Bytes) (p : InUniverse Bytes) (methods : List (Header Bytes))
      (says : d.says ≡ class pos class_name p methods) (h : Header Bytes)
      (found_h : find (is_method target.name) methods ≡ Some h) where
    table : IsTable (rows_of program)
    table = good_table program checked.instances

    -- the type that is put for the class's parameter
    abbrev taken : Meaning
    taken =
        of_call program noted checked place (parameters generics) regions given s z active runs note name target d
        called
        put means found has well notes of puts pos class_name p methods says h found_h

    -- the class is wanted of it
    class_wanted : Contains (wanted_of called) (p.name.name, target.at)
    class_wanted =
        let its = callable_class (unconstrained (parameter_written p) ∷ []) (Some (p.name.name, target.at))
        (all_typed program d (parameter_written p ∷ []) h.parameters)
        (meant_in program d (parameter_written p ∷ []) h.result) called
        (ap (method_called program d target.at (parameter_written p)) (sym found_h)
        ∙ subst (λ x. declared_callable program d target.at target.name x ≡ Some called) says has) in
        Contains-append_right (constraints_of called.generics) (option_to_list called.class) (p.name.name, target.at)
        (subst (λ o. Contains (option_to_list o) (p.name.name, target.at)) (sym its.1)
        (Contains-first (p.name.name, target.at) []))

    -- and holds, in the body and where it runs
    abbrev HoldsIn : Outside → List Bounded → Type 0
    HoldsIn o gs = Holds o.instances o.heads (parameters gs) (constraints_of gs) target.at taken

    class_holds : Holds (rows_of program) heads (parameters generics) (constraints_of generics) target.at taken
    class_holds = by here
      where
        by : HoldsHere program noted place generics given called put
            → Holds (rows_of program) heads (parameters generics) (constraints_of generics) target.at taken
        by (sc, outside, over, none) =
            subst (λ o. HoldsIn o generics) outside
            (subst (λ gs. HoldsIn sc.outside gs) over
            (held_here sc (subst (λ (o : Outside). IsTable o.instances) (sym outside) table) put (wanted_of called) none
            p.name.name target.at taken
            (put_type program noted checked place (parameters generics) regions given s z active runs note name target d
            called put means found has well notes of puts pos class_name p methods says h found_h).1 class_wanted))

    class_runs : Holds (rows_of program) heads [] [] target.at (running s z taken)
    class_runs =
        holds_run (rows_of program) heads table (parameters generics) (constraints_of generics) s z runs.stands.formed
        (known_holds program generics s holds) target.at taken class_holds
        (well_formed_stands heads (parameters generics) taken
        (call_known program noted checked place (parameters generics) regions given s z active runs note name target d
        called put means found has well notes of puts pos class_name p methods says h found_h).0)

    method_is_seen : Seen
    method_is_seen =
        let its = row_given (rows_of program) heads target.at (running s z taken) class_runs in
        by its.0 its.1 (prim_of (module_name program its.0.instance.«module») h.name.name
        (kind_of (closed_under given taken)))
        refl
      where
        by : (row : Row) → Instance (rows_of program) heads [] [] target.at (running s z taken) row
            → (o : Option ShippedCall)
            → prim_of (module_name program row.instance.«module») h.name.name (kind_of (closed_under given taken)) ≡ o
            → Seen
        by row its None none =
            method_seen program noted checked place (parameters generics) regions given s z active runs note name
            target d
            called put means found has well notes of puts pos class_name p methods says h found_h row its none
        by row its (Some prim) is =
            shipped checked place (parameters generics) regions given s z active runs note name
            target d called put h.name.name p.name.name row prim (ap is_class says)
            (called_is program noted checked place (parameters generics) regions given s z active runs note name
            target d
            called put means found has well notes of puts pos class_name p methods says h found_h row its)
            (row_is program noted checked place (parameters generics) regions given s z active runs note name target d
            called put means found has well notes of puts pos class_name p methods says h found_h row its)
            (ap (λ t. prim_of (module_name program row.instance.«module») h.name.name (kind_of (closed_under given t)))
            (put_is program noted checked place (parameters generics) regions given s z active runs note name target d
            called put means found has well notes of puts pos class_name p methods says h found_h) ∙ is)
            means found has well notes of puts

  by_says : (says : PlainDeclaration) → d.says ≡ says → is_class says ≡ true
      → declared_callable program d target.at target.name says ≡ Some called → Seen
  by_says (class pos class_name p methods) says is e = by (find (is_method target.name) methods) refl e
    where
      by : (o : Option (Header Bytes)) → find (is_method target.name) methods ≡ o
          → method_called program d target.at (parameter_written p) o ≡ Some called → Seen
      by None none e = absurd (none-some called e)
      by (Some h) found_h e = method_is_seen pos class_name p methods says h found_h
  by_says (function at gs h) says is e = absurd (true≢false (sym is))
  by_says (function_body at gs h block stop) says is e = absurd (true≢false (sym is))
  by_says (record_type at n ps u fields) says is e = absurd (true≢false (sym is))
  by_says (union_type at n ps u cases) says is e = absurd (true≢false (sym is))
  by_says (constant at n t) says is e = absurd (true≢false (sym is))
  by_says (opaque_type at n ps u) says is e = absurd (true≢false (sym is))
  by_says (instance at gs n t) says is e = absurd (true≢false (sym is))
  by_says (constant_body at n t v) says is e = absurd (true≢false (sym is))
  by_says (instance_body at gs n t ms) says is e = absurd (true≢false (sym is))

pub methods_seen : (program : List ModuleParts) (noted : List NotedParts) → ShippedMethodsAreSeen program noted
    → IsChecked program noted → (place : ℕ)
    (generics : List Bounded) (given : Given) (regions : List Bytes) (s : Bindings) (z : ℕ) (active : ℕ → Bool)
    → BodyRuns program (parameters generics) regions given s z active → ConstraintsHold program generics s
    → MethodsAreSeen program noted place generics given regions s z active
methods_seen program noted shipped checked place generics given regions s z active runs holds note name target d
    called put is
    here means found has well notes of puts =
    by_says program noted shipped checked place generics given regions s z active runs holds note name target d
    called put here
    means found has well notes of puts d.says refl is has

-- ---- of all

-- those of shipped instances are seen
shipped_methods : (program : List ModuleParts) (noted : List NotedParts) → ShippedMethodsAreSeen program noted
shipped_methods program noted checked place params regions given s z active runs note name target d called put
    declared param
    row call is_a_class leading found_row shipped_so means found declares well notes of puts =
    shipped_method_seen program noted checked place params regions given s z active runs note name target d called put
    declared param row call leading found_row shipped_so means found declares well notes of puts

pub methods_of_programs : (program : List ModuleParts) (noted : List NotedParts) → MethodsOfProgramsAreSeen program
    noted
methods_of_programs program noted checked place generics given regions s z active runs holds =
    methods_seen program noted (shipped_methods program noted) checked place generics given regions s z active runs
    holds
