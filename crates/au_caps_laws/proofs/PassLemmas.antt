-- What is passed in the ways in which functions are called, and what is returned, is listed.
use Rattle.std.proofs.Common.{◌≡◌, inl, inr, ℕ, suc, true, List, [], ◌∷◌, map, Option, None, Some, Contains, refl}
use Rattle.std.proofs.Common.{sym, ap, subst}
use Rattle.std.specs.Option.{option_map}
use Rattle.au_syntax.specs.declared.modules.Part.TheVariants.{Body}
use Rattle.au_syntax.specs.Plain.{Bytes}
use Rattle.au_syntax.specs.Types.{Labelled, WrittenType}
use Rattle.au_types.specs.Types.{Meaning, integer, parameter}
use Rattle.au_matching.specs.Bindings.{Bindings}
use Rattle.au_matching.specs.Substituted.{substituted}
use Rattle.au_matching.proofs.SubstitutedLemmas.{each_so}
use Rattle.au_type_texts.specs.Closing.{closed}
use Rattle.au_type_texts.specs.Given.{Given, closed_under, given_for}
use Rattle.au_type_texts.specs.Types as closed_types
use Rattle.au_type_texts.specs.Types.{ClosedType}
use Rattle.au_meaning.specs.Meanings.{begun, call_at, first_world, mean, parameters_of, seen}
use Rattle.au_meaning.specs.Ticks.{Out, aborts, cut, gives, no_rule}
use Rattle.au_meaning.specs.Views as views
use Rattle.au_meaning.specs.Views.{Function, invokes, makes, ships}
use Rattle.au_meaning.specs.Worlds.{Value, World}
use Rattle.au_running_judgements.specs.Expressions.{Performs}
use Rattle.au_running_types.specs.Running.{running}
use Rattle.au_running_types.proofs.ClosedLemmas.{type_closes}
use Rattle.au_written_types.specs.Written.{IsRegionName, IsTypeName}
use Rattle.au_written_types.proofs.MeantLemmas.{meant_written}
use Rattle.au_judged_types.specs.Bounds.{parameters}
use Rattle.au_judged_types.specs.Meanings.{written_params}
use Rattle.au_modules.specs.Programs.{ModuleParts}
use Rattle.au_names.specs.HeadsOf.{heads_of}
use Rattle.au_names.proofs.AmongLemmas.{Among, among, contains}
use Rattle.au_typing.specs.Notes.{Note, NotedExpression, type_of}
use Rattle.au_typing.specs.Outsides.{outside_of}
use Rattle.au_typing.specs.Parts.{borrow_type}
use Rattle.au_typing.specs.Trees.{NotedParts, NotedStatements}
use Rattle.au_typing.specs.Written.{types_at}
use Rattle.au_closing.specs.Bodies.{BodyOf}
use Rattle.au_closing.specs.Instances.{Instance}
use Rattle.au_closed_meanings.specs.Generic.{function_under, generic_functions}
use Rattle.au_memory.specs.Forests as forest
use Rattle.au_lending.specs.Records.{onto, types_made}
use Rattle.au_safe_ships.specs.Frames.{Frame}
use Rattle.au_safe_ships.specs.Good.{IsIn}
use Rattle.au_safe_ships.specs.Making.{values_of}
use Rattle.au_safe_ships.specs.Orders.{Act}
use Rattle.au_tables.specs.Tables.{types_of}
use Rattle.au_owners.specs.Owners.{owner_of}
use Rattle.au_accepted.specs.Programs.{program_modules}
use Rattle.au_judged_bodies.specs.Covering.{Covers, MayHold}
use Rattle.au_judged_bodies.specs.Held.{IsPermitted, Permits}
use Rattle.au_judged_bodies.specs.Keys.{Key, meant_or_unit, ways, written_running}
use Rattle.au_judged_bodies.specs.Sights.{AreHandedAs}
use Rattle.au_judged_bodies.specs.StandingTypesStanding.{StandsFor}
use Rattle.au_judged_bodies.specs.Texts.{arguments_by_block}
use Rattle.au_judged_bodies.proofs.StandingTypesStandLemmas.{known_closes}
use Rattle.au_judged_programs.specs.CheckedChecked.{IsChecked}
use Rattle.au_judged_programs.specs.Judged.{anything}
use Rattle.au_judged_programs.specs.RoundProgramsBodies.{AreGoodHere}
use Rattle.au_judged_programs.specs.RunningBodiesBodies.{generics_of}
use Rattle.au_judged_programs.proofs.BirthLemmas.{checked_typed}
use Rattle.au_judged_programs.proofs.EntryLemmas.{entry_way}
use Rattle.au_judged_programs.proofs.FitLemmas.{accepted_checked}
use Rattle.au_judged_programs.proofs.JudgedLemmas.{all_active}
use Rattle.au_sound.specs.Runs.{IsEntry, IsSeenWell, RunsAreSafe}
use Rattle.au_sound.proofs.WireLemmas.{runs_are_safe}
use Rattle.au_caps_lists.specs.Bodies.{Bodied, params_of}
use Rattle.au_caps_lists.specs.Holding.{Hands, Holds}
use Rattle.au_caps_laws.specs.Births.{run_as}
use Rattle.au_caps_laws.specs.Passing.{AcceptedCallsAreListed, AreBoundedBy, AreHandedBy, AreHeldBy, AreTakenBy}
use Rattle.au_caps_laws.specs.Passing.{CallsAreListed, LetsPass}
use Rattle.au_caps_laws.specs.Reach.{ClosedReaches, IsBoundedBy, IsReachedOrGiven, declared_in, meant_among}
use Rattle.au_caps_laws.specs.Watching.{Watch, tested, watched_at, watched_mean}
use Rattle.au_caps_laws.proofs.AlikeLemmas.{IsOne, IsStuck, means_alike}
use Rattle.au_caps_laws.proofs.ActingLemmas.{LeadsOn, Made, by_key, may_act, somewhere}
use Rattle.au_caps_laws.proofs.WatchLemmas.{AllAct, Begins, Passes, Returns, watched_well}
use Rattle.au_caps_laws.proofs.ReachLemmas.{arguments_handed, parameters_held, result_handed}
use Rattle.au_caps_laws.proofs.RunForLemmas.{run_there}

-- what is seen well isn't stuck
no_stuck : (owner : ClosedType → Option (List ℕ)) (ticks : ℕ) (out : Out Value) → IsStuck out
    → IsSeenWell owner (seen ticks out) → ⊥
no_stuck owner ticks (gives v w left) none well = none
no_stuck owner ticks (aborts fault w left) none well = none
no_stuck owner ticks (cut w) none well = none
no_stuck owner ticks (no_rule w left) none well = well.ended

module _ (program : List ModuleParts) (b : Bodied) (given : Given) (s : Bindings)
    (stands : StandsFor (heads_of program) (params_of b) given s) where
  -- a type that is written closes, where it runs, to what it closes to under what is given
  closes : (w : WrittenType) (t : Meaning) → meant_among program b given [] w ≡ Some t
      → closed (running s 0 t) ≡ Some (closed_under given t)
  closes w t is =
      type_closes s 0 given t
      (each_so (IsTypeName (params_of b)) (λ name. closed (substituted s (parameter name)) ≡ Some
      (given_for given name))
      (IsRegionName [] (params_of b)) (λ name. Unit {0}) stands.closes (λ name region. tt) t
      (meant_written [] (params_of b) (types_at program b.place Body) (heads_of program) w t is).names)

  -- it is listed where what it reaches is
  written_listed : (Lists : Bytes → Type 0) (w : WrittenType)
      → ((t : Meaning) → meant_among program b given [] w ≡ Some t → (h : Bytes)
      → ClosedReaches program (closed_under given t) h → IsReachedOrGiven program given Lists h)
      → IsBoundedBy program given Lists (written_running program (run_as b) s w)
  unfolding declared_in
  written_listed Lists w reached = by (meant_among program b given [] w) refl
    where
      by : (o : Option Meaning) → meant_among program b given [] w ≡ o
          → IsBoundedBy program given Lists (written_running program (run_as b) s w)
      by None is =
          subst (λ o. IsBoundedBy program given Lists (running s 0 (meant_or_unit o))) (sym is)
          (closed_types.unit, refl, λ h (a, there, its). absurd (among [] a there))
      by (Some t) is =
          subst (λ o. IsBoundedBy program given Lists (running s 0 (meant_or_unit o))) (sym is)
          (closed_under given t, closes w t is, reached t is)

  parameters_listed : (ps : List (Labelled Bytes)) → ((f : Labelled Bytes) → Among f ps → Among f b.header.parameters)
      → AreBoundedBy program given (Holds program b)
      (map (λ (p : Labelled Bytes). written_running program (run_as b) s p.of) ps)
  parameters_listed [] more = tt
  parameters_listed (p ∷ rest) more = (
    written_listed (Holds program b) p.of
        (parameters_held program b given p (contains b.header.parameters p (more p (inl refl)))),
    parameters_listed rest (λ f there. more f (inr there)),
  )

  result_listed : IsBoundedBy program given (Hands program b) (written_running program (run_as b) s b.header.result)
  result_listed = written_listed (Hands program b) b.header.result (result_handed program b given)

module _ (program : List ModuleParts) (noted : List NotedParts) where
  -- what is of the types of parameters in a way in which a function is called is held by it
  way_held : (key : Key program noted) (b : Bodied) → run_as b ≡ key.body
      → AreBoundedBy program key.one.given (Holds program b) ((ways program noted).parameters key)
  way_held key b same =
      subst (λ (body : BodyOf). AreBoundedBy program key.one.given (Holds program b)
      (map (λ (p : Labelled Bytes). written_running program body key.s p.of) body.header.parameters)) same
      (parameters_listed program b key.one.given key.s
      (subst (λ (body : BodyOf). StandsFor (heads_of program) (written_params body.generics) key.one.given key.s)
      (sym same)
      key.stands) b.header.parameters (λ f there. there))

  way_handed : (key : Key program noted) (b : Bodied) → run_as b ≡ key.body
      → IsBoundedBy program key.one.given (Hands program b) ((ways program noted).result key)
  way_handed key b same =
      subst (λ (body : BodyOf). IsBoundedBy program key.one.given (Hands program b)
      (written_running program body key.s body.header.result)) same
      (result_listed program b key.one.given key.s
      (subst (λ (body : BodyOf). StandsFor (heads_of program) (written_params body.generics) key.one.given key.s)
      (sym same)
      key.stands))

  -- ---- what is handed on

  -- the arguments of the calls in the text of the body of a way in which a function is called
  record Argument : Type 0 where
    key : Key program noted
    e : NotedExpression
    there : Contains (arguments_by_block key.body.block) e

  abbrev arguments : Permits (Key program noted) Argument
  arguments = record { way = λ one. one.key; type = λ one. type_of one.e }

  -- an argument of this type in the text of a block
  abbrev IsArgument : NotedStatements → Meaning → Type 0
  IsArgument block t = (e : NotedExpression) × Contains (arguments_by_block block) e × (type_of e ≡ t)

  argument_of : (key : Key program noted) (t : Meaning) → IsPermitted arguments key t → IsArgument key.body.block t
  argument_of key t (one, way, is) =
      (one.e, subst (λ (k : Key program noted). Contains (arguments_by_block k.body.block) one.e) way one.there, is)

  -- what is permitted in the ways in which calls are made covers the body of each function
  covered : (key : Key program noted)
      → Covers
      (MayHold (anything (Made program noted)) (by_key program noted key)
      (AreGoodHere program noted key.body.place (generics_of program noted key.body key.one.given) key.one.given))
      (IsPermitted arguments key) (outside_of program key.body.place Body)
      (generics_of program noted key.body key.one.given) key.body.header.parameters key.body.block
  covered key =
      let way = by_key program noted key in
      record {
        integers = λ kind s stands. ((way, running s 0 (integer kind)), refl, refl);
        references = λ mode region t of lent held s stands.
            ((way, running s 0 (borrow_type mode region of)), refl, refl);
        given = λ p there t is s stands. ((way, running s 0 t), refl, refl);
        written = λ w there sc outside generics t is s stands. ((way, running s 0 t), refl, refl);
        handed = λ e there. (record { key = key; e = e; there = there }, refl, refl);
      }

  module _ (key : Key program noted) where
    -- running types of arguments in a body
    abbrev AreArguments : BodyOf → List Meaning → Type 0
    AreArguments body kinds =
        AreHandedAs (heads_of program) (parameters (generics_of program noted body key.one.given))
        (IsPermitted arguments key)
        (AreGoodHere program noted body.place (generics_of program noted body key.one.given) key.one.given) kinds

    kinds_handed : (b : Bodied) → run_as b ≡ key.body → (kinds : List Meaning) → AreArguments (run_as b) kinds
        → AreBoundedBy program key.one.given (Hands program b) kinds
    kinds_handed b same [] are = tt
    kinds_handed b same (kind ∷ kinds) ((s, z, regions, t, good, whole, may, is), others) =
        let its = argument_of key t may in
        let there : Contains (arguments_by_block b.block) its.0 =
        subst (λ (body : BodyOf). Contains (arguments_by_block body.block) its.0) (sym same) its.1 in (
          (
            closed_under key.one.given t,
            subst (λ k. closed k ≡ Some (closed_under key.one.given t)) is
                (known_closes (heads_of program) (parameters (generics_of program noted (run_as b) key.one.given))
                regions
                key.one.given s z t good.0 whole),
            λ h reaches.
                arguments_handed program b key.one.given its.0 there h
                (subst (λ u. ClosedReaches program (closed_under key.one.given u) h) (sym its.2) reaches),
          ),
          kinds_handed b same kinds others,
        )

  -- Calls from a way in which a function is called, made in a way to whose arguments it hands on what it may.
  record Call : Type 0 where
    from : Key program noted
    to : Made program noted
    handed : AreHandedBy program noted (Some from.one) to.kinds

  abbrev from : Call → Key program noted
  from call = call.from

  abbrev to : Call → Made program noted
  to call = call.to

  -- ---- what functions and methods are passed

  -- the types of the parameters of a function in a way in which it is called
  way_taken : (key : Key program noted) → AreHeldBy program noted key.one ((ways program noted).parameters key)
  way_taken key =
      let its = run_there program noted key.one.of key.body key.there in
      record {
        key = key;
        called = refl;
        takes = refl;
        body = its.0;
        runs = its.1.run;
        listed = way_held key its.0 its.2;
      }

  act_taken : (act : views.Act Instance) (kinds : List Meaning) (t : Meaning)
      → Performs (types_of program) (owner_of program) (somewhere program noted) (ways program noted) (λ k. true) act
      kinds t
      → AreTakenBy program noted act kinds
  act_taken (invokes one) kinds t (key, of, takes, leads, on) =
      subst (λ (f : Instance). AreHeldBy program noted f kinds) of
      (subst (AreHeldBy program noted key.one) takes (way_taken key))
  act_taken (makes of tag home) kinds t h = (t, h.0)
  act_taken (ships call born) kinds t h = (t, h)

  module _ (watch : Watch Instance) (lets : LetsPass program noted watch) (first : Instance → ℕ)
      (checked : IsChecked program noted) where
    abbrev functions : Instance → Option (Function Instance Note (Unit {0}))
    functions = generic_functions program noted first

    safe : RunsAreSafe (types_of program) (owner_of program)
    safe = runs_are_safe (types_of program) (owner_of program) (checked_typed program noted checked)

    leads : (key : Key program noted)
        → LeadsOn program noted checked from to arguments (anything (Made program noted)) key
    leads key one are =
        let its = run_there program noted key.one.of key.body key.there in
        let bounded = kinds_handed key its.0 its.2 one.kinds
        (subst (λ (body : BodyOf). AreArguments key body one.kinds) (sym its.2) are) in
        (record { from = key; to = one; handed = (its.0, its.1.run, bounded) }, refl, refl)

    all_act : AllAct (types_of program) (owner_of program) (somewhere program noted) (ways program noted)
        (anything (Made program noted)) from to functions
    all_act key = (
      function_under program noted (first key.one) key.one.given key.body,
      ap (option_map (function_under program noted (first key.one) key.one.given)) key.there,
      λ of. refl,
      may_act program noted checked from to arguments (anything (Made program noted)) key (leads key) first
          (covered key),
    )

    lets_pass : (caller : Option Instance) (act : views.Act Instance) (kinds : List Meaning)
        → AreTakenBy program noted act kinds → AreHandedBy program noted caller kinds → (acts : List Act)
        (fs : List Frame) (sizes : List ℕ) (made under : forest.Made) (w : World) → types_made made ≡ kinds
        → IsIn (types_of program) (owner_of program) acts fs sizes (onto made under) w
        → watch.passed caller act (values_of made) w ≡ true
    lets_pass caller act kinds taken handed acts fs sizes made under w typed state =
        lets.passed caller act (values_of made) w (record {
          kinds = kinds;
          typed = record {
            made = made;
            are = refl;
            have = typed;
            acts = acts;
            frames = fs;
            sizes = sizes;
            under = under;
            state = state;
          };
          taken = taken;
          handed = handed;
        })

    begins : Begins (types_of program) (owner_of program) (somewhere program noted) (ways program noted)
        (anything (Made program noted)) from to watch
    begins key acts fs sizes made under w typed state =
        lets_pass None (invokes key.one) ((ways program noted).parameters key) (way_taken key) tt acts fs sizes made
        under w typed state

    passes : Passes (types_of program) (owner_of program) (somewhere program noted) (ways program noted)
        (anything (Made program noted)) from to watch
    passes call acts fs sizes made under w typed state =
        lets_pass (Some call.from.one) call.to.act call.to.kinds
        (act_taken call.to.act call.to.kinds call.to.result
        (call.to.performs (λ k. true) (all_active call.to.tokens))) call.handed acts fs sizes made under w typed state

    returns : Returns (types_of program) (owner_of program) (somewhere program noted) (ways program noted)
        (anything (Made program noted)) from to watch
    returns key acts fs sizes under v w state =
        let its = run_there program noted key.one.of key.body key.there in
        lets.returned key.one v w (record {
          key = key;
          called = refl;
          typed = record {
            made = (v, (ways program noted).result key) ∷ [];
            are = refl;
            have = refl;
            acts = acts;
            frames = fs;
            sizes = sizes;
            under = under;
            state = state;
          };
          body = its.0;
          runs = its.1.run;
          listed = way_handed key its.0 its.2;
        })

    -- a run from a way in which an entry is called is the same under a watch
    way_same : (key : Key program noted)
        → IsEntry (types_of program) (owner_of program) (ways program noted) functions key
        → (input : List ℕ) (ticks : ℕ)
        → watched_mean watch functions key.one input ticks ≡ mean functions key.one input ticks
    way_same key entry input ticks = by (means_alike functions watch key.one input ticks)
      where
        well : IsSeenWell (owner_of program) (watched_mean watch functions key.one input ticks)
        well =
            watched_well (types_of program) (owner_of program) (somewhere program noted) (ways program noted)
            (anything (Made program noted)) from to watch safe functions all_act begins passes returns key entry input
            ticks

        by : IsOne
            (begun (parameters_of (functions key.one)) (λ args. tested (watch.passed None (invokes key.one) args)
            (watched_at watch functions (suc ticks) key.one args)) (first_world input) ticks)
            (begun (parameters_of (functions key.one)) (call_at functions (suc ticks) key.one) (first_world input)
            ticks)
            → watched_mean watch functions key.one input ticks ≡ mean functions key.one input ticks
        by (inl same) = ap (seen ticks) same
        by (inr stuck) = absurd (no_stuck (owner_of program) ticks _ stuck well)

  pub calls_listed : IsChecked program noted → CallsAreListed program noted
  calls_listed checked watch lets first target entry input ticks =
      let (key, called, its) = entry_way program noted checked target entry first in
      subst (λ (one : Instance). watched_mean watch (generic_functions program noted first) one input ticks
      ≡ mean (generic_functions program noted first) one input ticks) called
      (way_same watch lets first checked key its input ticks)

pub accepted_calls_listed : AcceptedCallsAreListed
accepted_calls_listed files names all reads a =
    calls_listed (program_modules reads) a.noted (accepted_checked files names all reads a)
