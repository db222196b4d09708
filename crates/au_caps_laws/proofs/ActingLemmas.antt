-- The functions of a checked program may be run as their calls are seen, in ways to which what is handed on leads.
use Rattle.std.proofs.Common.{◌≡◌, ℕ, Bool, List, [], Option, refl, sym, ap, subst}
use Rattle.std.specs.Option.{option_map}
use Rattle.au_syntax.specs.declared.modules.Part.TheVariants.{Body}
use Rattle.au_syntax.specs.Plain.{Bytes}
use Rattle.au_types.specs.declared.parameters.Parameter.{Parameter}
use Rattle.au_types.specs.Types.{Meaning}
use Rattle.au_matching.specs.Bindings.{Bindings}
use Rattle.au_type_texts.specs.Given.{Given}
use Rattle.au_type_texts.specs.Types.{ClosedType}
use Rattle.au_judged_types.specs.Bounds.{Bounded, parameters}
use Rattle.au_modules.specs.Programs.{ModuleParts}
use Rattle.au_names.specs.HeadsOf.{heads_of}
use Rattle.au_typing.specs.Notes.{Note}
use Rattle.au_typing.specs.Outsides.{outside_of}
use Rattle.au_typing.specs.Scopes.{Callable, Outside, Scope, Variable}
use Rattle.au_typing.specs.Trees.{NotedParts}
use Rattle.au_closing.specs.Instances.{Instance}
use Rattle.au_closed_meanings.specs.Generic.{function_under, view_under}
use Rattle.au_memory.specs.Loans.{Types}
use Rattle.au_meaning.specs.Names as meaning
use Rattle.au_meaning.specs.Views.{Act, View, invokes, makes, ships}
use Rattle.au_running_judgements.specs.Expressions.{Performs}
use Rattle.au_tables.specs.Tables.{types_of}
use Rattle.au_owners.specs.Owners.{owner_of}
use Rattle.au_judged_bodies.specs.Blocks.{MayRun}
use Rattle.au_judged_bodies.specs.Covering.{Covers, MayHold}
use Rattle.au_judged_bodies.specs.Frames.{FrameFits}
use Rattle.au_judged_bodies.specs.Held.{IsPermitted, Permits}
use Rattle.au_judged_bodies.specs.Keys.{ConstraintsHold, Key, ways}
use Rattle.au_judged_bodies.specs.Known.{Callables, Calls, callees}
use Rattle.au_judged_bodies.specs.Rounds.{RoundFits}
use Rattle.au_judged_bodies.specs.Sights.{AreHandedAs, CallIsSeen}
use Rattle.au_judged_bodies.specs.StandingTypesStanding.{StandsFor}
use Rattle.au_judged_bodies.specs.TypedRunsLaws.{CallsRun}
use Rattle.au_judged_bodies.proofs.ArgumentLemmas.{seen_run}
use Rattle.au_judged_programs.specs.CheckedChecked.{IsChecked}
use Rattle.au_judged_programs.specs.Judged.{anywhere}
use Rattle.au_judged_programs.specs.RoundProgramsBodies.{AreGoodHere}
use Rattle.au_judged_programs.specs.RunningBodiesBodies.{generics_of}
use Rattle.au_judged_programs.proofs.CallsRunCallLemmas.{call_seen}
use Rattle.au_judged_programs.proofs.CheckedLemmas.{program_fits}
use Rattle.au_judged_programs.proofs.ConstantLemmas.{constants_of_programs_stand}
use Rattle.au_judged_programs.proofs.JudgedLemmas.{function_tells, may_run_seen}
use Rattle.au_judged_programs.proofs.RoundLemmas.{round_fits}
use Rattle.au_judged_programs.proofs.SoundEntriesCallLemmas.{calls_of_programs, others_seen}
use Rattle.au_caps_laws.specs.Watching.{act_called, acting, acting_function}
use Rattle.au_caps_laws.proofs.AlwaysLemmas.{Performed, invoked, performed, performed_in}
use Rattle.au_caps_laws.proofs.WatchLemmas.{made_calls}

-- ---- what fits a view fits it where calls are seen

module _ (types : Types) {I : Type 0} (see : View I Note (Unit {0})) where
  module _ (names : ℕ → Meaning) (active : ℕ → Bool) (sc : Scope) (scope : meaning.Scope) (s : Bindings)
      (given : Given) (z : ℕ) where
    frame_fits : FrameFits types (acting see) names active sc scope s given z
        → FrameFits types see names active sc scope s given z
    frame_fits f = record {
      known = f.known;
      here = f.here;
      noted = f.noted;
      copied = f.copied;
      free = f.free;
      readers = f.readers;
      variables = λ name v is.
          let its = f.variables name v is in
          record { variable = its.variable; means = its.means; stands = its.stands; of = its.of };
      others = f.others;
      constants = f.constants;
      wholes = f.wholes;
      records = λ t fields whole is.
          let its = f.records t fields whole is in
          record { closed = its.closed; runs = its.runs; alone = its.alone };
      regions = f.regions;
      within = f.within;
    }

  module _ (owner : ClosedType → Option (List ℕ)) {K L : Type 0} (known : Callables I K) (inner : Callables (Act I) L)
      (may_hand : Meaning → Type 0) (outside : Outside) (generics : List Bounded) (given : Given)
      (Stands : Bindings → Type 0) where
    round_seen : RoundFits types owner see known may_hand outside generics given Stands
        → ((names : ℕ → Meaning) (active : ℕ → Bool) (sc : Scope) (scope : meaning.Scope) (s : Bindings) (z : ℕ)
        → sc.outside ≡ outside → sc.generics ≡ generics → Stands s
        → FrameFits types (acting see) names active sc scope s given z
        → CallsRun types owner (acting see) inner may_hand names active sc scope s given z)
        → RoundFits types owner (acting see) inner may_hand outside generics given Stands
    round_seen r calls = record {
      noted = r.noted;
      readers = r.readers;
      free = r.free;
      copied = r.copied;
      constants = r.constants;
      wholes = r.wholes;
      records = λ s regions z t fields stands whole is.
          let its = r.records s regions z t fields stands whole is in
          (record { closed = its.0.closed; runs = its.0.runs; alone = its.0.alone }, its.1);
      unions = λ s regions z t cases stands whole is.
          let its = r.unions s regions z t cases stands whole is in
          record {
            at = its.at;
            args = its.args;
            declared = its.declared;
            some = its.some;
            has_one = its.has_one;
            closed = its.closed;
            runs = its.runs;
            only = its.only;
            means = its.means;
            apart = its.apart;
            fields = its.fields;
          };
      last = r.last;
      opens = r.opens;
      calls = calls;
    }

module _ (program : List ModuleParts) (noted : List NotedParts) where
  -- whether types are linear is seen alike in all views of a program
  abbrev pub somewhere : View Instance Note (Unit {0})
  somewhere = view_under program noted 0 [] []

  -- the ways in which calls are made
  abbrev pub Made : Type 0
  Made = Performed (types_of program) (owner_of program) somewhere (ways program noted)

  abbrev pub made : Callables (Act Instance) Made
  made = performed (types_of program) (owner_of program) somewhere (ways program noted)

  abbrev pub by_key : Key program noted → Made
  by_key key = invoked (types_of program) (owner_of program) somewhere (ways program noted) key

  module _ (place : ℕ) (params : List Parameter) (given : Given) (active : ℕ → Bool) where
    performs_alike : (act : Act Instance) (kinds : List Meaning) (t : Meaning)
        → Performs (types_of program) (owner_of program) (view_under program noted place params given)
        (ways program noted) active act kinds t
        → Performs (types_of program) (owner_of program) somewhere (ways program noted) active act kinds t
    performs_alike (invokes one) kinds t h = h
    performs_alike (makes of tag home) kinds t h = h
    performs_alike (ships call born) kinds t h = h

    -- what a call calls is what it does
    act_seen : (s : Bindings) (z : ℕ) (note : Note) (name : Bytes) (called : Callable) (put : Bindings)
        → CallIsSeen (types_of program) (owner_of program) (view_under program noted place params given)
        (ways program noted) active s z note name called put
        → CallIsSeen (types_of program) (owner_of program) (acting (view_under program noted place params given)) made
        active s z note name called put
    act_seen s z note name called put seen = record {
      one = act_called seen.one;
      seen = λ c. ap (option_map act_called) (seen.seen c);
      parameters = seen.parameters;
      apart = seen.apart;
      performs = performed_in (types_of program) (owner_of program) somewhere (ways program noted)
          (acting (view_under program noted place params given)) active seen.one.act _ _
          (performs_alike seen.one.act _ _ seen.performs);
    }

  -- What is handed on at a key leads to each way whose arguments are of such types.
  module _ (checked : IsChecked program noted) {E H W : Type 0} (from : E → Key program noted) (to : E → Made)
      (handed : Permits (Key program noted) H) (permits : Permits Made W) where
    abbrev calls : Calls Made E
    calls =
        made_calls (types_of program) (owner_of program) somewhere (ways program noted) permits from to

    module _ (key : Key program noted) where
      abbrev given : Given
      given = key.one.given

      abbrev generics : List Bounded
      generics = generics_of program noted key.body given

      abbrev Good : Bindings → Type 0
      Good = AreGoodHere program noted key.body.place generics given

      abbrev view : View Instance Note (Unit {0})
      view = view_under program noted key.body.place (parameters generics) given

      abbrev inner : Callables (Act Instance) ((one : E) × (calls.from one ≡ by_key key))
      inner = callees made calls (by_key key)

      -- calls from here lead to each way whose arguments are of running types of what may be handed on
      abbrev pub LeadsOn : Type 0
      LeadsOn =
          (one : Made)
          → AreHandedAs (heads_of program) (parameters generics) (IsPermitted handed key)
          (AreGoodHere program noted key.body.place generics given) one.kinds
          → (e : E) × (by_key (from e) ≡ by_key key) × (to e ≡ one)

      module _ (leads : LeadsOn) where
        module _ (names : ℕ → Meaning) (active : ℕ → Bool) (scope : meaning.Scope) (s : Bindings) (z : ℕ)
            (stands : StandsFor (heads_of program) (parameters generics) given s)
            (holds : ConstraintsHold program generics s) where
          abbrev Runs : Scope → Type 0
          Runs sc =
              FrameFits (types_of program) (acting view) names active sc scope s given z
              → CallsRun (types_of program) (owner_of program) (acting view) inner (IsPermitted handed key) names active
              sc scope s given z

          module _ (result : Meaning) (regions : List Bytes) (variables : List Variable) where
            abbrev here : Scope
            here = record {
              outside = outside_of program key.body.place Body;
              generics = generics;
              result = result;
              regions = regions;
              variables = variables;
            }

            here_run : Runs here
            here_run frame =
                let fits = frame_fits (types_of program) view names active here scope s given z frame in
                seen_run (types_of program) (owner_of program) (acting view) made active s z names here scope given
                calls (by_key key) (IsPermitted handed key) Good (stands, holds) leads frame.known
                (λ note name takes args good mode known.
                act_seen key.body.place (parameters generics) given active s z note name good.called good.ends
                (call_seen program noted key.body.place generics given (program_fits program noted checked)
                (others_seen program noted checked key) names active scope s z stands holds
                (anywhere (Key program noted)) key (λ t. Unit {0}) (λ other are. ((key, other), refl, refl))
                result regions variables fits note name takes args good mode known))

          run_in : (sc : Scope) → sc.outside ≡ outside_of program key.body.place Body → sc.generics ≡ generics → Runs sc
          run_in sc outside over =
              subst (λ (gs : List Bounded). Runs (in_scope sc.outside gs)) (sym over)
              (subst (λ (o : Outside). Runs (in_scope o generics)) (sym outside)
              (here_run sc.result sc.regions sc.variables))
            where
              in_scope : Outside → List Bounded → Scope
              in_scope o gs = record {
                outside = o;
                generics = gs;
                result = sc.result;
                regions = sc.regions;
                variables = sc.variables;
              }

        round : RoundFits (types_of program) (owner_of program) (acting view) inner (IsPermitted handed key)
            (outside_of program key.body.place Body) generics given Good
        round =
            round_seen (types_of program) view (owner_of program)
            (callees (ways program noted) (anywhere (Key program noted)) key) inner (IsPermitted handed key)
            (outside_of program key.body.place Body) generics given Good
            (round_fits program noted key.body.place generics given (owner_of program)
            (callees (ways program noted) (anywhere (Key program noted)) key) (IsPermitted handed key) checked
            (constants_of_programs_stand program noted checked key.body.place generics given)
            (calls_of_programs program noted (anywhere (Key program noted)) handed checked
            (λ k other are. ((k, other), refl, refl)) key))
            (λ names active sc scope s z outside over stands frame.
            run_in names active scope s z stands.0 stands.1 sc outside over frame)

        -- The function may be run in its way as its calls are seen.
        pub may_act : (first : Instance → ℕ)
            → Covers (MayHold permits (by_key key) Good) (IsPermitted handed key)
            (outside_of program key.body.place Body) generics key.body.header.parameters key.body.block
            → MayRun (types_of program) (owner_of program) permits made calls
            (acting_function (function_under program noted (first key.one) given key.body)) (by_key key)
        may_act first covers =
            may_run_seen program noted (owner_of program) checked first key
            (λ ps. acting (view_under program noted key.body.place ps given))
            (function_tells program noted (owner_of program) checked first key) permits made calls (by_key key) handed
            covers round refl refl refl
