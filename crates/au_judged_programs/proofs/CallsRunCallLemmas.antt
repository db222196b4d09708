-- Good calls in a body, by what they call.
use Rattle.std.proofs.Common.{◌≡◌, ℕ, Bool, true, List, [], Option, None, Some, refl, sym, ap, ◌∙◌, subst}
use Rattle.std.specs.Option.{option_map}
use Rattle.std.proofs.lemmas.Option.{none-some}
use Rattle.au_shipped.specs.declared.prims.ShippedCall.{ShippedCall}
use Rattle.au_shipped.specs.Calls.{prim_of}
use Rattle.au_syntax.specs.declared.modules.Part.TheVariants.{Body}
use Rattle.au_syntax.specs.Modules.{constant, opaque_type, record_type, union_type, function, class}
use Rattle.au_syntax.specs.Modules.{instance, constant_body, function_body, instance_body}
use Rattle.au_syntax.specs.Plain.{Bytes, PlainDeclaration}
use Rattle.au_types.specs.declared.spaces.Space.TheVariants.{Callables}
use Rattle.au_types.specs.Tables.{find}
use Rattle.au_types.specs.Types.{Argument, Meaning, in_region, of_type}
use Rattle.au_matching.specs.Bindings.{Bindings, value_of}
use Rattle.au_matching.proofs.LawLemmas.{well_formed_stands}
use Rattle.au_judged_types.specs.Bounds.{Bounded, parameters}
use Rattle.au_instances.specs.Instances.{Holds}
use Rattle.au_instances.specs.Pairs.{constraints_of}
use Rattle.au_classes.specs.Rows.{rows_of}
use Rattle.au_running_types.specs.Running.{argument_running, called as called_at, running}
use Rattle.au_running_types.proofs.NameLemmas.{callees_run}
use Rattle.au_type_texts.specs.Given.{Given}
use Rattle.au_modules.specs.Programs.{ModuleParts}
use Rattle.au_names.specs.declared.targets.Target.{Target}
use Rattle.au_names.specs.HeadsOf.{heads_of}
use Rattle.au_names.specs.Standing.{Standing, standing_at, whole_name}
use Rattle.au_judged_bodies.specs.Leading.{module_name}
use Rattle.au_judged_bodies.specs.Called.{callable_at, callable_standing, declared_callable}
use Rattle.au_judged_bodies.specs.Calls.{GoodCall, Shown, wanted_of}
use Rattle.au_judged_bodies.specs.Notes.{Note}
use Rattle.au_judged_bodies.specs.Outsides.{outside_of}
use Rattle.au_judged_bodies.specs.Scopes.{Outside, Scope, Typed, Variable}
use Rattle.au_judged_bodies.specs.Trees.{NotedParts}
use Rattle.au_judged_bodies.specs.Written.{seen_at}
use Rattle.au_meaning.specs.Names as meaning
use Rattle.au_judged_bodies.specs.Tables.{types_of}
use Rattle.au_judged_bodies.specs.Generic.{view_under}
use Rattle.au_owners.specs.Owners.{owner_of}
use Rattle.au_judged_bodies.specs.KnownTypes.Known.{ModeIsKnownIn}
use Rattle.au_judged_bodies.specs.Laws.{CallIsKnown}
use Rattle.au_judged_bodies.proofs.CallLemmas.{result_known}
use Rattle.au_judged_bodies.specs.StandingTypesStanding.{StandsFor}
use Rattle.au_judged_bodies.specs.Frames.{FrameFits}
use Rattle.au_judged_bodies.specs.TypedRunsLaws.{CallsRun}
use Rattle.au_judged_bodies.specs.Callees.{IsPut}
use Rattle.au_judged_bodies.specs.Sights.{CallIsSeen}
use Rattle.au_judged_bodies.proofs.ArgumentLemmas.{seen_run}
use Rattle.au_judged_bodies.proofs.MakerLemmas.{maker_seen}
use Rattle.au_judged_bodies.specs.Functions.{BodyRuns, IsDeclaredWell}
use Rattle.au_judged_bodies.specs.Keys.{ConstraintsHold, Key, ways}
use Rattle.au_judged_bodies.specs.Known.{Calls, callees}
use Rattle.au_judged_bodies.proofs.FunctionLemmas.{function_seen}
use Rattle.au_judged_programs.proofs.HoldLemmas.{constraint_wanted, held_here, holds_run, known_holds}
use Rattle.au_judged_programs.specs.CalledBodiesBodies.{FunctionIsThere, is_function}
use Rattle.au_judged_programs.proofs.CalledBodiesBodyLemmas.{function_there}
use Rattle.au_judged_programs.specs.RoundProgramsBodies.{AllowsHere, AreGoodHere}
use Rattle.au_judged_programs.specs.Programs.{OthersAreSeen, ProgramFits, has_headers, is_class}

module _ (program : List ModuleParts) (trees : List NotedParts) (place : ℕ) (generics : List Bounded) (given : Given)
    (fits : ProgramFits program trees) (others : OthersAreSeen program trees place generics given)
    (names : ℕ → Meaning) (active : ℕ → Bool) (scope : meaning.Scope) (s : Bindings) (z : ℕ)
    (stands : StandsFor (heads_of program) (parameters generics) given s) (holds : ConstraintsHold program generics s)
    {E : Type 0} (calls : Calls (Key program trees) E) (key : Key program trees) (may_hand : Meaning → Type 0)
    (allows : AllowsHere program trees place generics given (ways program trees) calls key may_hand) where
  abbrev Frame : Scope → Type 0
  Frame sc =
      FrameFits (types_of program) (view_under program trees place (parameters generics) given) names active sc scope s
      given z

  abbrev Runs : Scope → Type 0
  Runs sc =
      CallsRun (types_of program) (owner_of program) (view_under program trees place (parameters generics) given)
      (callees (ways program trees) calls key) may_hand names active sc scope s given z

  module _ (result : Meaning) (regions : List Bytes) (variables : List Variable) where
    abbrev here : Scope
    here = record {
      outside = outside_of program place Body;
      generics = generics;
      result = result;
      regions = regions;
      variables = variables;
    }

    module _ (frame : Frame here) where
      runs : BodyRuns program (parameters generics) regions given s z active
      runs = record { stands = stands; here = frame.here; opened = frame.regions; within = frame.within }

      module _ (note : Note) (name : Bytes) (takes : List Typed → Option (List Meaning)) (args : List Shown)
          (good : GoodCall here note name takes args) (mode : ModeIsKnownIn here note.mode)
          (known : CallIsKnown here note name takes args good) where
        abbrev Seen : Type 0
        Seen =
            CallIsSeen (types_of program) (owner_of program) (view_under program trees place (parameters generics)
            given)
            (ways program trees) active s z note name good.called good.ends

        noted : note.call ≡ Some good.ends
        noted = ap (λ (n : Note). n.call) good.is_noted

        -- the constraints of what is called hold
        holds_called : ConstraintsHold program good.called.generics (called_at s z good.ends)
        holds_called p wanted value c e =
            by (value_of p good.ends) refl (sym (callees_run s good.ends z p) ∙ e)
          where
            at : (x : Meaning) → value_of p good.ends ≡ Some (of_type x)
                → Holds (rows_of program) (heads_of program) [] [] wanted (running s z x)
            at x is =
                holds_run (rows_of program) (heads_of program) fits.table (parameters generics)
                (constraints_of generics) s z
                stands.formed (known_holds program generics s holds) wanted x
                (held_here here fits.table good.ends (wanted_of good.called) good.all_hold p wanted x is
                (constraint_wanted good.called p wanted c))
                (well_formed_stands (heads_of program) (parameters generics) x (known.values p (of_type x) is).0)

            by : (o : Option Argument) → value_of p good.ends ≡ o
                → option_map (argument_running s z) o ≡ Some (of_type value)
                → Holds (rows_of program) (heads_of program) [] [] wanted value
            by None is same = absurd (none-some (of_type value) same)
            by (Some (of_type x)) is same =
                let value_is : running s z x ≡ value = cc in
                subst (Holds (rows_of program) (heads_of program) [] [] wanted) value_is (at x is)
            by (Some (in_region r)) is same = absurd cc

        puts : IsPut (heads_of program) (parameters generics) regions (parameters good.called.generics) good.ends
        puts = record { values = known.values; fit = known.fit; fixes = known.fixes }

        module _ (target : Target) (means : find name (seen_at Callables program place Body) ≡ Some target)
            (d : Standing)
            (found : standing_at program target.at ≡ Some d)
            (declared : declared_callable program d target.at target.name d.says ≡ Some good.called) where
          well : has_headers d.says ≡ true → IsDeclaredWell program good.called
          well headers = record {
            apart = fits.headers target d good.called found headers declared;
            takes = frame.known.outside.takes name good.called good.is_called;
            gives = frame.known.outside.gives name good.called good.is_called;
          }

          by_function : has_headers d.says ≡ true → FunctionIsThere program trees target d good.called → Seen
          by_function headers there = by (prim_of (module_name program target.at.«module») there.declared None) refl
            where
              by : (o : Option ShippedCall) → prim_of (module_name program target.at.«module») there.declared None ≡ o
                  → Seen
              by None none =
                  let its = there.stands none in
                  function_seen (types_of program) (owner_of program) program trees place (parameters generics) regions
                  given s z active runs note name target d there.declared good.called good.ends its.0 means found
                  there.leads
                  none its.1 its.2 (well headers) noted (ap (λ (n : Note). n.of) good.is_noted) puts holds_called
              by (Some prim) is =
                  (others regions s z active runs holds).0 note name target d good.called good.ends there.declared
                  prim there.leads
                  is means found declared (well headers) noted (ap (λ (n : Note). n.of) good.is_noted) puts

          by_maker : (type : Bytes) → whole_name d.says ≡ Some type → Seen
          by_maker type whole =
              maker_seen program trees fits.fit fits.apart fits.own place (parameters generics) regions given s z stands
              (ways program trees) active note name target d type good.called good.ends means found whole declared
              (frame.known.outside.takes name good.called good.is_called)
              (ap (λ (n : Note). n.of) good.is_noted)
              (result_known here note name takes args good known
              (frame.known.outside.gives name good.called good.is_called))
              known.fixes

          by_says : (says : PlainDeclaration) → d.says ≡ says
              → declared_callable program d target.at target.name says ≡ Some good.called → Seen
          by_says (function at gs h) is e =
              by_function (ap has_headers is) (function_there program trees fits.erased fits.kept fits.parts
              fits.shipped fits.meant target d good.called
              found (ap is_function is) declared)
          by_says (function_body at gs h block stop) is e =
              by_function (ap has_headers is) (function_there program trees fits.erased fits.kept fits.parts
              fits.shipped fits.meant target d good.called
              found (ap is_function is) declared)
          by_says (class at n p methods) is e =
              (others regions s z active runs holds).1 note name target d good.called good.ends (ap is_class is)
              (here, refl, refl, good.all_hold) means found
              declared (well (ap has_headers is)) noted (ap (λ (n : Note). n.of) good.is_noted) puts
          by_says (record_type at n ps u fields) is e = by_maker n.name (ap whole_name is)
          by_says (union_type at n ps u cases) is e = by_maker n.name (ap whole_name is)
          by_says (constant at n t) is e = absurd (none-some good.called e)
          by_says (opaque_type at n ps u) is e = absurd (none-some good.called e)
          by_says (instance at gs n t) is e = absurd (none-some good.called e)
          by_says (constant_body at n t v) is e = absurd (none-some good.called e)
          by_says (instance_body at gs n t ms) is e = absurd (none-some good.called e)

        pub call_seen : Seen
        call_seen = by_target (find name (seen_at Callables program place Body)) refl good.is_called
          where
            by_found : (target : Target) → find name (seen_at Callables program place Body) ≡ Some target
                → (o : Option Standing) → standing_at program target.at ≡ o
                → callable_standing program target o ≡ Some good.called → Seen
            by_found target means None found e = absurd (none-some good.called e)
            by_found target means (Some d) found e = by_says target means d found e d.says refl e

            by_target : (o : Option Target) → find name (seen_at Callables program place Body) ≡ o
                → callable_at program o ≡ Some good.called → Seen
            by_target None means e = absurd (none-some good.called e)
            by_target (Some target) means e = by_found target means (standing_at program target.at) refl e

      here_run : Runs here
      here_run =
          seen_run (types_of program) (owner_of program)
          (view_under program trees place (parameters generics) given) (ways program trees) active s z names here
          scope given
          calls key may_hand (AreGoodHere program trees place generics given) (stands, holds) allows frame.known
          (λ note name takes args good mode known. call_seen note name takes args good mode known)

pub all_run : (program : List ModuleParts) (trees : List NotedParts) (place : ℕ) (generics : List Bounded)
    (given : Given)
    {E : Type 0} (calls : Calls (Key program trees) E) (key : Key program trees) (may_hand : Meaning → Type 0)
    → ProgramFits program trees → OthersAreSeen program trees place generics given
    → AllowsHere program trees place generics given (ways program trees) calls key may_hand
    → (names : ℕ → Meaning) (active : ℕ → Bool) (sc : Scope) (scope : meaning.Scope) (s : Bindings) (z : ℕ)
    → sc.outside ≡ outside_of program place Body → sc.generics ≡ generics
    → StandsFor (heads_of program) (parameters generics) given s → ConstraintsHold program generics s
    → FrameFits (types_of program) (view_under program trees place (parameters generics) given) names active sc scope s
    given z
    → CallsRun (types_of program) (owner_of program) (view_under program trees place (parameters generics) given)
    (callees (ways program trees) calls key) may_hand names active sc scope s given z
all_run program trees place generics given calls key may_hand fits others allows names active sc scope s z outside
    over stands holds frame =
    subst (λ (gs : List Bounded). Goes (in_scope sc.outside gs)) (sym over)
    (subst (λ (o : Outside). Goes (in_scope o generics)) (sym outside)
    (λ f. here_run program trees place generics given fits others names active scope s z stands holds calls key
    may_hand allows
    sc.result sc.regions
    sc.variables f)) frame
  where
    in_scope : Outside → List Bounded → Scope
    in_scope o gs = record {
      outside = o;
      generics = gs;
      result = sc.result;
      regions = sc.regions;
      variables = sc.variables;
    }

    Goes : Scope → Type 0
    Goes x = Frame program trees place generics given fits others names active scope s z stands holds calls key may_hand
        allows x
        → Runs program trees place generics given fits others names active scope s z stands holds calls key may_hand
        allows x
