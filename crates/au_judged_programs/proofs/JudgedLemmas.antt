-- A function of a checked program in one of the ways in which it is called: typing, lives and names put together.
use Rattle.std.proofs.Common.{◌≡◌, ◌⊎◌, inl, inr, ℕ, suc, ◌+◌, Bool, true, List, [], ◌∷◌, length, map, Option, Some, Ok}
use Rattle.std.proofs.Common.{refl, sym, ap, ◌∙◌, subst, arith}
use Rattle.std.specs.Option.{option_map}
use Rattle.std.proofs.lemmas.List.{length-map}
use Rattle.std.proofs.lemmas.Option.{same_Some}
use Rattle.au_syntax.specs.declared.declarations.Universe.TheVariants as universes
use Rattle.au_syntax.specs.declared.modules.Part.TheVariants.{Body}
use Rattle.au_syntax.specs.Plain.{Bytes}
use Rattle.au_syntax.specs.Types.{Labelled, WrittenType}
use Rattle.au_types.specs.declared.parameters.Parameter.{Parameter}
use Rattle.au_types.specs.declared.types.Region.{Region}
use Rattle.au_types.specs.declared.types.Region.TheVariants.{Static, Named, Anonymous}
use Rattle.au_types.specs.Meant.{meant}
use Rattle.au_types.specs.Types.{Meaning, unit, writes}
use Rattle.au_types.specs.Universes.{universe_in}
use Rattle.au_matching.specs.Bindings.{value_of}
use Rattle.au_matching.specs.Substituted.{OfRegion, region_for}
use Rattle.au_judged_types.specs.Bounds.{Bounded, parameters}
use Rattle.au_judged_types.specs.Meanings.{written_params}
use Rattle.au_type_texts.specs.Given.{Given}
use Rattle.au_type_texts.specs.Types.{ClosedType}
use Rattle.au_running_types.specs.Running.{region_running, running, token}
use Rattle.au_written_types.specs.Written.{IsRegionName}
use Rattle.au_modules.specs.Programs.{ModuleParts}
use Rattle.au_names.specs.HeadsOf.{heads_of}
use Rattle.au_names.proofs.AmongLemmas.{Among, contains}
use Rattle.au_judged_bodies.specs.Typing.Bodies.{generics_in, outer_scope}
use Rattle.au_judged_bodies.specs.Lookups.{is_free_in, parameters_in, written_type}
use Rattle.au_judged_bodies.specs.Notes.{Note}
use Rattle.au_judged_bodies.specs.Outsides.{outside_of}
use Rattle.au_judged_bodies.specs.Scopes.{Outside, Scope}
use Rattle.au_judged_bodies.specs.Trees.{NotedParts}
use Rattle.au_judged_bodies.specs.Written.{types_at}
use Rattle.au_judged_bodies.specs.ClosedTrees.Parts.{field_under}
use Rattle.au_meaning.specs.Meanings.{scope_of}
use Rattle.au_meaning.specs.Views.{Function, View}
use Rattle.au_judged_bodies.specs.Blocks.{AreFine, MayDrop, MayRun, RunsAll, with_types}
use Rattle.au_judged_bodies.specs.Held.{IsPermitted, Permits}
use Rattle.au_judged_bodies.specs.Covering.{Covers, MayHold}
use Rattle.au_judged_bodies.specs.Known.{AreActive, Callables, Calls, InScope, callees}
use Rattle.au_judged_bodies.specs.KnownTypes.Known.{IsKnownIn}
use Rattle.au_judged_bodies.specs.StandingTypesStanding.{StandsFor}
use Rattle.au_judged_bodies.proofs.KnownLemmas.{writes_parts}
use Rattle.au_judged_bodies.proofs.NotedLemmas.{written_known}
use Rattle.au_judged_bodies.proofs.StandingTypesStandLemmas.{free_runs}
use Rattle.au_judged_bodies.specs.Besides.{BesidesAll}
use Rattle.au_judged_bodies.specs.Frames.{TypesAreUsable}
use Rattle.au_judged_bodies.specs.Begun.{AreMeant, kinds_given}
use Rattle.au_judged_bodies.specs.Tables.{types_of}
use Rattle.au_judged_programs.specs.RoundProgramsBodies.{AreGoodHere, CallsRunHere}
use Rattle.au_judged_programs.specs.CheckedChecked.{IsChecked}
use Rattle.au_judged_bodies.specs.Bodies.{BodyOf}
use Rattle.au_judged_bodies.specs.Generic.{field_seen, function_under, generic_functions, view_under}
use Rattle.au_judged_bodies.specs.Instances.{Instance}
use Rattle.au_judged_programs.proofs.ConstantLemmas.{constants_of_programs_stand}
use Rattle.au_judged_programs.specs.RunningBodiesBodies.{BodyRuns, generics_of}
use Rattle.au_judged_programs.proofs.RunningBodiesBodyLemmas.{meant_so, params_alike, seen_runs}
use Rattle.au_judged_programs.proofs.RoundLemmas.{round_fits}
use Rattle.au_judged_bodies.specs.Rounds.{RoundFits}
use Rattle.au_judged_bodies.specs.Said.{TellsFree}
use Rattle.au_judged_bodies.specs.Keys.{Key, meant_in_body, meant_or_unit, ways, written_running}
use Rattle.au_judged_bodies.specs.LivedBodiesBodies.{IsGoodFunction, sorts_in}
use Rattle.au_judged_bodies.specs.Lived.{loose_by}
use Rattle.au_judged_bodies.proofs.LivedBodiesBodyLemmas.{bodies_ahead}
use Rattle.au_judged_bodies.specs.Asked.{AreInBlock, MayDropGiven}
use Rattle.au_judged_bodies.proofs.AskedLemmas.{bodies_asked, parameters_drop}
use Rattle.au_judged_programs.proofs.CheckedBodiesBodyLemmas.{bodies_good}
use Rattle.au_judged_programs.specs.Judged.{CheckedProgramsAreJudged}

pub all_active : (zs : List ℕ) → AreActive (λ k. true) zs
all_active [] = tt
all_active (z ∷ zs) = (refl, all_active zs)

token_there : (active : ℕ → Bool) (region : Region) → InScope active region
    → (region ≡ Static) ⊎ ((z : ℕ) × (region ≡ token z))
token_there active region (inl static) = inl static
token_there active region (inr (z, is, on)) = inr (z, is)

module _ (program : List ModuleParts) (noted : List NotedParts) (owner : ClosedType → Option (List ℕ))
    (checked : IsChecked program noted) (first : Instance → ℕ) (key : Key program noted) where
  abbrev given : Given
  given = key.one.given

  abbrev function : Function Instance Note (Unit {0})
  function = function_under program noted (first key.one) given key.body

  abbrev outside : Outside
  outside = outside_of program key.body.place Body

  abbrev generics : List Bounded
  generics = generics_of program noted key.body given

  abbrev outer : Scope
  outer = outer_scope outside generics

  abbrev labels : List (Labelled Bytes)
  labels = key.body.header.parameters

  there : generic_functions program noted first key.one ≡ Some function
  there = ap (option_map (function_under program noted (first key.one) given)) key.there

  -- ---- the body is good

  abbrev IsGoodAt : BodyOf → Type 0
  IsGoodAt body =
      (good : IsGoodFunction function (outside_of program body.place Body) body.generics body.header)
      × AreInBlock good.before body.generics

  good : IsGoodAt key.body
  good =
      let its = bodies_good program noted checked first key.one function there in
      subst IsGoodAt (same_Some its.body key.body (sym its.written ∙ key.there)) (its.good, its.declared)

  abbrev loose : ℕ → Bool
  loose = loose_by (sorts_in function outside key.body.generics key.body.header)

  -- ---- its type parameters

  alike : parameters generics ≡ written_params key.body.generics
  alike = params_alike program key.body.place key.body.generics given

  stands : StandsFor (heads_of program) (parameters generics) given key.s
  stands = subst (λ ps. StandsFor (heads_of program) ps given key.s) (sym alike) key.stands

  opened : (active : ℕ → Bool) → AreActive active key.tokens → (name : List ℕ)
      → IsRegionName [] (parameters generics) name → InScope active (region_for (value_of name key.s) name)
  opened active are name (inl is) = absurd cc
  opened active are name (inr is) =
      key.regions active are name (subst (λ ps. universe_in ps name ≡ Some universes.Region) alike is)

  within : (active : ℕ → Bool) → AreActive active key.tokens → TypesAreUsable active (parameters generics) key.s
  within active are = subst (λ ps. TypesAreUsable active ps key.s) (sym alike) (key.within active are)

  -- ---- what is written in its header

  meant_here : (t : WrittenType) (of : Meaning) → written_type outer t ≡ Ok of
      → meant_in_body program key.body t ≡ Some of
  meant_here t of is =
      ap (λ qs. meant [] qs (types_at program key.body.place Body) (heads_of program) t) (sym alike)
      ∙ meant_so outer t of is

  runs_so : (t : WrittenType) (of : Meaning) → written_type outer t ≡ Ok of
      → running key.s 0 of ≡ written_running program key.body key.s t
  runs_so t of is = ap (λ o. running key.s 0 (meant_or_unit o)) (sym (meant_here t of is))

  kinds_alike : (ps : List (Labelled Bytes)) (ofs : List Meaning) → AreMeant outer ps ofs
      → kinds_given key.s ofs ≡ map (λ (p : Labelled Bytes). written_running program key.body key.s p.of) ps
  kinds_alike [] [] are = refl
  kinds_alike (p ∷ rest) (of ∷ others) are = λ i. runs_so p.of of are.0 i ∷ kinds_alike rest others are.1 i
  kinds_alike [] (of ∷ others) are = absurd are
  kinds_alike (p ∷ rest) [] are = absurd are

  -- ---- which parameters may be dropped

  region_there : (region : Region) → OfRegion (IsRegionName [] (parameters_in outer)) region
      → (region_running key.s 0 region ≡ Static) ⊎ ((z : ℕ) × (region_running key.s 0 region ≡ token z))
  region_there Static is = inl refl
  region_there (Named name) is = token_there (λ k. true) _ (opened (λ k. true) (all_active key.tokens) name is)
  region_there Anonymous is = inr (0, refl)

  drops : (t : Meaning) → IsKnownIn outer t
      → (is_free_in outer t ≡ true) ⊎ ((to : Meaning) × (region : Region) × (t ≡ writes to region))
      → MayDrop (types_of program) (running key.s 0 t)
  drops t whole (inl free) = inl (free_runs program (parameters generics) [] given key.s 0 t stands whole free)
  drops t whole (inr (to, region, same)) =
      inr (
        running key.s 0 to,
        region_running key.s 0 region,
        ap (running key.s 0) same,
        region_there region
            (writes_parts (heads_of program) (parameters generics) [] to region (subst (IsKnownIn outer) same whole)).1,
      )

  -- ---- what its names may hold

  -- It is seen in some view, for its type parameters, in which its notes say what is Free, and called in this
  -- way among others.
  module _ {I K W E H : Type 0} (see : List Parameter → View I Note (Unit {0}))
      (tells : TellsFree (see (written_params key.body.generics))
      (outer_scope outside (generics_in outside key.body.generics)))
      (permits : Permits K W) (known : Callables I K) (calls : Calls K E) (way : K)
      (handed : Permits (Key program noted) H)
      (covers : Covers
      (MayHold permits way (AreGoodHere program noted key.body.place generics given)) (IsPermitted handed key) outside
      generics labels key.body.block) where
    -- what may be called from here
    abbrev inner : Callables I ((one : E) × (calls.from one ≡ way))
    inner = callees known calls way

    -- the function as it is seen
    abbrev seen_function : Function I Note (Unit {0})
    seen_function = record {
      view = see (written_params key.body.generics);
      parameters = function.parameters;
      first = function.first;
      body = function.body;
    }

    abbrev good_seen : IsGoodFunction seen_function outside key.body.generics key.body.header
    good_seen = record {
      body = good.0.body;
      parameters = good.0.parameters;
      tells = tells;
      lives = good.0.lives;
      foreign = good.0.foreign;
      before = good.0.before;
      new = good.0.new;
    }

    abbrev may_hold : Meaning → Type 0
    may_hold = MayHold permits way (AreGoodHere program noted key.body.place generics given)

    abbrev Fine : ℕ → List Meaning → Type 0
    Fine number kinds = AreFine (types_of program) loose permits way number kinds

    fine : (number : ℕ) (ps : List (Labelled Bytes)) (ofs : List Meaning)
        → ((p : Labelled Bytes) → Among p ps → Among p labels) → AreMeant outer ps ofs
        → MayDropGiven loose outer number ps → Fine number (kinds_given key.s ofs)
    fine number [] [] more are may = tt
    fine number (p ∷ rest) (of ∷ others) more are may =
        let next : number + 1 ≡ suc number = omega arith in (
          (
            λ is. drops of (written_known outer p.of of are.0).0 (may.0 is of are.0),
            covers.given p (contains labels p (more p (inl refl))) of are.0 key.s (stands, key.holds),
          ),
          subst (λ n. Fine n (kinds_given key.s others)) next
              (fine (number + 1) rest others (λ q there. more q (inr there)) are.1 may.1),
        )
    fine number [] (of ∷ others) more are may = absurd are
    fine number (p ∷ rest) [] more are may = absurd are

    -- ---- the whole judgement

    besides : BesidesAll (see (parameters generics)) loose may_hold (IsPermitted handed key)
        (function.first + length function.parameters)
        good.0.body.scope (scope_of function) key.body.block
    besides =
        subst (λ (ps : List Parameter). BesidesAll (see ps) loose may_hold
        (IsPermitted handed key)
        (function.first + length function.parameters) good.0.body.scope (scope_of function) key.body.block) (sym alike)
        (bodies_asked seen_function may_hold (IsPermitted handed key) outside key.body.generics key.body.header
        good_seen good.1 covers)

    -- what is known round its body fits, and the way is one of its own
    module _ (round : RoundFits (types_of program) owner (see (parameters generics)) inner (IsPermitted handed key)
        outside generics given (AreGoodHere program noted key.body.place generics given))
        (takes : known.parameters way ≡ (ways program noted).parameters key)
        (gives : known.result way ≡ (ways program noted).result key) (opens : known.tokens way ≡ key.tokens)
      where
        runs_at : (active : ℕ → Bool) → AreActive active key.tokens
            → BodyRuns program noted key.body given owner (see (parameters generics)) inner permits way loose active
            (first key.one) key.s (λ k. unit)
        runs_at active are =
            seen_runs program noted key.body given owner (see (parameters generics)) inner (IsPermitted handed key)
            permits way checked good.0.body round
            (λ kind. covers.integers kind key.s (stands, key.holds)) loose active
            (first key.one) key.s (λ k. unit) (stands, key.holds) (opened active are) (within active are) besides

        abbrev Run : (ℕ → Bool) → List Parameter → List Meaning → Meaning → Type 0
        Run active ps kinds result =
            RunsAll (types_of program) owner (see ps) inner result
            loose permits way active (function.first + length function.parameters) (scope_of function) key.body.block
            (with_types function.first kinds (λ k. unit))

        runs : (active : ℕ → Bool) → AreActive active (known.tokens way)
            → Run active (written_params key.body.generics) (known.parameters way) (known.result way)
        runs active on =
            let its = runs_at active (subst (AreActive active) opens on) in
            subst (λ ps. Run active ps (known.parameters way) (known.result way)) alike
            (subst (λ kinds. Run active (parameters generics) kinds (known.result way))
            (kinds_alike labels its.ofs its.takes ∙ sym takes)
            (subst (λ of. Run active (parameters generics) (kinds_given key.s its.ofs) of)
            (runs_so key.body.header.result its.result its.gives ∙ sym gives) its.runs))

        pub may_run_seen : MayRun (types_of program) owner permits known calls seen_function way
        may_run_seen =
            let its = runs_at (λ k. true) (all_active key.tokens) in record {
              many = length-map (map (field_under (types_at program key.body.place Body) (heads_of program)
                  (written_params key.body.generics) given) labels) field_seen
                  ∙ (length-map labels (field_under (types_at program key.body.place Body) (heads_of program)
                  (written_params key.body.generics) given)
                  ∙ (sym (length-map labels (λ (p : Labelled Bytes). written_running program key.body key.s p.of))
                  ∙ ap (λ (ts : List Meaning). length ts) (sym takes)));
              names = λ k. unit;
              loose = loose;
              fine = subst (Fine (first key.one)) (kinds_alike labels its.ofs its.takes ∙ sym takes)
                  (fine (first key.one) labels its.ofs (λ p there. there) its.takes
                  (parameters_drop function outside key.body.generics key.body.header));
              runs = runs;
              ahead = (bodies_ahead seen_function outside key.body.generics key.body.header good_seen).1;
            }

  -- its notes say what is Free
  pub function_tells : TellsFree (view_under program noted key.body.place (written_params key.body.generics) given)
      (outer_scope outside (generics_in outside key.body.generics))
  function_tells = good.0.tells

  may_run : {W E H : Type 0} (permits : Permits (Key program noted) W) (allowed : Calls (Key program noted) E)
      (handed : Permits (Key program noted) H)
      → Covers
      (MayHold permits key (AreGoodHere program noted key.body.place generics given)) (IsPermitted handed key) outside
      generics labels key.body.block
      → CallsRunHere program noted key.body.place generics given owner (callees (ways program noted) allowed key)
      (IsPermitted handed key)
      → MayRun (types_of program) owner permits (ways program noted) allowed function key
  may_run permits allowed handed covers calls =
      may_run_seen (λ ps. view_under program noted key.body.place ps given) function_tells permits
      (ways program noted) allowed key handed covers
      (round_fits program noted key.body.place generics given owner (callees (ways program noted) allowed key)
      (IsPermitted handed key) checked
      (constants_of_programs_stand program noted checked key.body.place generics given) calls)
      refl refl refl

pub programs_judged : (program : List ModuleParts) (noted : List NotedParts) (owner : ClosedType → Option (List ℕ))
    {W E H : Type 0} (permits : Permits (Key program noted) W) (calls : Calls (Key program noted) E)
    (handed : Permits (Key program noted) H) → CheckedProgramsAreJudged program noted handed calls owner permits
programs_judged program noted owner permits calls handed checked run covered first key = (
  function program noted owner checked first key,
  there program noted owner checked first key,
  may_run program noted owner checked first key permits calls handed (covered key) (run key),
)
