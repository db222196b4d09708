-- The bodies of a checked program run, by the rules of typing, at running types.
use Rattle.std.specs.Prelude.{◌≡◌, ℕ, ◌+◌, Bool, List, [], length, Option, Ok}
use Rattle.au_syntax.specs.declared.modules.Part.TheVariants.{Body}
use Rattle.au_base.specs.declared.kinds.IntKind.{IntKind}
use Rattle.au_types.specs.Types.{Meaning, integer}
use Rattle.au_matching.specs.Bindings.{Bindings, value_of}
use Rattle.au_matching.specs.Substituted.{region_for}
use Rattle.au_judged_types.specs.Bounds.{Bounded, parameters}
use Rattle.au_type_texts.specs.Given.{Given}
use Rattle.au_type_texts.specs.Types.{ClosedType}
use Rattle.au_running_types.specs.Running.{running}
use Rattle.au_written_types.specs.Written.{IsRegionName}
use Rattle.au_modules.specs.Programs.{ModuleParts}
use Rattle.au_judged_bodies.specs.Typing.Bodies.{GoodBody, generics_in, outer_scope}
use Rattle.au_judged_bodies.specs.Lookups.{written_type}
use Rattle.au_judged_bodies.specs.Notes.{Note}
use Rattle.au_judged_bodies.specs.Outsides.{outside_of}
use Rattle.au_judged_bodies.specs.Trees.{NotedParts}
use Rattle.au_judged_bodies.specs.Bodies.{BodyOf}
use Rattle.au_judged_bodies.specs.Instances.{Instance}
use Rattle.au_meaning.specs.Names as meaning
use Rattle.au_meaning.specs.Views.{View}
use Rattle.au_judged_bodies.specs.Generic.{parameters_under, view_under}
use Rattle.au_judged_bodies.specs.Tables.{types_of}
use Rattle.au_judged_bodies.specs.Blocks.{RunsAll, with_types}
use Rattle.au_judged_bodies.specs.Held.{IsPermitted, Permits}
use Rattle.au_judged_bodies.specs.Known.{Callables, InScope}
use Rattle.au_judged_bodies.specs.Frames.{TypesAreUsable}
use Rattle.au_judged_bodies.specs.Begun.{AreMeant, kinds_given}
use Rattle.au_judged_bodies.specs.Besides.{BesidesAll}
use Rattle.au_judged_bodies.specs.Covering.{MayHold}
use Rattle.au_judged_programs.specs.RoundProgramsBodies.{AreGoodHere, CallsRunHere, ConstantsStand}
use Rattle.au_judged_programs.specs.CheckedChecked.{IsChecked}

module _ (program : List ModuleParts) (noted : List NotedParts) (body : BodyOf) (given : Given) where
  -- the type parameters of a body, and its view
  abbrev pub generics_of : List Bounded
  generics_of = generics_in (outside_of program body.place Body) body.generics

  abbrev pub view_of : View Instance Note (Unit {0})
  view_of = view_under program noted body.place (parameters generics_of) given

  -- A body runs, as it is seen in a view, with its parameters as the first names of its frame, at the running
  -- types of what is written for them and for its result.
  pub record BodyRuns (owner : ClosedType → Option (List ℕ)) {I K : Type 0} (see : View I Note (Unit {0}))
      (known : Callables I K) {V W : Type 0} (permits : Permits V W) (key : V) (loose : ℕ → Bool)
      (active : ℕ → Bool) (first : ℕ) (s : Bindings) (names : ℕ → Meaning) : Type 0 where
    pub ofs : List Meaning
    pub result : Meaning
    pub takes : AreMeant
        (outer_scope (outside_of program body.place Body) generics_of) body.header.parameters ofs
    pub gives : written_type
        (outer_scope (outside_of program body.place Body) generics_of) body.header.result ≡ Ok result
    pub many : length (parameters_under program noted given body) ≡ length ofs
    pub runs : RunsAll (types_of program) owner see known (running s 0 result) loose permits key active
        (first + length (parameters_under program noted given body))
        (meaning.with_parameters first (parameters_under program noted given body) []) body.block
        (with_types first (kinds_given s ofs) names)

  -- A body that is good by the rules of typing runs in a frame where what stands for its type parameters is
  -- good and its regions may be used, where constants stand and calls run, where integers are permitted, and
  -- where it is what it is asked besides.
  abbrev pub BodiesOfProgramsRun : (ClosedType → Option (List ℕ)) → {K : Type 0} → Callables Instance K
      → (Meaning → Type 0) → {V W : Type 0} → Permits V W → V → Type 0
  BodiesOfProgramsRun owner known may_hand permits key =
      IsChecked program noted
      → (good : GoodBody (outside_of program body.place Body) body.generics body.header body.block)
      → ConstantsStand program noted body.place generics_of given
      → CallsRunHere program noted body.place generics_of given owner known may_hand
      → ((kind : IntKind) → IsPermitted permits key (integer kind))
      → (loose active : ℕ → Bool) (first : ℕ) (s : Bindings) (names : ℕ → Meaning)
      → AreGoodHere program noted body.place generics_of given s
      → ((name : List ℕ) → IsRegionName [] (parameters generics_of) name
      → InScope active (region_for (value_of name s) name))
      → TypesAreUsable active (parameters generics_of) s
      → BesidesAll view_of loose
      (MayHold permits key (AreGoodHere program noted body.place generics_of given))
      may_hand (first + length (parameters_under program noted given body)) good.scope
      (meaning.with_parameters first (parameters_under program noted given body) []) body.block
      → BodyRuns owner view_of known permits key loose active first s names
