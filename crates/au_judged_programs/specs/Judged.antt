-- The functions of a checked program have the whole judgement, by typing and by lives.
use Rattle.std.specs.Prelude.{ℕ, List, Option}
use Rattle.au_syntax.specs.declared.modules.Part.TheVariants.{Body}
use Rattle.au_types.specs.Types.{Meaning}
use Rattle.au_type_texts.specs.Types.{ClosedType}
use Rattle.au_modules.specs.Programs.{ModuleParts}
use Rattle.au_judged_bodies.specs.Trees.{NotedParts}
use Rattle.au_judged_bodies.specs.Blocks.{AllRun}
use Rattle.au_judged_programs.specs.RoundProgramsBodies.{AllowsHere, AreGoodHere, CallsRunHere}
use Rattle.au_judged_programs.specs.CheckedChecked.{IsChecked}
use Rattle.au_judged_bodies.specs.Generic.{generic_functions}
use Rattle.au_judged_bodies.specs.Instances.{Instance}
use Rattle.au_judged_bodies.specs.Tables.{types_of}
use Rattle.au_judged_programs.specs.RunningBodiesBodies.{generics_of}
use Rattle.au_judged_bodies.specs.Keys.{Key, ways}
use Rattle.au_judged_bodies.specs.Covering.{Covers, MayHold}
use Rattle.au_judged_bodies.specs.Held.{IsPermitted, Permits}
use Rattle.au_judged_bodies.specs.Known.{Calls, callees}
use Rattle.au_judged_bodies.specs.Outsides.{outside_of}

-- all calls
abbrev pub anywhere : (K : Type 0) → Calls K (K × K)
anywhere K = record { from = λ one. one.0; to = λ one. one.1 }

-- all is permitted
abbrev pub anything : (K : Type 0) → Permits K (K × Meaning)
anything K = record { way = λ one. one.0; type = λ one. one.1 }

module _ (program : List ModuleParts) (noted : List NotedParts) {H : Type 0}
    (handed : Permits (Key program noted) H) where
  -- What names may hold, and what may be handed on, covers the body of each function, in each way in which it
  -- is called.
  abbrev pub AreCovered : {W : Type 0} → Permits (Key program noted) W → Type 0
  AreCovered permits =
      (key : Key program noted)
      → Covers
      (MayHold permits key
      (AreGoodHere program noted key.body.place (generics_of program noted key.body key.one.given)
      key.one.given))
      (IsPermitted handed key) (outside_of program key.body.place Body)
      (generics_of program noted key.body key.one.given) key.body.header.parameters key.body.block

  module _ {E : Type 0} (calls : Calls (Key program noted) E) where
    -- From each way calls lead to the ways whose parameters are of running types of what may be handed on
    -- there.
    abbrev pub CallsAreAllowed : Type 0
    CallsAreAllowed =
        (key : Key program noted)
        → AllowsHere program noted key.body.place (generics_of program noted key.body key.one.given)
        key.one.given (ways program noted) calls key (IsPermitted handed key)

    module _ (owner : ClosedType → Option (List ℕ)) where
      -- In the body of a function, in each way in which it is called, calls run in ways to which calls lead
      -- from there.
      abbrev pub CallsRunInBodies : Type 0
      CallsRunInBodies =
          (key : Key program noted)
          → CallsRunHere program noted key.body.place
          (generics_of program noted key.body key.one.given) key.one.given owner
          (callees (ways program noted) calls key) (IsPermitted handed key)

      -- Then each function of a checked program may be run in each of its ways, and its names hold what is
      -- permitted, where this and what may be handed on cover the bodies, whichever numbers the first names
      -- of functions have.
      abbrev pub CheckedProgramsAreJudged : {W : Type 0} → Permits (Key program noted) W → Type 0
      CheckedProgramsAreJudged permits =
          IsChecked program noted → CallsRunInBodies → AreCovered permits → (first : Instance → ℕ)
          → AllRun (types_of program) owner permits (ways program noted) calls
          (generic_functions program noted first)
