-- What may be born while a function or method is run, by what its text may make.
use Rattle.std.specs.Prelude.{◌≡◌, ℕ, List, Option, None, Some, Contains}
use Rattle.au_syntax.specs.Plain.{Bytes}
use Rattle.au_type_texts.specs.Types.{ClosedType, named}
use Rattle.au_modules.specs.Programs.{ModuleParts}
use Rattle.au_names.specs.declared.targets.Target.{Target}
use Rattle.au_typing.specs.Trees.{NotedParts}
use Rattle.au_closing.specs.Bodies.{BodyOf, body_of}
use Rattle.au_closing.specs.Instances.{Instance}
use Rattle.au_meaning.specs.Meanings.{call_at}
use Rattle.au_meaning.specs.Worlds.{Value, World}
use Rattle.au_closed_meanings.specs.Generic.{generic_functions}
use Rattle.au_caps_types.specs.Heads.{head_of}
use Rattle.au_caps_lists.specs.Bodies.{Bodied, all_bodied}
use Rattle.au_caps.specs.Making.{BodyMakes}
use Rattle.au_caps_laws.specs.Bearing.{BearsTo}

-- the head of a closed type: that of the declared type that it is, if it is one
abbrev pub head_closed : List ModuleParts → ClosedType → Option Bytes
head_closed program (named at args) = head_of program at
head_closed program other = None

-- a function or method as it is run
abbrev pub run_as : Bodied → BodyOf
run_as b = record { place = b.place; generics = b.generics; header = b.header; block = b.block }

module _ (program : List ModuleParts) (noted : List NotedParts) where
  -- a function or method of the text is the one that is run for a name in a declaration
  pub record IsRunFor (target : Target) (b : Bodied) : Type 0 where
    pub listed : Contains (all_bodied noted) b
    pub runs : body_of program noted target ≡ Some (run_as b)

  -- A value of a closed type may be born while an instance runs: the head of the type, where it has one, is
  -- among what the function or method that is run may make.
  abbrev pub MayBear : Instance → ClosedType → Type 0
  MayBear one of =
      (h : Bytes) → head_closed program of ≡ Some h
      → (b : Bodied) × IsRunFor one.of b × BodyMakes program noted b h

  -- From the beginning to the end of a call of an instance, or to where the run ends in it, only what may be
  -- born while it runs is.
  abbrev pub BirthsAreMade : Type 0
  BirthsAreMade =
      (first : Instance → ℕ) (depth : ℕ) (one : Instance) (args : List Value) (before : World) (ticks : ℕ)
      → BearsTo (MayBear one) before
      (call_at (generic_functions program noted first) depth one args before ticks)
