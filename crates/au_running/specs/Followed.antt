-- Closed functions whose code does what they mean, and the noted program that they are made of.
use Rattle.std.specs.Prelude.{◌≡◌, ℕ, suc, List, [], ◌∷◌, Some, slice_get}
use Rattle.au_syntax.specs.Plain.{Bytes}
use Rattle.au_modules.specs.Programs.{ModuleParts}
use Rattle.au_type_texts.specs.Types.{ClosedType}
use Rattle.au_low.specs.declared.code.LowType.{LowType}
use Rattle.au_typing.specs.Trees.{NotedParts}
use Rattle.au_lowering.specs.Faults.{IsDerived}
use Rattle.au_closed_trees.specs.ClosedNotes.{Callee, ClosedNote}
use Rattle.au_closing.specs.Closes.{ClosedFunction, ClosesFunctions}
use Rattle.au_closing.specs.Instances.{Instance}
use Rattle.au_meaning.specs.Meanings.{mean}
use Rattle.au_meaning.specs.Views.{Function}
use Rattle.au_meaning.specs.Worlds.{stuck}
use Rattle.au_closed_meanings.specs.Surroundings.{Surroundings, view_in}
use Rattle.au_closed_meanings.specs.Closed.{function_closed, surroundings_of}
use Rattle.au_closed_meanings.specs.Generic.{generic_functions, linear_in}
use Rattle.au_closed_meanings.specs.Kept.{NumberAlike}
use Rattle.au_closed_meanings.specs.Numbers.{NumbersApart}
use Rattle.au_lowered.specs.FollowLaws.{Follows}
use Rattle.au_lowered.specs.HomeLists.{HomesShared}
use Rattle.au_lowered.specs.Premises.{GoodView}
use Rattle.au_lowered.specs.FollowPrograms.{coding, EntryTakes, GoodProgram}
use Rattle.au_running.specs.Asked.{FieldsAreOnce, ParametersAreOnce}
use Rattle.au_running.specs.Formed.{IsFormed}
use Rattle.au_running.specs.Suits.{EachSuits, guarded_functions}

module _ {T C : Type 0} (told : ClosedType → LowType) (functions : List (Function ℕ T C)) where
  -- an entry has no parameter, or one, which is the root
  abbrev pub EntryBegins : Type 0
  EntryBegins = (f : Function ℕ T C) → slice_get functions 0 ≡ Some f → EntryTakes f.parameters

  -- Functions whose code does what they mean: each is formed as it should be, code can follow each mention
  -- and each call in it, a type is told as linear where the function knows that it is, functions that share a
  -- number of a declaration have the same slots, and the entry begins.
  pub record AreFollowed : Type 0 where
    pub formed : (i : ℕ) (f : Function ℕ T C) → slice_get functions i ≡ Some f → IsFormed f.body
    pub suits : EachSuits functions
    pub linear : (i : ℕ) (f : Function ℕ T C) → slice_get functions i ≡ Some f → (of : ClosedType)
        → (told of).linear ≡ f.view.is_linear of
    pub homes : HomesShared (guarded_functions functions)
    pub entry : EntryBegins

module _ (T C : Type 0) where
  -- With views that know no more than code can follow they are a good program.
  abbrev pub GuardedAreGood : Type 0
  GuardedAreGood = (told : ClosedType → LowType) (functions : List (Function ℕ T C))
      → AreFollowed told functions → GoodProgram told (guarded_functions functions)

  -- A run of their code does what they mean for any number of ticks, where that isn't stuck.
  abbrev pub FollowedRunsFollow : Type 0
  FollowedRunsFollow = (told : ClosedType → LowType) (functions : List (Function ℕ T C))
      → AreFollowed told functions → (input : List ℕ) (ticks : ℕ)
      → ((mean (λ i. slice_get functions i) 0 input ticks).ending ≡ stuck → ⊥)
      → Follows told functions input (mean (λ i. slice_get functions i) 0 input ticks)

-- ---- closed programs

-- No closed view is good as it stands, since it says of notes that are in no tree which constants they
-- mention. So it is guarded: code that follows a tree needs no more than the tree notes.
abbrev pub NoClosedViewIsGood : Type 0
NoClosedViewIsGood =
    (told : ClosedType → LowType) (functions : List (Function ℕ ClosedNote (Callee ℕ))) (round : Surroundings)
    → (slot : ℕ → ℕ) → GoodView (coding told functions slot) (view_in round) → ⊥

-- the closed functions in order as they are run, each with a number for its first name
abbrev pub functions_in : (Bytes → Surroundings) → (ℕ → ℕ) → List ClosedFunction
    → List (Function ℕ ClosedNote (Callee ℕ))
functions_in round numbers [] = []
functions_in round numbers (f ∷ rest) =
    function_closed round (numbers 0) f ∷ functions_in round (λ n. numbers (suc n)) rest

-- the closed functions of a program as they are run
abbrev pub functions_of : List ModuleParts → (ℕ → ℕ) → List ClosedFunction
    → List (Function ℕ ClosedNote (Callee ℕ))
functions_of program numbers functions = functions_in (surroundings_of program functions) numbers functions

-- A run of the code that a derived program is lowered to, from the functions that it closes to, does what the
-- noted program means, where that isn't stuck. This is asked besides: parameters and fields have names of
-- their own, a type is told as linear where the program says so, and the entry has no parameter but the root.
-- No number is that of two declarations, as with the numbers of `first_name`.
abbrev pub DerivedProgramsFollow : Type 0
DerivedProgramsFollow =
    (program : List ModuleParts) (noted : List NotedParts) → IsDerived program noted
    → (entry : Instance) (functions : List ClosedFunction)
    → (closes : ClosesFunctions program noted entry functions)
    → (first : Instance → ℕ) (numbers : ℕ → ℕ) → NumberAlike closes.instances first numbers
    → NumbersApart program noted first
    → (told : ClosedType → LowType) → ((of : ClosedType) → (told of).linear ≡ linear_in program of)
    → ParametersAreOnce functions → FieldsAreOnce program
    → EntryBegins told (functions_of program numbers functions)
    → (input : List ℕ) (ticks : ℕ)
    → ((mean (generic_functions program noted first) entry input ticks).ending ≡ stuck → ⊥)
    → Follows told (functions_of program numbers functions) input
    (mean (generic_functions program noted first) entry input ticks)
