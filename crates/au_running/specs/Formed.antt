-- The form of blocks that are lowered: what closing keeps of it, and that the functions of a derived program
-- that is closed have it.
use Rattle.std.specs.Prelude.{◌≡◌, ℕ, true, List, Some, slice_get}
use Rattle.au_syntax.specs.Plain.{Bytes}
use Rattle.au_syntax.specs.Statements.{Statements}
use Rattle.au_modules.specs.Programs.{ModuleParts}
use Rattle.au_typing.specs.Returns.{block_returns}
use Rattle.au_typing.specs.Trees.{NotedParts}
use Rattle.au_lowering.specs.Faults.{IsDerived}
use Rattle.au_closed_trees.specs.Changes.{Change}
use Rattle.au_closed_trees.specs.Renoted.{block_renoted}
use Rattle.au_closing.specs.Closes.{ClosedFunction, ClosesFunctions}
use Rattle.au_closing.specs.Instances.{Instance}
use Rattle.au_lowered.specs.Laws.{BlockTidy}
use Rattle.au_lowered.specs.Trees.{BlockBindsOnce}

-- The block of a function is formed as it should be: each path through it returns, nothing follows a
-- statement that returns on every path, and each field is bound once.
pub record IsFormed {T C : Type 0} (block : Statements Bytes T C) : Type 0 where
  pub returns : block_returns block ≡ true
  pub tidy : BlockTidy block
  pub whole : BlockBindsOnce block

module _ (T C U D : Type 0) where
  -- Other notes in a block change nothing of its form.
  abbrev pub OtherNotesKeepForms : Type 0
  OtherNotesKeepForms =
      (change : Change Bytes T C U D) (block : Statements Bytes T C) → IsFormed block
      → IsFormed (block_renoted change block)

-- Where a program is derived, each function that it closes to is formed so.
abbrev pub ClosedFunctionsAreFormed : Type 0
ClosedFunctionsAreFormed =
    (program : List ModuleParts) (noted : List NotedParts) → IsDerived program noted
    → (entry : Instance) (functions : List ClosedFunction) → ClosesFunctions program noted entry functions
    → (number : ℕ) (f : ClosedFunction) → slice_get functions number ≡ Some f → IsFormed f.body
