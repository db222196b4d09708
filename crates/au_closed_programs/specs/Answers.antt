-- What is answered where a program is closed.
use Rattle.std.specs.Prelude.{◌≡◌, List, [], ◌∷◌, Bool, Result, Ok, Err}
use Rattle.au_base.specs.declared.limits.Limit.{Limit}
use Rattle.au_syntax.specs.Plain.{Bytes}
use Rattle.au_modules.specs.Programs.{ModuleParts}
use Rattle.au_names.specs.declared.targets.Target.{Target}
use Rattle.au_typing.specs.Trees.{NotedParts}
use Rattle.au_graphs.specs.Reached.{Lists}
use Rattle.au_graphs.specs.Walks.{IsWithin, Refused}
use Rattle.au_closing.specs.Entries.{begins, entry_of, not_of_the_form, nowhere}
use Rattle.au_closing.specs.Closes.{calls_of}
use Rattle.au_closing.specs.Instances.{Instance, same_instance}
use Rattle.au_closing.specs.Told.{instance_told, most_instances, too_many}
use Rattle.au_closed_programs.specs.declared.faults.CloseFault.{CloseFault}
use Rattle.au_closed_programs.specs.declared.faults.CloseFault.TheVariants as faults
use Rattle.au_closed_programs.specs.declared.programs.ClosedProgram as found
use Rattle.au_closed_programs.specs.Programs.{ClosedProgram, Closes, plain_instance}
use Rattle.au_closed_programs.specs.Views.{program_said}

module _ (program : List ModuleParts) (noted : List NotedParts) (entry : Target) where
  -- the instances that are reached from an entry pass no limit
  pub record PassesNoLimit : Type 0 where
    pub instances : List Instance
    pub lists : Lists same_instance (calls_of program noted) (plain_instance entry ∷ []) instances
    pub within : IsWithin same_instance instance_told most_instances instances

  -- one of them passes a limit, and this is told of the first that does, breadth first
  abbrev pub PassesLimit : Limit → Type 0
  PassesLimit =
      Refused same_instance instance_told too_many most_instances (calls_of program noted)
      (plain_instance entry ∷ [])

module _ (program : List ModuleParts) (noted : List NotedParts) (owner name : Bytes) where
  -- a program closes to this, and its instances pass no limit
  pub record ClosesWithin (c : ClosedProgram) : Type 0 where
    pub closes : Closes program noted owner name c
    pub within : PassesNoLimit program noted closes.entry

  -- the program has this entry, and one of the instances that are reached from it passes a limit
  pub record Passes (limit : Limit) : Type 0 where
    pub entry : Target
    pub root : Bool
    pub begins_there : entry_of program owner name ≡ begins entry root
    pub passes : PassesLimit program noted entry limit

  -- what a call answered is so, unless memory ran out
  abbrev pub Answers : Result found.ClosedProgram CloseFault → Type 0
  Answers (Ok c) = ClosesWithin (program_said c)
  Answers (Err faults.NoEntry) = entry_of program owner name ≡ nowhere
  Answers (Err (faults.BadEntry at)) = entry_of program owner name ≡ not_of_the_form at
  Answers (Err (faults.Limit limit)) = Passes limit
  Answers (Err faults.Memory) = Unit {0}

-- no limit is told
abbrev pub TellsNoLimit : Result found.ClosedProgram CloseFault → Type 0
TellsNoLimit (Err (faults.Limit limit)) = ⊥
TellsNoLimit answer = Unit {0}
