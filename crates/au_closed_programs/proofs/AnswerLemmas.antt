-- What the steps of closing come to.
use Rattle.std.proofs.Common.{◌≡◌, List, [], ◌∷◌, map, Some}
use Rattle.au_syntax.specs.Plain.{Bytes}
use Rattle.au_modules.specs.Programs.{ModuleParts}
use Rattle.au_names.specs.declared.targets.Target.{Target}
use Rattle.au_typing.specs.Trees.{NotedParts}
use Rattle.au_graphs.specs.Reached.{Lists}
use Rattle.au_graphs.specs.Walks.{IsWithin}
use Rattle.au_closing.specs.Entries.{begins, entry_of}
use Rattle.au_closing.specs.Closes.{calls_of, instance_closed}
use Rattle.au_closing.specs.Instances.{Instance, same_instance}
use Rattle.au_closing.specs.Told.{instance_told, most_instances}
use Rattle.au_closed_programs.specs.Answers.{ClosesWithin}
use Rattle.au_closed_programs.specs.Programs.{ClosedProgram, ClosesTypes, plain_instance}

module _ (program : List ModuleParts) (noted : List NotedParts) (owner name : Bytes) (entry : Target)
    (instances : List Instance) (c : ClosedProgram) where
  -- a program is closed by its instances, which pass no limit
  pub closes_within : entry_of program owner name ≡ begins entry c.root
      → Lists same_instance (calls_of program noted) (plain_instance entry ∷ []) instances
      → IsWithin same_instance instance_told most_instances instances
      → map Some c.functions ≡ map (instance_closed program noted instances) instances
      → ClosesTypes program c.functions c.types
      → ClosesWithin program noted owner name c
  closes_within here lists within functions types = record {
    closes = record {
      entry = entry;
      begins_there = here;
      functions = record { instances = instances; lists = lists; closed = functions };
      types = types;
    };
    within = record { instances = instances; lists = lists; within = within };
  }
