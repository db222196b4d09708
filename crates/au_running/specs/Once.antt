-- Parameters of closed functions and fields of closed types have names of their own, where all declarations
-- of the program are good.
use Rattle.std.specs.Prelude.{List}
use Rattle.au_modules.specs.Programs.{ModuleParts}
use Rattle.au_rules.specs.Good.{AllDeclarationsAreGood}
use Rattle.au_typing.specs.Trees.{NotedParts}
use Rattle.au_lowering.specs.Faults.{IsDerived}
use Rattle.au_closing.specs.Closes.{ClosedFunction, ClosesFunctions}
use Rattle.au_closing.specs.Instances.{Instance}
use Rattle.au_running.specs.Asked.{FieldsAreOnce, ParametersAreOnce}

-- Where the declarations of a derived program are good, the parameters of each function that it closes to
-- have names of their own.
abbrev pub ClosedParametersAreOnce : Type 0
ClosedParametersAreOnce =
    (program : List ModuleParts) (noted : List NotedParts) → AllDeclarationsAreGood program
    → IsDerived program noted → (entry : Instance) (functions : List ClosedFunction)
    → ClosesFunctions program noted entry functions → ParametersAreOnce functions

-- Where the declarations of a program are good, so have the fields of each case of its closed types.
abbrev pub ClosedFieldsAreOnce : Type 0
ClosedFieldsAreOnce = (program : List ModuleParts) → AllDeclarationsAreGood program → FieldsAreOnce program
