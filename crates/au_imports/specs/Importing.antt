-- What the modules of a program are refused for before their types are looked at: what a name is refused for,
-- and then, where every name is good, the first promise that isn't kept.
use Rattle.std.specs.Prelude.{List, Option}
use Rattle.std.specs.Option.{option_map, option_or}
use Rattle.au_modules.specs.Programs.{ModuleParts}
use Rattle.au_imports.specs.declared.name_faults.NameFault.{NameFault}
use Rattle.au_imports.specs.declared.name_faults.NameFault.TheVariants as names
use Rattle.au_imports.specs.NameFaults.{name_fault}
use Rattle.au_promises.specs.declared.faults.PromiseFault.{PromiseFault}
use Rattle.au_promises.specs.declared.faults.PromiseFault.TheVariants as promises
use Rattle.au_promises.specs.Promises.{promise_fault}
use Rattle.au_imports.specs.declared.faults.ImportFault.{ImportFault}
use Rattle.au_imports.specs.declared.faults.ImportFault.TheVariants as fault

abbrev pub of_names : NameFault → ImportFault
of_names (names.NoModule at name) = fault.NoModule at name
of_names (names.Late at name) = fault.Late at name
of_names (names.NotVisible at name) = fault.NotVisible at name
of_names (names.NameTwice at name) = fault.NameTwice at name

abbrev pub of_promises : PromiseFault → ImportFault
of_promises (promises.NotDefined at name) = fault.NotDefined at name
of_promises (promises.Differs at other name) = fault.Differs at other name

-- what a program is refused for
abbrev pub refusal_of : List ModuleParts → Option ImportFault
refusal_of program = option_or (option_map of_names (name_fault program))
    (option_map of_promises (promise_fault program))
