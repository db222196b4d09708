-- What the code's functions and answers say.
use Rattle.std.specs.Prelude.{◌≡◌, Option, Result, Ok, Err}
use Rattle.std.specs.Option.{option_map}
use Rattle.au_promises.specs.Written.{generics_of, header_of}
use Rattle.au_closing.specs.declared.entries.Begin.{Begin}
use Rattle.au_closing.specs.declared.entries.EntryFault.{EntryFault}
use Rattle.au_closing.specs.declared.entries.EntryFault.TheVariants as faults
use Rattle.au_closing.specs.declared.finding.Candidate as code
use Rattle.au_closing.specs.Entries.{Found, Function, begins, nowhere, not_of_the_form}

-- a function with a body
abbrev pub function_said : code.Candidate → Function
function_said one = record {
  at = one.at;
  generics = generics_of one.generics.now.items;
  header = header_of one.signature.now;
}

-- the same, if there is one
abbrev pub function_seen : Option code.Candidate → Option Function
function_seen found = option_map function_said found

-- what is found is what a call answered, unless memory ran out
abbrev pub Answers : Result Begin EntryFault → Found → Type 0
Answers (Ok one) found = found ≡ begins one.of one.root
Answers (Err faults.NoEntry) found = found ≡ nowhere
Answers (Err (faults.BadEntry at)) found = found ≡ not_of_the_form at
Answers (Err faults.Memory) found = Unit {0}
