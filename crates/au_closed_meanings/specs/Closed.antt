-- The meaning of a closed program: each of its functions is run from its closed tree.
use Rattle.std.specs.Prelude.{ℕ, List, Option, map, slice_get}
use Rattle.std.specs.Option.{option_map}
use Rattle.au_syntax.specs.Plain.{Bytes}
use Rattle.au_modules.specs.Programs.{ModuleParts}
use Rattle.au_closed_trees.specs.ClosedNotes.{Callee, ClosedNote}
use Rattle.au_closing.specs.Closes.{ClosedFunction}
use Rattle.au_meaning.specs.Views.{Field, Function}
use Rattle.au_closed_meanings.specs.Surroundings.{Surroundings, field_names, view_in}
use Rattle.au_closed_meanings.specs.Generic.{field_seen, fields_in, linear_in, tag_in}

-- the parameters of a closed function
abbrev pub parameters_seen : ClosedFunction → List Field
parameters_seen f = map field_seen f.parameters

-- the names of the parameters of the function of a number
abbrev pub names_at : List ClosedFunction → ℕ → Option (List Bytes)
names_at functions number =
    option_map (λ (f : ClosedFunction). field_names (parameters_seen f)) (slice_get functions number)

-- what the program itself says round a closed tree in the text of a module
abbrev pub surroundings_of : List ModuleParts → List ClosedFunction → Bytes → Surroundings
surroundings_of program functions home = record {
  parameters = names_at functions;
  home = home;
  tag = tag_in program;
  fields = fields_in program;
  is_linear = linear_in program;
}

module _ (round : Bytes → Surroundings) where
  -- a closed function as it is run, whose first name has this number
  abbrev pub function_closed : ℕ → ClosedFunction → Function ℕ ClosedNote (Callee ℕ)
  function_closed first f = record {
    view = view_in (round f.home);
    parameters = parameters_seen f;
    first = first;
    body = f.body;
  }

  -- the closed functions as they are run, by their numbers, each with a number for its first name
  abbrev pub closed_functions : List ClosedFunction → (ℕ → ℕ) → ℕ → Option (Function ℕ ClosedNote (Callee ℕ))
  closed_functions functions first number = option_map (function_closed (first number))
      (slice_get functions number)
