-- What the code's closed functions say.
use Rattle.std.specs.Prelude.{List, map}
use Rattle.au_closed_programs.specs.declared.functions.ClosedFunction as found
use Rattle.au_closed_trees.specs.Views.{fields_said}
use Rattle.au_closed_trees.specs.contracts.phase.ClosedTreesPhase.TheImpl.{ghosts as closed}
use Rattle.au_type_texts.specs.Views.{closed_meaning}
use Rattle.au_closing.specs.Closes.{ClosedFunction}
use Rattle.au_syntax.specs.Views.{block}

-- a function
abbrev pub function_said : found.ClosedFunction → ClosedFunction
function_said one = record {
  home = one.home;
  parameters = fields_said one.parameters.items;
  result = closed_meaning one.result;
  body = block closed one.body;
}

-- functions in order
abbrev pub functions_said : List found.ClosedFunction → List ClosedFunction
functions_said all = map function_said all
