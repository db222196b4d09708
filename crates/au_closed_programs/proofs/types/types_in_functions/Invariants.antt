use Rattle.std.proofs.Common.{◌≡◌, [], drop}
use Rattle.au_graphs.specs.Reached.{adds}
use Rattle.au_type_texts.specs.Same.{same}
use Rattle.au_closed_programs.specs.FunctionViews.{functions_said}
use Rattle.au_closed_programs.specs.Programs as spec
use Rattle.au_closed_programs.proofs.types.types_in_functions.Given as goal

-- what is left adds to what is found what all add to nothing
abbrev pub invariant-loop-one : goal.invariant-loop-one
invariant-loop-one l =
    adds same l.found (spec.types_in_functions [] (functions_said (drop l.one-index l.functions)))
    ≡ adds same [] (spec.types_in_functions [] (functions_said l.functions))
