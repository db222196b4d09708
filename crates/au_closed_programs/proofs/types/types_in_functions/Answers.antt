use Rattle.std.proofs.Common.{[], refl}
use Rattle.au_graphs.specs.Reached.{adds}
use Rattle.au_type_texts.specs.Same.{same}
use Rattle.au_closed_programs.specs.FunctionViews.{function_said, functions_said}
use Rattle.au_closed_programs.specs.Programs.{types_in_function, types_in_functions}
use Rattle.au_closed_programs.proofs.GatheredLemmas.{left_less}
use Rattle.au_closed_programs.proofs.types.types_in_functions.Goals as goal

pub loop-one-preserved : goal.loop-one-preserved
loop-one-preserved c =
    let items = c.args.functions.now in
    left_less function_said (types_in_functions []) (types_in_function []) (λ f rest. refl)
    items c.loop-one.one-index c.one-item.result c.loop-one.found c.gather_in_function.new.found
    (adds same [] (types_in_functions [] (functions_said items)))
    c.loop-one-test.true c.one-item.is c.in_ok-gather_in_function.ensures c.loop-one.invariant
