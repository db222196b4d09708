use Rattle.au_judged_programs.proofs.CalledBodiesBodyLemmas.{function_there}
use Rattle.au_judged_programs.proofs.called_bodies.functions_are_there.Goals as goal

pub returns : goal.returns
returns c = λ program trees erased promises parts shipped meant target d called found is has.
    function_there program trees erased promises parts shipped meant target d called found is has
