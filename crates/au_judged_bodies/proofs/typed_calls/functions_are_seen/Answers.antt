use Rattle.au_judged_bodies.proofs.FunctionLemmas.{function_seen}
use Rattle.au_judged_bodies.proofs.typed_calls.functions_are_seen.Goals as goal

pub returns : goal.returns
returns c = λ types owner program trees place params regions given s z active runs note name target d declared called
    put body
    means found leading unshipped there is well notes of puts holds.
    function_seen types owner program trees place params regions given s z active runs note name target d declared
    called put
    body means found leading unshipped there is well notes of puts holds
