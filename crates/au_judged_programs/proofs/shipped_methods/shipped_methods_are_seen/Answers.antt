use Rattle.au_judged_programs.proofs.ShippedMethodSeenLemmas.{shipped_method_seen}
use Rattle.au_judged_programs.proofs.shipped_methods.shipped_methods_are_seen.Goals as goal

pub returns : goal.returns
returns c = λ program noted checked place params regions given s z active runs note name target d called put declared
    param
    row call is_a_class leading found_row shipped_so means found declares well notes of puts.
    shipped_method_seen program noted checked place params regions given s z active runs note name target d called put
    declared param row call leading found_row shipped_so means found declares well notes of puts
