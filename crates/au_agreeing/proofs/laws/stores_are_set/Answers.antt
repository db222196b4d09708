use Rattle.au_agreeing.proofs.StoreLemmas.{items_memory, name_memory, name_sizes, place_written}
use Rattle.au_agreeing.proofs.laws.stores_are_set.Goals as goal

pub returns-clause-names : goal.returns-clause-names
returns-clause-names g c = λ w frame name value has.
    (name_memory w frame name value has, name_sizes w.frames frame name value)

pub returns-clause-places : goal.returns-clause-places
returns-clause-places g c = λ w place new old h. place_written w place new old h

pub returns-clause-items : goal.returns-clause-items
returns-clause-items g c = λ w id old values h. items_memory w id old values h
