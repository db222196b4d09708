use Rattle.std.proofs.Common.{arith}
use Rattle.au_formed.proofs.GraphLemmas.{first_is, first_within, none_is}
use Rattle.au_formed.proofs.infinite.first_infinite.Goals as goal

pub index-requires : goal.index-requires
index-requires c =
    let first = (c.in_ok-first_index.ensures.found c.in-Some.index).0 c.in-Some.is in
    omega (arith, first_within c.args.namings.now.items c.in-Some.index first)

pub returns-in-None : goal.returns-in-None
returns-in-None c = none_is c.args.namings.now.items (c.in_ok-first_index.ensures.none.0 c.in-None.is)

pub returns-in-Some : goal.returns-in-Some
returns-in-Some c =
    first_is c.args.namings.now.items c.in-Some.index c.index.result.now c.index.ensures
    ((c.in_ok-first_index.ensures.found c.in-Some.index).0 c.in-Some.is)
