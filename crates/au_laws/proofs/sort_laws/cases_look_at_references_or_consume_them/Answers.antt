use Rattle.std.proofs.Common.{refl, ap, if◌then◌else◌}
use Rattle.std.proofs.lemmas.Slice.Eq.{bytes_eq-Decides}
use Rattle.au_matching.specs.Universes.{argument_universe, argument_universes, universe_of}
use Rattle.au_lives.specs.Mentions.{one_consumption, one_look, unmentioned}
use Rattle.au_laws.proofs.sort_laws.cases_look_at_references_or_consume_them.Goals as goal

pub returns-clause-reads : goal.returns-clause-reads
unfolding universe_of argument_universe argument_universes
returns-clause-reads c sc to region node x =
    ap (λ yes. if yes then one_look else unmentioned) ((bytes_eq-Decides x.name x.name).1 refl)

pub returns-clause-writes : goal.returns-clause-writes
unfolding universe_of argument_universe argument_universes
returns-clause-writes c sc to region node x =
    ap (λ yes. if yes then one_consumption else unmentioned) ((bytes_eq-Decides x.name x.name).1 refl)
