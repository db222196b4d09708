use Rattle.au_sights.specs.Sights.{outside_seen}
use Rattle.au_types.proofs.TypeLemmas.{unit_means}
use Rattle.au_noting_programs.proofs.StepLemmas.{outer_is}
use Rattle.au_noting_programs.proofs.bodies.outer_scope.Goals as goal

pub returns : goal.returns
returns c =
    outer_is (outside_seen c.args.outside.now) c.args.generics c.in_ok-bounds.bounds _ c.new.result.items c.new-2.result
    c.in_ok-bounds.ensures unit_means c.new.ensures.items c.new-2.ensures
