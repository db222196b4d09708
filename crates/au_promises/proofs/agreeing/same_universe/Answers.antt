use Rattle.std.proofs.Common.{◌∙◌}
use Rattle.au_promises.proofs.AgreeingLemmas.{universes_same}
use Rattle.au_promises.proofs.agreeing.same_universe.Goals as goal

pub returns : goal.returns
returns c = c.eq.ensures ∙ universes_same c.args.one c.args.other
