use Rattle.std.proofs.Common.{map, ◌∙◌}
use Rattle.au_sights.specs.Sights.{outside_seen}
use Rattle.au_syntax.specs.contracts.parsed.ParsedPhase.TheImpl.{ghosts as parsed}
use Rattle.au_syntax.specs.Views.{constrained}
use Rattle.au_noting_programs.proofs.ParameterLemmas.{generics_made}
use Rattle.au_noting_programs.proofs.parameters.generics_in.Goals as goal

pub returns : goal.returns
returns c =
    c.of.ensures
    ∙ generics_made (outside_seen c.args.outside.now) (map (constrained parsed) c.args.written.now.items)
    c.in_ok-params.params c.in_ok-classes.classes.items c.heads_ref.result.now
    c.in_ok-params.ensures c.heads_ref.ensures c.in_ok-classes.ensures
