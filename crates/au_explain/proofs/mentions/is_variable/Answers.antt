use Rattle.std.proofs.Common.{◌∙◌}
use Rattle.au_syntax.specs.contracts.parsed.ParsedPhase.TheImpl.{ghosts as parsed}
use Rattle.au_syntax.specs.Views.{expression}
use Rattle.au_explain.proofs.StatementLemmas.{plain_alone}
use Rattle.au_explain.proofs.mentions.is_variable.Goals as goal

pub returns : goal.returns
returns c = c.is_variable.ensures ∙ plain_alone (expression parsed c.args.e.now)
