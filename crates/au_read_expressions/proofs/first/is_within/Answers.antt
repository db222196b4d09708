use Rattle.std.proofs.Common.{ap, ◌∙◌}
use Rattle.au_syntax.specs.Depths.{counted, expression_depth}
use Rattle.au_syntax.specs.Views.{expression}
use Rattle.au_syntax.specs.contracts.parsed.ParsedPhase.TheImpl.{ghosts as parsed}
use Rattle.au_read_expressions.proofs.CodeLemmas.{counted_within, plain_same}
use Rattle.au_read_expressions.proofs.first.is_within.Goals as goal

pub returns : goal.returns
returns c =
    counted_within (expression_depth (expression parsed c.args.expr.now)) c.args.levels
    c.expression_depth.result c.requires
    (c.expression_depth.ensures ∙ ap (λ e. counted (expression_depth e))
    (plain_same (expression parsed c.args.expr.now)))
