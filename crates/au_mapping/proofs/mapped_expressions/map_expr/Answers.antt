use Rattle.au_mapping.proofs.KeptLemmas.{expression_same, expression_allowed}
use Rattle.au_mapping.proofs.mapped_expressions.map_expr.Goals as goal

pub returns-clause-same : goal.returns-clause-same
returns-clause-same g c = expression_same g.Q.Phase g.P.Phase c.in_ok-new.new c.args.expr c.in_ok-new.ensures

pub returns-clause-notes : goal.returns-clause-notes
returns-clause-notes g c =
    expression_allowed g.Q.Phase g.P.Phase c.in_ok-new.new c.args.expr c.in_ok-new.ensures
