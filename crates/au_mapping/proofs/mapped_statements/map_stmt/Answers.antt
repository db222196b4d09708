use Rattle.au_mapping.proofs.KeptLemmas.{statement_same, statement_allowed}
use Rattle.au_mapping.proofs.mapped_statements.map_stmt.Goals as goal

pub returns-clause-same : goal.returns-clause-same
returns-clause-same g c = statement_same g.Q.Phase g.P.Phase c.in_ok-new.new c.args.stmt c.in_ok-new.ensures

pub returns-clause-notes : goal.returns-clause-notes
returns-clause-notes g c =
    statement_allowed g.Q.Phase g.P.Phase c.in_ok-new.new c.args.stmt c.in_ok-new.ensures
