use Rattle.au_mapping.proofs.KeptLemmas.{block_same, block_allowed}
use Rattle.au_mapping.proofs.mapped_statements.map_block.Goals as goal

pub returns-clause-same : goal.returns-clause-same
returns-clause-same g c = block_same g.Q.Phase g.P.Phase c.in_ok-new.new c.args.body c.in_ok-new.ensures

pub returns-clause-notes : goal.returns-clause-notes
returns-clause-notes g c = block_allowed g.Q.Phase g.P.Phase c.in_ok-new.new c.args.body c.in_ok-new.ensures
