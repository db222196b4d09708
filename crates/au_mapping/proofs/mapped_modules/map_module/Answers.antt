use Rattle.au_mapping.proofs.KeptLemmas.{module_same, module_allowed}
use Rattle.au_mapping.proofs.mapped_modules.map_module.Goals as goal

pub returns-clause-same : goal.returns-clause-same
returns-clause-same g c = module_same g.Q.Phase g.P.Phase c.in_ok-new.new c.args.«module» c.in_ok-new.ensures

pub returns-clause-notes : goal.returns-clause-notes
returns-clause-notes g c =
    module_allowed g.Q.Phase g.P.Phase c.in_ok-new.new c.args.«module» c.in_ok-new.ensures
