use Rattle.au_mapping.proofs.KeptLemmas.{declaration_same, declaration_allowed}
use Rattle.au_mapping.proofs.mapped_declarations.map_decl.Goals as goal

pub returns-clause-same : goal.returns-clause-same
returns-clause-same g c = declaration_same g.Q.Phase g.P.Phase c.in_ok-new.new c.args.decl c.in_ok-new.ensures

pub returns-clause-notes : goal.returns-clause-notes
returns-clause-notes g c =
    declaration_allowed g.Q.Phase g.P.Phase c.in_ok-new.new c.args.decl c.in_ok-new.ensures
