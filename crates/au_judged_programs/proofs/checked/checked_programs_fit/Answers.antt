use Rattle.au_judged_programs.proofs.DefinitionLemmas.{definitions_fit}
use Rattle.au_judged_programs.proofs.checked.checked_programs_fit.Goals as goal

pub returns : goal.returns
returns c = λ program noted checked. definitions_fit program checked.gathered checked.named checked.kept
    checked.declared
