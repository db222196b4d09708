use Rattle.au_judged_programs.proofs.ConstantLemmas.{constants_of_programs_stand}
use Rattle.au_judged_programs.proofs.standing_constants.constants_stand.Goals as goal

pub returns : goal.returns
returns c = λ program noted checked place generics given.
    constants_of_programs_stand program noted checked place generics given
