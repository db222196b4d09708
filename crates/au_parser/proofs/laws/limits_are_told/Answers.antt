use Rattle.au_parser.proofs.Places.{limit_place, limits_kept}
use Rattle.au_parser.proofs.Certain.{passed_told}
use Rattle.au_parser.proofs.laws.limits_are_told.Goals as goal

pub returns-clause-passed : goal.returns-clause-passed
returns-clause-passed c = limit_place

pub returns-clause-kept : goal.returns-clause-kept
returns-clause-kept c = limits_kept

pub returns-clause-told : goal.returns-clause-told
returns-clause-told c = passed_told
