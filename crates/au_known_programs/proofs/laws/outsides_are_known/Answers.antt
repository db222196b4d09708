use Rattle.au_known_programs.proofs.OutsideLemmas.{outside_known}
use Rattle.au_known_programs.proofs.laws.outsides_are_known.Goals as goal

pub returns : goal.returns
returns c = λ program fit own place part. outside_known program fit own place part
