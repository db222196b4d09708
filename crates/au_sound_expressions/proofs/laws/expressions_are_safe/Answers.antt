use Rattle.au_sound_expressions.proofs.LawLemmas.{expressions_safe}
use Rattle.au_sound_expressions.proofs.laws.expressions_are_safe.Goals as goal

pub returns : goal.returns
returns g c = λ types owner permits see known invoke. expressions_safe types owner permits see known invoke
