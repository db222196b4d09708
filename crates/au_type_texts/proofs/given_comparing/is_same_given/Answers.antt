use Rattle.std.proofs.Common.{sym}
use Rattle.au_type_texts.proofs.GivenLemmas.{given_unequal}
use Rattle.au_type_texts.proofs.given_comparing.is_same_given.Goals as goal

pub returns-then-given-others : goal.returns-then-given-others
returns-then-given-others c = sym (given_unequal c.args.given.now c.args.others.now c.if-given-others.true)
