use Rattle.au_lexer.specs.Reading.{sign_of}
use Rattle.au_lexer.proofs.spellings.sign.Goals as goal

pub returns : goal.returns
unfolding sign_of
returns c = c.sign_among.ensures
