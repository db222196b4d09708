use Rattle.au_lexer.specs.Reading.{keyword_of}
use Rattle.au_lexer.proofs.spellings.keyword.Goals as goal

pub returns : goal.returns
unfolding keyword_of
returns c = c.keyword_among.ensures
