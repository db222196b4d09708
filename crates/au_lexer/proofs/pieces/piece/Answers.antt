-- What was read is what the definitions say.
use Rattle.au_lexer.specs.Reading.{front}
use Rattle.au_lexer.proofs.FrontLemmas.{finds_read}
use Rattle.au_lexer.proofs.pieces.piece.Goals as goal

pub returns : goal.returns
returns c = finds_read c.args.before c.args.bytes.now c.requires c.behind.result
    (c.behind.ensures (front c.args.bytes.now) c.front_piece-answer.ensures)
