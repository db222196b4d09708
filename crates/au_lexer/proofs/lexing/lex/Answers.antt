-- The one thing that the file comes to is what was answered.
use Rattle.au_lexer.proofs.UniqueLemmas.{answers_so}
use Rattle.au_lexer.proofs.lexing.lex.Goals as goal

pub returns-clause-only : goal.returns-clause-only
returns-clause-only c =
    let e = c.cut_all.ensures in
    answers_so c.args.file c.args.bytes.now c.cut_all.result e.cut e.within e.byte e.limit
