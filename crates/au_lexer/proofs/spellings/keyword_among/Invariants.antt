-- It is the first of those that are left.
use Rattle.std.proofs.Common.{◌≡◌, drop}
use Rattle.au_lexer.specs.Reading.{first_spelled}
use Rattle.au_lexer.proofs.spellings.keyword_among.Given as goal

abbrev pub invariant-loop-keyword : goal.invariant-loop-keyword
invariant-loop-keyword l = first_spelled (drop l.keyword-index l.keywords) l.word ≡ first_spelled l.keywords l.word
