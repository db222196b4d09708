-- It is the first of those that are left.
use Rattle.std.proofs.Common.{◌≡◌, drop}
use Rattle.au_lexer.specs.Reading.{first_begun}
use Rattle.au_lexer.proofs.spellings.sign_among.Given as goal

abbrev pub invariant-loop-sign : goal.invariant-loop-sign
invariant-loop-sign l = first_begun (drop l.sign-index l.signs) l.bytes ≡ first_begun l.signs l.bytes
