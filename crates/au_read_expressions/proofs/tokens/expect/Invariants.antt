-- Reading the tokens that are still expected gives what reading all of them gives.
use Rattle.std.proofs.Common.{◌≡◌, map, drop}
use Rattle.au_read_expressions.specs.Reading.{expected_what, tokens_at}
use Rattle.au_read_expressions.proofs.tokens.expect.Given as goal

abbrev pub invariant-loop-one : goal.invariant-loop-one
invariant-loop-one l = tokens_at (map expected_what (drop l.one-index l.known)) l.rest
    ≡ tokens_at (map expected_what l.known) l.tokens
