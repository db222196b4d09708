-- It is among those that are left.
use Rattle.std.proofs.Common.{◌≡◌, drop}
use Rattle.au_words.specs.Jobs.{is_spelled_among}
use Rattle.au_words.proofs.names.is_among.Given as goal

abbrev pub invariant-loop-keyword : goal.invariant-loop-keyword
invariant-loop-keyword l = is_spelled_among (drop l.keyword-index l.keywords) l.bytes ≡ is_spelled_among
    l.keywords l.bytes
