-- All bytes so far belong to it.
use Rattle.std.proofs.Common.{◌≡◌, ◌+◌, drop}
use Rattle.std.specs.List.{prefix_len}
use Rattle.au_lexer.specs.Bytes.{is_digit}
use Rattle.au_lexer.proofs.numbers.number_size.Given as goal

abbrev pub invariant-loop-index : goal.invariant-loop-index
invariant-loop-index l =
    l.index + prefix_len is_digit (drop l.index l.bytes) ≡ prefix_len is_digit l.bytes
