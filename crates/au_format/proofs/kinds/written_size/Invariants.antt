-- So far, and what is left.
use Rattle.std.proofs.Common.{◌≡◌, ◌+◌, drop, length}
use Rattle.std.specs.List.{flat_map}
use Rattle.au_lexer.specs.Pieces.{byte_spelling}
use Rattle.au_format.proofs.kinds.written_size.Given as goal

abbrev pub invariant-loop-byte : goal.invariant-loop-byte
invariant-loop-byte l =
    l.size + length (flat_map byte_spelling (drop l.byte-index l.text)) ≡ length (flat_map byte_spelling l.text)
