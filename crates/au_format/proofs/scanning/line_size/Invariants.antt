-- All bytes so far belong to it.
use Rattle.std.proofs.Common.{◌≡◌, ◌+◌, drop, not}
use Rattle.std.specs.List.{prefix_len}
use Rattle.au_base.specs.Places.{is_newline}
use Rattle.au_format.proofs.scanning.line_size.Given as goal

abbrev pub invariant-loop-index : goal.invariant-loop-index
invariant-loop-index l =
    l.index + prefix_len (λ byte. not (is_newline byte)) (drop l.index l.bytes)
    ≡ prefix_len (λ byte. not (is_newline byte)) l.bytes
