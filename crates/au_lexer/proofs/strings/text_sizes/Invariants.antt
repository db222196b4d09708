-- What is left, read on from here, stands behind what was read.
use Rattle.std.proofs.Common.{◌≡◌, ◌+◌, ◌≤◌, drop, false, length}
use Rattle.std.specs.Option.{option_map}
use Rattle.au_lexer.specs.Reading.{text_at, text_sizes}
use Rattle.au_lexer.proofs.strings.text_sizes.Given as goal

abbrev pub invariant-loop-index : goal.invariant-loop-index
invariant-loop-index l =
    (option_map (λ found. (l.meant + length found.0, l.index + found.1))
    (text_at l.slash (drop l.index l.inside)) ≡ text_sizes (text_at false l.inside))
    × (l.meant ≤ l.index)
