-- What is left, read on from here, stands behind what was read.
use Rattle.std.proofs.Common.{◌≡◌, ◌+◌, ◌++◌, drop, false}
use Rattle.std.specs.Option.{option_map}
use Rattle.au_lexer.specs.Reading.{text_at}
use Rattle.au_lexer.proofs.strings.text.Given as goal

abbrev pub invariant-loop-index : goal.invariant-loop-index
invariant-loop-index l =
    option_map (λ found. (l.text ++ found.0, l.index + found.1)) (text_at l.escape (drop l.index l.inside))
    ≡ text_at false l.inside
