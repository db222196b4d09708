-- What is left, looked through from here, stands behind what was looked through.
use Rattle.std.proofs.Common.{◌≡◌, ◌+◌, drop}
use Rattle.std.specs.Option.{option_map}
use Rattle.au_lexer.specs.Reading.{docstring_size}
use Rattle.au_format.proofs.scanning.docstring_size.Given as goal

abbrev pub invariant-loop-index : goal.invariant-loop-index
invariant-loop-index l =
    option_map (λ size. l.index + size) (docstring_size (drop l.index l.inside)) ≡ docstring_size l.inside
