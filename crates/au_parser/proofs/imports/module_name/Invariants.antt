-- What was read, before what is still read, is what is read of all tokens, and the bytes so far are few.
use Rattle.std.proofs.Common.{◌≡◌, ◌≤◌, map, ◌-◌, length}
use Rattle.au_syntax.specs.contracts.parsed.ParsedPhase.TheImpl.{ghosts as parsed}
use Rattle.au_syntax.specs.Views.{placed}
use Rattle.au_read_expressions.specs.Bounds.{usual}
use Rattle.au_read_expressions.proofs.Loops.{with_front}
use Rattle.au_parser.specs.ModuleReading.{names_within, module_name_at}
use Rattle.au_parser.proofs.imports.module_name.Given as goal

abbrev pub invariant-loop : goal.invariant-loop
invariant-loop l =
    (l.used ≤ 65)
    × (with_front (map (placed parsed) l.names.items)
    (names_within usual (length l.tokens - l.counter) l.used l.rest) ≡ module_name_at usual l.tokens)
