use Rattle.std.proofs.Common.{◌≡◌, map, take}
use Rattle.au_graphs.specs.Finding.{numbers}
use Rattle.au_lowering.proofs.tables.TextTable.texts.Given as goal

-- the texts so far
abbrev pub invariant-loop-key : goal.invariant-loop-key
invariant-loop-key l = l.texts.items ≡ map numbers (take l.key-index l.key-items)
