use Rattle.std.proofs.Common.{◌≡◌, Some, map, take}
use Rattle.au_lowering.specs.Rows.{rows_in}
use Rattle.au_graphs.specs.Finding.{numbers}
use Rattle.au_types.specs.Tables.{find}
use Rattle.au_lowering.proofs.telling.tell_types.Given as goal

-- what is told of the types so far
abbrev pub invariant-loop-key : goal.invariant-loop-key
invariant-loop-key l =
    map Some l.all.items ≡ map (λ key. find key (rows_in l.rows)) (map numbers (take l.key-index l.key-items))
