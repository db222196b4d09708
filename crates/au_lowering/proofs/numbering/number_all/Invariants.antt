use Rattle.std.proofs.Common.{◌≡◌, ◌++◌, map}
use Rattle.std.specs.Vec.Iter.{into_iter_items}
use Rattle.au_lowering_statements.specs.LoweringExpressions.Views.{drafts_said}
use Rattle.au_lowering.specs.Keyed.{keyed}
use Rattle.au_lowering.proofs.numbering.number_all.Given as goal

-- the code so far and that of what is left are that of all
abbrev pub invariant-loop-one : goal.invariant-loop-one
invariant-loop-one l =
    l.code.items ++ map (keyed l.tables.texts l.tables.types) (drafts_said (into_iter_items l.one-iterator))
    ≡ map (keyed l.tables.texts l.tables.types) (drafts_said l.fn.drafts.items)
