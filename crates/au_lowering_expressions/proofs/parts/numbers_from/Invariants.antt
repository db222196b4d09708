use Rattle.std.proofs.Common.{◌≡◌, Some, drop, map}
use Rattle.au_closed_trees.specs.contracts.phase.ClosedTreesPhase.TheImpl.{ghosts as closed}
use Rattle.au_type_texts.specs.Types.{ClosedType}
use Rattle.au_type_texts.specs.Views.{closed_meaning}
use Rattle.au_closed_meanings.specs.Surroundings.{view_in}
use Rattle.au_lowered.specs.Expressions.{numbers_along}
use Rattle.au_lowering_expressions.proofs.PartLemmas.{behind_them}
use Rattle.au_meaning.specs.Expressions.{names_of}
use Rattle.au_syntax.specs.Views.{placed}
use Rattle.au_lowering_expressions.proofs.parts.numbers_from.Given as goal

-- the numbers so far, and those of the names that are left, are those of all
abbrev pub invariant-loop-one : goal.invariant-loop-one
invariant-loop-one g l =
    behind_them l.numbers.items (numbers_along (view_in (g.R.Lookup.round l.lookup))
    (Some (closed_meaning l.at))
    (names_of (map (placed closed) (drop l.one-index l.one-items))))
    ≡ numbers_along (view_in (g.R.Lookup.round l.lookup)) (Some (closed_meaning l.fn.from))
    (names_of (map (placed closed) l.one-items))
