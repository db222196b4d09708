use Rattle.std.proofs.Common.{◌≡◌, Some, drop, find}
use Rattle.au_instances.specs.Rows.{rows_said}
use Rattle.au_classes.specs.Faults.{is_like}
use Rattle.au_classes.specs.ClassViews.{known_rows}
use Rattle.au_classes.proofs.knowing.first_place.Given as goal

-- none so far is one, so those that are left decide
abbrev pub invariant-loop-index : goal.invariant-loop-index
invariant-loop-index l =
    find (is_like l.class (Some l.constructor)) (known_rows l.places.items (rows_said l.rows))
    ≡ find (is_like l.class (Some l.constructor))
    (known_rows (drop l.index l.places.items) (rows_said (drop l.index l.rows)))
