use Rattle.std.proofs.Common.{◌≡◌, ◌++◌, drop}
use Rattle.au_closed_trees.specs.Views.{fields_said}
use Rattle.au_closed_meanings.specs.Surroundings.{field_names}
use Rattle.au_lowering.specs.Closed.{fields_seen}
use Rattle.au_lowering.proofs.rows.names_of.Given as goal

-- the names so far and those that are left are all
abbrev pub invariant-loop-one : goal.invariant-loop-one
invariant-loop-one l =
    l.names.items ++ field_names (fields_seen (fields_said (drop l.one-index l.one-items)))
    ≡ field_names (fields_seen (fields_said l.one-items))
