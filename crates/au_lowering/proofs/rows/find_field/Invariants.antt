use Rattle.std.proofs.Common.{◌≡◌, drop}
use Rattle.au_closed_trees.specs.Views.{fields_said}
use Rattle.au_lowering.specs.Closed.{fields_seen}
use Rattle.au_meaning.specs.Names.{field_from}
use Rattle.au_lowering.proofs.rows.find_field.Given as goal

-- what is found is found among those that are left
abbrev pub invariant-loop-at : goal.invariant-loop-at
invariant-loop-at l =
    field_from l.at l.name (fields_seen (fields_said (drop l.at l.one-items)))
    ≡ field_from 0 l.name (fields_seen (fields_said l.one-items))
