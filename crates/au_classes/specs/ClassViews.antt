-- What the code's known rows say.
use Rattle.std.specs.Prelude.{List, [], ◌∷◌}
use Rattle.au_base.specs.declared.places.Pos.{Pos}
use Rattle.au_instances.specs.Rows.{Row}
use Rattle.au_classes.specs.declared.known.Known as found
use Rattle.au_classes.specs.Faults.{Known}

-- the rows of instances, each with the place of its instance
abbrev pub known_rows : List Pos → List Row → List Known
known_rows [] rows = []
known_rows (at ∷ places) [] = []
known_rows (at ∷ places) (row ∷ rows) = record { at = at; row = row } ∷ known_rows places rows

-- the rows that are known with their places
abbrev pub known_said : found.Known → List Known
known_said known = known_rows known.places.items known.rows
