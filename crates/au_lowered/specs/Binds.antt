-- Fields that are bound.
use Rattle.std.specs.Prelude.{List, map}
use Rattle.au_syntax.specs.Plain.{Bytes}
use Rattle.au_syntax.specs.Types.{Bound}

-- the names of the fields that are bound
abbrev pub fields_bound : List (Bound Bytes) → List Bytes
fields_bound binds = map (λ (b : Bound Bytes). b.name.name.name) binds
