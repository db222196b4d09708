-- What rows are found by: a class and a constructor.
use Rattle.std.specs.Prelude.{Option, Some}
use Rattle.au_types.specs.declared.types.DeclAt.{DeclAt}
use Rattle.au_instances.specs.declared.constructors.Constructor.{Constructor}
use Rattle.au_instances.specs.declared.keys.Key.{Key}
use Rattle.au_instances.specs.Constructors.{constructor_of}
use Rattle.au_instances.specs.Rows.{Row}

-- a key of the code
abbrev pub key_said : Key → DeclAt × Option Constructor
key_said key = (key.class, Some key.constructor)

-- the key of a row
abbrev pub key_of : Row → DeclAt × Option Constructor
key_of row = (row.class, constructor_of row.head)
