-- What contracts see of a list of instances.
use Rattle.std.specs.Prelude.{List}
use Rattle.au_closing.specs.Instances.{Instance}

-- the list as it is
abbrev pub itself : List Instance → List Instance
itself all = all
