-- What a function of a closed program is written to first.
use Rattle.std.specs.Prelude.{List}
use Rattle.au_closed_meanings.specs.Programs.{Body, Row, function_seen}
use Rattle.au_lowering.specs.Drafted.{Drafted, drafted}

-- by the functions and the rows of its program: its first name counts for nothing
abbrev pub drafted_from : List Body → List Row → Body → Drafted
drafted_from functions rows f = drafted (function_seen functions rows 0 f)
