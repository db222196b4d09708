-- What the code's given types say.
use Rattle.std.specs.Prelude.{List, Vec, map}
use Rattle.std.specs.Global.{Global}
use Rattle.au_syntax.specs.Plain.{Bytes}
use Rattle.au_type_texts.specs.Types.{ClosedType}
use Rattle.au_type_texts.specs.Views.{closed_meaning}
use Rattle.au_type_texts.specs.declared.given_types.GivenType.{GivenType}
use Rattle.au_type_texts.specs.Given.{Given}

-- one of them
abbrev pub pair_said : GivenType → Bytes × ClosedType
pair_said one = (one.name, closed_meaning one.of)

-- those of a list
abbrev pub given_said : List GivenType → Given
given_said all = map pair_said all
