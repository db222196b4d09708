-- What the code says of a call.
use Rattle.std.specs.Prelude.{ℕ}
use Rattle.std.specs.Option.{option_map}
use Rattle.au_type_texts.specs.Types.{ClosedType}
use Rattle.au_type_texts.specs.Views.{closed_meaning}
use Rattle.au_meaning.specs.Views as views
use Rattle.au_meaning.specs.Views.{invokes, makes, ships}
use Rattle.au_closed_meanings.specs.declared.calls.Act.{Act}
use Rattle.au_closed_meanings.specs.declared.calls.Act.TheVariants as act
use Rattle.au_closed_meanings.specs.declared.calls.Called.{Called}
use Rattle.au_closed_meanings.specs.declared.calls.Found.{Found}

-- what it does
abbrev pub act_said : Act → views.Act ℕ
act_said (act.Invokes number) = invokes number
act_said (act.Makes of tag home) = makes (closed_meaning of) tag home
act_said (act.Ships call born) = ships call (option_map closed_meaning born)

-- and the names of the parameters of what is called
abbrev pub called_said : Called → views.Callee ℕ
called_said one = record { parameters = one.parameters.items; act = act_said one.act }

-- a field that was found: its number and its type
abbrev pub found_said : Found → ℕ × ClosedType
found_said one = (one.number, closed_meaning one.of.now)
