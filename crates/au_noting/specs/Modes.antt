-- What is wanted of an expression, as the code has it.
use Rattle.std.specs.Prelude.{Option}
use Rattle.std.specs.Borrow.{Bor}
use Rattle.std.specs.Option.{option_map}
use Rattle.au_types.specs.declared.types.Ty.{Ty}
use Rattle.au_types.specs.Views.{meaning}
use Rattle.au_typing.specs.Notes.{Mode}

-- the type that is wanted, if one is
abbrev pub wanted : Option (Bor Ty) → Mode
wanted mode = option_map (λ (of : Bor Ty). meaning of.now) mode
