-- What the code's variables say.
use Rattle.au_typing.specs.declared.variables.Variable.{Variable}
use Rattle.au_typing.specs.Scopes as scopes
use Rattle.au_types.specs.Views.{meaning}

-- a variable
abbrev pub variable_said : Variable → scopes.Variable
variable_said one = record { name = one.name; of = meaning one.of; assignable = one.assignable }
