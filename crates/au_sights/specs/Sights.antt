-- What the code's surroundings say: what a part of a module sees outside of its functions.
use Rattle.std.specs.Prelude.{List, Option, None, Some, map}
use Rattle.au_modules.specs.Programs.{ModuleParts}
use Rattle.au_modules.specs.Slots as slots
use Rattle.au_names.specs.HeadsOf.{heads_of}
use Rattle.au_names.specs.Standing.{standing_at}
use Rattle.au_typing.specs.Called.{callable_at}
use Rattle.au_typing.specs.Insides.{cases_of, fields_of}
use Rattle.au_typing.specs.Outsides.{constant_standing}
use Rattle.au_typing.specs.Scopes as scopes
use Rattle.au_typing.specs.Scopes.{Outside}
use Rattle.au_sights.specs.declared.called.Callable.{Callable}
use Rattle.au_sights.specs.declared.called.Case.{Case}
use Rattle.au_sights.specs.declared.called.Typed.{Typed}
use Rattle.au_sights.specs.declared.surroundings.Surroundings.{Surroundings}
use Rattle.au_types.specs.Tables.{find}
use Rattle.au_types.specs.declared.types.DeclAt.{DeclAt}
use Rattle.au_types.specs.Types.{Meaning}
use Rattle.au_types.specs.Views.{meaning}

-- a field or a parameter
abbrev pub typed_said : Typed → scopes.Typed
typed_said one = record { name = one.name; of = meaning one.of }

-- what is called
abbrev pub callable_said : Callable → scopes.Callable
callable_said one = record {
  generics = one.generics;
  parameters = map typed_said one.parameters.items;
  result = meaning one.result;
  class = one.class;
}

-- a case of a union
abbrev pub case_said : Case → scopes.Case
case_said one = record { target = one.target; fields = map typed_said one.fields.items }

-- the modules of the program
abbrev pub modules_of : Surroundings → List ModuleParts
modules_of s = slots.modules s.program.now

-- the type of the constant with a number, if a number is given and it is one's
abbrev pub constant_numbered : List ModuleParts → Option DeclAt → Option Meaning
constant_numbered program None = None
constant_numbered program (Some at) = constant_standing program (standing_at program at)

-- What is seen: each name means what the tables of the part say, and the instances are those that are given.
abbrev pub outside_seen : Surroundings → Outside
outside_seen s = record {
  constant = λ name. constant_numbered (modules_of s) (find name s.names.now.values);
  callable = λ name. callable_at (modules_of s) (find name s.names.now.callables);
  target = λ name. find name s.names.now.callables;
  fields = fields_of (modules_of s) s.place;
  cases = cases_of (modules_of s) s.place;
  visible = s.names.now.types;
  heads = heads_of (modules_of s);
  instances = s.instances.now;
}
