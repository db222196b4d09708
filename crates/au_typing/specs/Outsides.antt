-- What a part of a module of a program sees outside of its functions.
use Rattle.std.specs.Prelude.{ℕ, List, [], Option, None, Some}
use Rattle.au_syntax.specs.declared.modules.Part.{Part}
use Rattle.au_syntax.specs.Modules.{constant, constant_body}
use Rattle.au_syntax.specs.Plain.{PlainDeclaration}
use Rattle.au_types.specs.declared.spaces.Space.TheVariants.{Values, Callables}
use Rattle.au_types.specs.Tables.{find}
use Rattle.au_types.specs.Types.{Meaning}
use Rattle.au_modules.specs.Programs.{ModuleParts}
use Rattle.au_names.specs.declared.targets.Target.{Target}
use Rattle.au_names.specs.HeadsOf.{heads_of}
use Rattle.au_names.specs.Standing.{Standing, standing_at}
use Rattle.au_classes.specs.Rows.{rows_of}
use Rattle.au_typing.specs.Scopes.{Outside}
use Rattle.au_typing.specs.Called.{callable_at}
use Rattle.au_typing.specs.Insides.{cases_of, fields_of}
use Rattle.au_typing.specs.Written.{meant_in, seen_at, types_at}

-- ---- constants

-- the type of a declaration, if it is a constant: what is written means
abbrev pub constant_declared : List ModuleParts → Standing → PlainDeclaration → Option Meaning
constant_declared program d (constant at name t) = meant_in program d [] t
constant_declared program d (constant_body at name t e) = meant_in program d [] t
constant_declared program d other = None

-- the same of a declaration that is found, if one is
abbrev pub constant_standing : List ModuleParts → Option Standing → Option Meaning
constant_standing program None = None
constant_standing program (Some d) = constant_declared program d d.says

-- the type of the constant that a name means, if it means anything
abbrev pub constant_at : List ModuleParts → Option Target → Option Meaning
constant_at program None = None
constant_at program (Some target) = constant_standing program (standing_at program target.at)

-- ---- all

-- What a part of the module at a place sees. The name after `when` is looked up as one that is called: it
-- means what it means there.
abbrev pub outside_of : List ModuleParts → ℕ → Part → Outside
outside_of program place part = record {
  constant = λ name. constant_at program (find name (seen_at Values program place part));
  callable = λ name. callable_at program (find name (seen_at Callables program place part));
  target = λ name. find name (seen_at Callables program place part);
  fields = fields_of program place;
  cases = cases_of program place;
  visible = types_at program place part;
  heads = heads_of program;
  instances = rows_of program;
}
