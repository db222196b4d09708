-- What parts of the code's declarations say.
use Rattle.std.specs.Prelude.{ℕ, List}
use Rattle.au_formed.specs.declared.visible.Visible.{Visible}
use Rattle.au_program_lives.specs.LinearFaults.{types_in}
use Rattle.au_program_lives.specs.Said as views
use Rattle.au_program_lives.specs.Scopes.{TypeScope}
use Rattle.au_syntax.specs.contracts.parsed.ParsedPhase.TheImpl.{ghosts as parsed}
use Rattle.au_syntax.specs.declared.declarations.Method.{Method}
use Rattle.au_syntax.specs.declared.parsed.Parsed.{Parsed}
use Rattle.au_syntax.specs.declared.statements.Block.{Block}
use Rattle.au_syntax.specs.Plain.{PlainMethod, PlainStatements, plain_method}
use Rattle.au_syntax.specs.Views.{method_body}
use Rattle.au_types.specs.declared.parameters.Parameter.{Parameter}

-- a body
abbrev pub body_said : Block Parsed (List ℕ) (Unit {0}) (Unit {0}) → PlainStatements
body_said b = views.block_said parsed b

-- a method of an instance
abbrev pub method_said : Method Parsed (List ℕ) (Unit {0}) (Unit {0}) → PlainMethod
method_said m = plain_method parsed.name_bytes (method_body parsed m)

-- what types are judged by where this is visible, with these type parameters
abbrev pub scope_of : List Parameter → Visible → TypeScope
scope_of params visible = types_in params visible.names.now visible.heads.now
