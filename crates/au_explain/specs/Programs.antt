-- The lives of the variables of a program.
use Rattle.std.specs.Prelude.{List, [], ◌∷◌, ◌++◌, map, slice_get, unwrap_or}
use Rattle.std.specs.List.{flat_map}
use Rattle.au_formed.specs.Text.{Spot, text}
use Rattle.au_explain.specs.declared.lists.FunctionLives.{FunctionLives}
use Rattle.au_explain.specs.declared.lists.Lives.{Lives}
use Rattle.au_explain.specs.Variables.{variables_of}
use Rattle.au_modules.specs.Programs.{ModuleParts}
use Rattle.au_modules.specs.Seen.{name_of}
use Rattle.au_typing.specs.Outsides.{outside_of}
use Rattle.au_typing.specs.Scopes.{Outside}
use Rattle.au_syntax.specs.Modules.{Constrained, Header, function_body, instance_body}
use Rattle.au_syntax.specs.Plain.{Bytes, PlainDeclaration, PlainMethod, PlainStatements}

-- a function or method of a module: the module's name, a colon and its own name, and its variables
abbrev pub function_lives : Outside → Bytes → List (Constrained Bytes) → Header Bytes → PlainStatements
    → FunctionLives
function_lives outside owner generics header body = record {
  name = owner ++ 58 ∷ header.name.name;
  variables = variables_of outside generics header body;
}

-- a method of an instance
abbrev pub method_lives : Outside → Bytes → List (Constrained Bytes) → PlainMethod → FunctionLives
method_lives outside owner generics m = function_lives outside owner generics m.header m.body

-- a declaration: only functions and instances of bodies have variables
abbrev pub declaration_lives : Outside → Bytes → PlainDeclaration → List FunctionLives
declaration_lives outside owner (function_body at generics header body stop) =
    function_lives outside owner generics header body ∷ []
declaration_lives outside owner (instance_body at generics class t methods) =
    map (method_lives outside owner generics) methods
declaration_lives outside owner other = []

-- the name of the module of a declaration
abbrev pub owner_of : List ModuleParts → Spot → Bytes
owner_of program s = unwrap_or (name_of (slice_get program s.at.«module»)) []

-- a declaration of a program
abbrev pub spot_lives : List ModuleParts → Spot → List FunctionLives
spot_lives program s =
    declaration_lives (outside_of program s.at.«module» s.part) (owner_of program s) s.says

-- the functions and methods of a program, in the order of the text
abbrev pub functions_of : List ModuleParts → List FunctionLives
functions_of program = flat_map (spot_lives program) (text program)

-- a program
abbrev pub program_lives : List ModuleParts → Lives
program_lives program = record { functions = functions_of program }
