-- What a program is refused for in the lives of its variables: the first variable without a good life, in the
-- order of the text. Of one variable a consumption in a loop comes first, then one in a part of an expression
-- that may be left out, and then a path that breaks its life.
use Rattle.std.specs.Prelude.{List, [], Option, None}
use Rattle.std.specs.Option.{option_map}
use Rattle.au_base.specs.declared.places.Pos.{Pos}
use Rattle.au_formed.specs.Text.{Spot, text, visible_at}
use Rattle.au_lives.specs.Refusals.{Refusal, in_loop, in_part, on_path, Refused, Variable, first_refused}
use Rattle.au_promises.specs.Mentions.{type_parameters}
use Rattle.au_modules.specs.Programs.{ModuleParts}
use Rattle.au_imports.specs.Choices.{first_of}
use Rattle.au_names.specs.HeadsOf.{heads_of}
use Rattle.au_program_lives.specs.declared.faults.LinearFault.{LinearFault}
use Rattle.au_program_lives.specs.declared.faults.LinearFault.TheVariants as fault
use Rattle.au_program_lives.specs.Variables.{variables_of}
use Rattle.au_program_lives.specs.Scopes.{TypeScope}
use Rattle.au_syntax.specs.Modules.{Header, function_body, instance_body}
use Rattle.au_syntax.specs.Plain.{Bytes, PlainDeclaration, PlainMethod, PlainStatements}
use Rattle.au_types.specs.declared.headings.Head.{Head}
use Rattle.au_types.specs.declared.parameters.Parameter.{Parameter}
use Rattle.au_types.specs.declared.types.DeclAt.{DeclAt}

-- ---- variables

-- what types are judged by outside of all borrow statements
abbrev pub types_in : List Parameter → List (Bytes × DeclAt) → List (DeclAt × Head) → TypeScope
types_in params visible heads = record { regions = []; params = params; visible = visible; heads = heads }

-- where a declaration stands, with its type parameters
abbrev pub spot_types : List ModuleParts → Spot → TypeScope
spot_types program s = types_in (type_parameters s.says) (visible_at program s) (heads_of program)

-- the variables of a function in text order, each with what its type asks of its life
abbrev pub function_variables : Header Bytes → PlainStatements → TypeScope → List Variable
function_variables header body sc = variables_of header.parameters body sc

-- ---- faults

-- why a variable of a function, declared at a place, is refused
abbrev pub fault_of : Bytes → Bytes → Pos → Refusal → LinearFault
fault_of function variable at (in_loop place) = fault.InLoop variable place
fault_of function variable at (in_part place) = fault.InPart variable place
fault_of function variable at (on_path kind path) = fault.Life function variable at kind path

-- a variable of a function that is refused
abbrev pub fault_told : Bytes → Refused → LinearFault
fault_told function r = fault_of function r.variable.scope.name.name r.variable.scope.name.at r.why

-- a function
abbrev pub function_fault : Header Bytes → PlainStatements → TypeScope → Option LinearFault
function_fault header body sc =
    option_map (fault_told header.name.name) (first_refused (function_variables header body sc))

-- a method of an instance
abbrev pub method_fault : TypeScope → PlainMethod → Option LinearFault
method_fault sc m = function_fault m.header m.body sc

-- a declaration: only functions and instances of bodies have variables
abbrev pub declared_fault : PlainDeclaration → TypeScope → Option LinearFault
declared_fault (function_body at generics header body stop) sc = function_fault header body sc
declared_fault (instance_body at generics class t methods) sc = first_of (method_fault sc) methods
declared_fault other sc = None

-- a declaration of a program
abbrev pub declaration_fault : List ModuleParts → Spot → Option LinearFault
declaration_fault program s = declared_fault s.says (spot_types program s)

-- a program
abbrev pub linear_fault : List ModuleParts → Option LinearFault
linear_fault program = first_of (declaration_fault program) (text program)
