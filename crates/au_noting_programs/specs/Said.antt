-- What the code's modules with notes say.
use Rattle.std.specs.Prelude.{ℕ, List, Option, None, Some, Vec, map}
use Rattle.std.specs.declared.boxed.Box.{Box}
use Rattle.std.specs.Global.{Global}
use Rattle.std.specs.Option.{option_map}
use Rattle.au_sights.specs.contracts.noted.NotedPhase.TheImpl.{ghosts as noted}
use Rattle.au_sights.specs.declared.noted.Noted.{Noted}
use Rattle.au_sights.specs.declared.notes.Notes.{Notes}
use Rattle.au_syntax.specs.declared.declarations.Decl.{Decl}
use Rattle.au_syntax.specs.declared.declarations.Method.{Method}
use Rattle.au_syntax.specs.declared.expressions.Expr.{Expr}
use Rattle.au_syntax.specs.declared.modules.Part.{Part}
use Rattle.au_syntax.specs.declared.modules.Part.TheVariants.{Interface, Body}
use Rattle.au_syntax.specs.Views.{declaration, expression, method_body, module_tree}
use Rattle.au_typing.specs.Notes.{NotedExpression}
use Rattle.au_typing.specs.Trees.{NotedDeclaration, NotedEntry, NotedMethod, NotedParts}
use Rattle.au_noting_programs.specs.declared.modules.NotedFile.{NotedFile}
use Rattle.au_noting_programs.specs.declared.modules.NotedModule.{NotedModule}

-- a file
abbrev pub file_said : NotedFile → NotedEntry
file_said f = record { file = f.file; tree = module_tree noted f.tree }

-- a module
abbrev pub module_said : NotedModule → NotedParts
module_said m = record {
  name = m.name;
  interface = option_map file_said m.interface;
  body = option_map file_said m.body;
}

-- modules
abbrev pub modules_said : List NotedModule → List NotedParts
modules_said all = map module_said all

-- an expression in a box
abbrev pub boxed_said : Box (Expr Noted (List ℕ) Notes (Unit {0})) Global → NotedExpression
boxed_said e = expression noted e.value

-- methods of an instance
abbrev pub methods_said : Vec (Method Noted (List ℕ) Notes (Unit {0})) Global → List NotedMethod
methods_said methods = map (method_body noted) methods.items

-- declarations
abbrev pub declarations_said : Vec (Decl Noted (List ℕ) Notes (Unit {0})) Global → List NotedDeclaration
declarations_said declarations = map (declaration noted) declarations.items

-- a part of a module, if the module has it
abbrev pub part_said : Option NotedFile → Option NotedEntry
part_said file = option_map file_said file

-- modules in order
abbrev pub made_said : Vec NotedModule Global → List NotedParts
made_said all = modules_said all.items

-- a part of a module with notes, if the module has it
abbrev pub noted_in : Part → NotedParts → Option NotedEntry
noted_in Interface m = m.interface
noted_in Body m = m.body

-- the same, if there is the module
abbrev pub noted_part : Part → Option NotedParts → Option NotedEntry
noted_part part None = None
noted_part part (Some m) = noted_in part m
