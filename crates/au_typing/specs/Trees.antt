-- Statements, declarations and modules whose expressions have notes, and the same without them.
use Rattle.std.specs.Prelude.{ℕ, List, map, Option}
use Rattle.std.specs.Option.{option_map}
use Rattle.au_syntax.specs.Statements.{Statement, Statements, Branches, Arms, skip, declare, destructure}
use Rattle.au_syntax.specs.Statements.{assign, assign_through, conditional, conditional_else, case_of}
use Rattle.au_syntax.specs.Statements.{while_loop, for_loop, borrow_in, borrow_typed, discard, return_of}
use Rattle.au_syntax.specs.Statements.{no_statements, statements, no_branches, branches, no_arms, arms}
use Rattle.au_syntax.specs.Modules.{MethodBody, Declaration, ModuleTree, constant, opaque_type, record_type}
use Rattle.au_syntax.specs.Modules.{union_type, function, class, instance, constant_body, function_body}
use Rattle.au_syntax.specs.Modules.{instance_body}
use Rattle.au_syntax.specs.Plain.{Bytes, PlainStatement, PlainStatements, PlainBranches, PlainArms}
use Rattle.au_syntax.specs.Plain.{PlainMethod, PlainDeclaration, PlainModule}
use Rattle.au_modules.specs.Programs.{Entry, ModuleParts}
use Rattle.au_typing.specs.Notes.{Note, erase}

abbrev pub NotedStatement : Type 0
NotedStatement = Statement Bytes Note (Unit {0})

abbrev pub NotedStatements : Type 0
NotedStatements = Statements Bytes Note (Unit {0})

abbrev pub NotedBranches : Type 0
NotedBranches = Branches Bytes Note (Unit {0})

abbrev pub NotedArms : Type 0
NotedArms = Arms Bytes Note (Unit {0})

abbrev pub NotedMethod : Type 0
NotedMethod = MethodBody Bytes Note (Unit {0})

abbrev pub NotedDeclaration : Type 0
NotedDeclaration = Declaration Bytes Note (Unit {0})

abbrev pub NotedModule : Type 0
NotedModule = ModuleTree Bytes Note (Unit {0})

-- a file with notes: its number, and what is written in it
pub record NotedEntry : Type 0 where
  pub file : ℕ
  pub tree : NotedModule

-- a module with notes: its name, its interface and its body, where it has them
pub record NotedParts : Type 0 where
  pub name : Bytes
  pub interface : Option NotedEntry
  pub body : Option NotedEntry

abbrev mutual
  -- a statement without its notes
  pub erase_statement : NotedStatement → PlainStatement
  erase_statement (skip at) = skip at
  erase_statement (declare at b n t e) = declare at b n t (erase e)
  erase_statement (destructure at binds e) = destructure at binds (erase e)
  erase_statement (assign at n fields e) = assign at n fields (erase e)
  erase_statement (assign_through at n fields e) = assign_through at n fields (erase e)
  erase_statement (conditional at tests) = conditional at (erase_branches tests)
  erase_statement (conditional_else at tests b) = conditional_else at (erase_branches tests) (erase_block b)
  erase_statement (case_of at e all) = case_of at (erase e) (erase_arms all)
  erase_statement (while_loop at e b) = while_loop at (erase e) (erase_block b)
  erase_statement (for_loop at n a z b) = for_loop at n (erase a) (erase z) (erase_block b)
  erase_statement (borrow_in at access x r region b stop) =
      borrow_in at access x r region (erase_block b) stop
  erase_statement (borrow_typed at r t mode x b stop) = borrow_typed at r t mode x (erase_block b) stop
  erase_statement (discard at e) = discard at (erase e)
  erase_statement (return_of at e) = return_of at (erase e)

  -- a block
  pub erase_block : NotedStatements → PlainStatements
  erase_block no_statements = no_statements
  erase_block (statements s rest) = statements (erase_statement s) (erase_block rest)

  -- tests with their blocks
  pub erase_branches : NotedBranches → PlainBranches
  erase_branches no_branches = no_branches
  erase_branches (branches e b rest) = branches (erase e) (erase_block b) (erase_branches rest)

  -- the arms of a case
  pub erase_arms : NotedArms → PlainArms
  erase_arms no_arms = no_arms
  erase_arms (arms at n binds b rest) = arms at n binds (erase_block b) (erase_arms rest)

-- a method of an instance
abbrev pub erase_method : NotedMethod → PlainMethod
erase_method m = record { header = m.header; body = erase_block m.body; stop = m.stop }

-- a declaration
abbrev pub erase_declaration : NotedDeclaration → PlainDeclaration
erase_declaration (constant at n t) = constant at n t
erase_declaration (opaque_type at n ps u) = opaque_type at n ps u
erase_declaration (record_type at n ps u fields) = record_type at n ps u fields
erase_declaration (union_type at n ps u cases) = union_type at n ps u cases
erase_declaration (function at gs h) = function at gs h
erase_declaration (class at n p hs) = class at n p hs
erase_declaration (instance at gs n t) = instance at gs n t
erase_declaration (constant_body at n t e) = constant_body at n t (erase e)
erase_declaration (function_body at gs h b stop) = function_body at gs h (erase_block b) stop
erase_declaration (instance_body at gs n t ms) = instance_body at gs n t (map erase_method ms)

-- a module's file
abbrev pub erase_module : NotedModule → PlainModule
erase_module m = record {
  imports = m.imports;
  at = m.at;
  part = m.part;
  name = m.name;
  pragma = m.pragma;
  declarations = map erase_declaration m.declarations;
}

abbrev pub erase_entry : NotedEntry → Entry
erase_entry e = record { file = e.file; tree = erase_module e.tree }

-- a module, and the modules of a program
abbrev pub erase_parts : NotedParts → ModuleParts
erase_parts m = record {
  name = m.name;
  interface = option_map erase_entry m.interface;
  body = option_map erase_entry m.body;
}

abbrev pub erase_program : List NotedParts → List ModuleParts
erase_program program = map erase_parts program
