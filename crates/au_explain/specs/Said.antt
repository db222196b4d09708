-- What parts of the code's trees say.
use Rattle.std.specs.Prelude.{ℕ, List, map}
use Rattle.au_syntax.specs.contracts.parsed.ParsedPhase.TheImpl.{ghosts as parsed}
use Rattle.au_syntax.specs.declared.declarations.Generic.{Generic}
use Rattle.au_syntax.specs.declared.declarations.Method.{Method}
use Rattle.au_syntax.specs.declared.expressions.Argument.{Argument}
use Rattle.au_syntax.specs.declared.expressions.Expr.{Expr}
use Rattle.au_syntax.specs.declared.names.Bind.{Bind}
use Rattle.au_syntax.specs.declared.names.Field.{Field}
use Rattle.au_syntax.specs.declared.names.Ident.{Ident}
use Rattle.au_syntax.specs.declared.parsed.Parsed.{Parsed}
use Rattle.au_syntax.specs.declared.statements.Arm.{Arm}
use Rattle.au_syntax.specs.declared.statements.Block.{Block}
use Rattle.au_syntax.specs.declared.statements.Branch.{Branch}
use Rattle.au_syntax.specs.declared.statements.Stmt.{Stmt}
use Rattle.au_syntax.specs.Modules.{Constrained}
use Rattle.au_syntax.specs.Names.{Placed}
use Rattle.au_syntax.specs.Plain.{Bytes, PlainArguments, PlainArms, PlainBranches, PlainExpression}
use Rattle.au_syntax.specs.Plain.{PlainExpressions, PlainMethod, PlainStatement, PlainStatements}
use Rattle.au_syntax.specs.Types.{Bound, Labelled}
use Rattle.au_syntax.specs.Views.{arm_all, argument_all, block, bound, branch_all, constrained, expression}
use Rattle.au_syntax.specs.Views.{expression_all, labelled, method_body, placed, statement, statement_all}

-- a name, and several of them
abbrev pub name_said : Ident Parsed (List ℕ) (Unit {0}) (Unit {0}) → Placed Bytes
name_said name = placed parsed name

abbrev pub names_said : List (Ident Parsed (List ℕ) (Unit {0}) (Unit {0})) → List (Placed Bytes)
names_said names = map (placed parsed) names

-- a field that is bound, and several of them
abbrev pub bind_said : Bind Parsed (List ℕ) (Unit {0}) (Unit {0}) → Bound Bytes
bind_said bind = bound parsed bind

abbrev pub binds_said : List (Bind Parsed (List ℕ) (Unit {0}) (Unit {0})) → List (Bound Bytes)
binds_said binds = map (bound parsed) binds

-- parameters
abbrev pub parameters_said : List (Field Parsed (List ℕ) (Unit {0}) (Unit {0})) → List (Labelled Bytes)
parameters_said fields = map (labelled parsed) fields

-- type parameters
abbrev pub generics_said : List (Generic Parsed (List ℕ) (Unit {0}) (Unit {0})) → List (Constrained Bytes)
generics_said generics = map (constrained parsed) generics

-- an expression, several of them, and named arguments
abbrev pub expression_said : Expr Parsed (List ℕ) (Unit {0}) (Unit {0}) → PlainExpression
expression_said e = expression parsed e

abbrev pub expressions_said : List (Expr Parsed (List ℕ) (Unit {0}) (Unit {0})) → PlainExpressions
expressions_said es = expression_all parsed es

abbrev pub arguments_said : List (Argument Parsed (List ℕ) (Unit {0}) (Unit {0})) → PlainArguments
arguments_said args = argument_all parsed args

-- a statement, several of them, and a block
abbrev pub statement_said : Stmt Parsed (List ℕ) (Unit {0}) (Unit {0}) → PlainStatement
statement_said s = statement parsed s

abbrev pub statements_said : List (Stmt Parsed (List ℕ) (Unit {0}) (Unit {0})) → PlainStatements
statements_said ss = statement_all parsed ss

abbrev pub block_said : Block Parsed (List ℕ) (Unit {0}) (Unit {0}) → PlainStatements
block_said b = block parsed b

-- the branches of a conditional, and the arms of a case
abbrev pub branches_said : List (Branch Parsed (List ℕ) (Unit {0}) (Unit {0})) → PlainBranches
branches_said bs = branch_all parsed bs

abbrev pub arms_said : List (Arm Parsed (List ℕ) (Unit {0}) (Unit {0})) → PlainArms
arms_said all = arm_all parsed all

-- the methods of an instance
abbrev pub methods_said : List (Method Parsed (List ℕ) (Unit {0}) (Unit {0})) → List PlainMethod
methods_said methods = map (method_body parsed) methods
