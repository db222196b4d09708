-- What trees of the code say, as the trees over which lives are judged.
use Rattle.std.specs.Prelude.{List, map}
use Rattle.au_syntax.specs.declared.phases.Phase.{Ghosts}
use Rattle.au_syntax.specs.declared.names.Ident.{Ident}
use Rattle.au_syntax.specs.declared.names.Bind.{Bind}
use Rattle.au_syntax.specs.declared.names.Field.{Field}
use Rattle.au_syntax.specs.declared.expressions.Expr.{Expr}
use Rattle.au_syntax.specs.declared.expressions.Argument.{Argument}
use Rattle.au_syntax.specs.declared.statements.Stmt.{Stmt}
use Rattle.au_syntax.specs.declared.statements.Block.{Block}
use Rattle.au_syntax.specs.declared.statements.Branch.{Branch}
use Rattle.au_syntax.specs.declared.statements.Arm.{Arm}
use Rattle.au_syntax.specs.Names.{Placed}
use Rattle.au_syntax.specs.Types.{Bound, Labelled}
use Rattle.au_syntax.specs.Views.{placed, labelled, bound, expression, expression_all, argument_all}
use Rattle.au_syntax.specs.Views.{statement, statement_all, block, branch_all, arm_all}
use Rattle.au_syntax.specs.Plain.{Bytes, PlainExpression, PlainExpressions, PlainArguments, PlainStatement}
use Rattle.au_syntax.specs.Plain.{PlainStatements, PlainBranches, PlainArms, plain_name, plain_labelled}
use Rattle.au_syntax.specs.Plain.{plain_bound, plain_expression, plain_expressions, plain_arguments}
use Rattle.au_syntax.specs.Plain.{plain_statement, plain_statements, plain_branches, plain_arms}

module _ {X N T C : Type 0} (g : Ghosts X N T C) where
  abbrev pub seen_name : Ident X N T C → Placed Bytes
  seen_name name = plain_name g.name_bytes (placed g name)

  abbrev pub seen_bind : Bind X N T C → Bound Bytes
  seen_bind bind = plain_bound g.name_bytes (bound g bind)

  abbrev pub seen_binds : List (Bind X N T C) → List (Bound Bytes)
  seen_binds binds = map (plain_bound g.name_bytes) (map (bound g) binds)

  abbrev pub seen_parameters : List (Field X N T C) → List (Labelled Bytes)
  seen_parameters fields = map (plain_labelled g.name_bytes) (map (labelled g) fields)

  abbrev pub seen_expression : Expr X N T C → PlainExpression
  seen_expression e = plain_expression g.name_bytes (expression g e)

  abbrev pub seen_expressions : List (Expr X N T C) → PlainExpressions
  seen_expressions es = plain_expressions g.name_bytes (expression_all g es)

  abbrev pub seen_arguments : List (Argument X N T C) → PlainArguments
  seen_arguments args = plain_arguments g.name_bytes (argument_all g args)

  abbrev pub seen_statement : Stmt X N T C → PlainStatement
  seen_statement s = plain_statement g.name_bytes (statement g s)

  abbrev pub seen_statements : List (Stmt X N T C) → PlainStatements
  seen_statements ss = plain_statements g.name_bytes (statement_all g ss)

  abbrev pub seen_block : Block X N T C → PlainStatements
  seen_block b = plain_statements g.name_bytes (block g b)

  abbrev pub seen_branches : List (Branch X N T C) → PlainBranches
  seen_branches bs = plain_branches g.name_bytes (branch_all g bs)

  abbrev pub seen_arms : List (Arm X N T C) → PlainArms
  seen_arms rest = plain_arms g.name_bytes (arm_all g rest)
