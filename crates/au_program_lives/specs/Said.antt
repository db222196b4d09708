-- What parts of the code's trees say: with names as their bytes, and without notes.
use Rattle.std.specs.Prelude.{List, map}
use Rattle.au_syntax.specs.declared.phases.Phase.{Ghosts}
use Rattle.au_syntax.specs.declared.names.Bind.{Bind}
use Rattle.au_syntax.specs.declared.names.Field.{Field}
use Rattle.au_syntax.specs.declared.statements.Arm.{Arm}
use Rattle.au_syntax.specs.declared.statements.Block.{Block}
use Rattle.au_syntax.specs.declared.statements.Branch.{Branch}
use Rattle.au_syntax.specs.declared.statements.Stmt.{Stmt}
use Rattle.au_syntax.specs.Plain.{Bytes, PlainStatement, PlainStatements, PlainBranches, PlainArms}
use Rattle.au_syntax.specs.Plain.{plain_labelled, plain_bound, plain_statement, plain_statements}
use Rattle.au_syntax.specs.Plain.{plain_branches, plain_arms}
use Rattle.au_syntax.specs.Types.{Bound, Labelled}
use Rattle.au_syntax.specs.Views.{labelled, bound, statement, statement_all, block, branch_all, arm_all}

module _ {X N T C : Type 0} (g : Ghosts X N T C) where
  -- parameters
  abbrev pub parameters_said : List (Field X N T C) → List (Labelled Bytes)
  parameters_said fields = map (plain_labelled g.name_bytes) (map (labelled g) fields)

  -- fields that are bound
  abbrev pub binds_said : List (Bind X N T C) → List (Bound Bytes)
  binds_said binds = map (plain_bound g.name_bytes) (map (bound g) binds)

  -- a statement
  abbrev pub statement_said : Stmt X N T C → PlainStatement
  statement_said s = plain_statement g.name_bytes (statement g s)

  -- statements in order
  abbrev pub statements_said : List (Stmt X N T C) → PlainStatements
  statements_said ss = plain_statements g.name_bytes (statement_all g ss)

  -- a block
  abbrev pub block_said : Block X N T C → PlainStatements
  block_said b = plain_statements g.name_bytes (block g b)

  -- the branches of a conditional
  abbrev pub branches_said : List (Branch X N T C) → PlainBranches
  branches_said bs = plain_branches g.name_bytes (branch_all g bs)

  -- the arms of a case
  abbrev pub arms_said : List (Arm X N T C) → PlainArms
  arms_said all = plain_arms g.name_bytes (arm_all g all)
