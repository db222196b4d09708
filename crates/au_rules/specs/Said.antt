-- What the lists and blocks in a declaration of the code say.
use Rattle.std.specs.Prelude.{ℕ, List, map}
use Rattle.au_syntax.specs.contracts.parsed.ParsedPhase.TheImpl.{ghosts as parsed}
use Rattle.au_syntax.specs.declared.parsed.Parsed.{Parsed}
use Rattle.au_syntax.specs.declared.names.Bind.{Bind}
use Rattle.au_syntax.specs.declared.statements.Arm.{Arm}
use Rattle.au_syntax.specs.declared.statements.Block.{Block}
use Rattle.au_syntax.specs.declared.statements.Branch.{Branch}
use Rattle.au_syntax.specs.declared.statements.Stmt.{Stmt}
use Rattle.au_syntax.specs.Plain.{Bytes, PlainArms, PlainBranches, PlainStatement, PlainStatements}
use Rattle.au_syntax.specs.Plain.{plain_arms, plain_bound, plain_branches, plain_statement, plain_statements}
use Rattle.au_syntax.specs.Types.{Bound}
use Rattle.au_syntax.specs.Views.{arm_all, block, bound, branch_all, statement, statement_all}

-- fields that are bound
abbrev pub binds_said : List (Bind Parsed (List ℕ) (Unit {0}) (Unit {0})) → List (Bound Bytes)
binds_said binds = map (plain_bound parsed.name_bytes) (map (bound parsed) binds)

-- a statement, several of them, and a block
abbrev pub statement_said : Stmt Parsed (List ℕ) (Unit {0}) (Unit {0}) → PlainStatement
statement_said s = plain_statement parsed.name_bytes (statement parsed s)

abbrev pub statements_said : List (Stmt Parsed (List ℕ) (Unit {0}) (Unit {0})) → PlainStatements
statements_said ss = plain_statements parsed.name_bytes (statement_all parsed ss)

abbrev pub block_said : Block Parsed (List ℕ) (Unit {0}) (Unit {0}) → PlainStatements
block_said b = plain_statements parsed.name_bytes (block parsed b)

-- branches, and arms
abbrev pub branches_said : List (Branch Parsed (List ℕ) (Unit {0}) (Unit {0})) → PlainBranches
branches_said bs = plain_branches parsed.name_bytes (branch_all parsed bs)

abbrev pub arms_said : List (Arm Parsed (List ℕ) (Unit {0}) (Unit {0})) → PlainArms
arms_said rest = plain_arms parsed.name_bytes (arm_all parsed rest)
