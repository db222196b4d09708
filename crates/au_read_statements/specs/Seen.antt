-- What the code's branches and arms say: each as reading gives it.
use Rattle.std.specs.Prelude.{ℕ, List, map}
use Rattle.au_syntax.specs.declared.parsed.Parsed.{Parsed}
use Rattle.au_syntax.specs.declared.phases.Phase.{Ghosts}
use Rattle.au_syntax.specs.declared.statements.Branch.{Branch}
use Rattle.au_syntax.specs.declared.statements.Arm.{Arm}
use Rattle.au_syntax.specs.contracts.parsed.ParsedPhase.TheImpl.{ghosts as parsed}
use Rattle.au_syntax.specs.Expressions.{Expression}
use Rattle.au_syntax.specs.Statements.{Statements}
use Rattle.au_syntax.specs.Views.{placed, bound, expression, block}
use Rattle.au_read_statements.specs.StatementReading.{ArmParts}

-- a branch
abbrev pub branch_seen : {X N T C : Type 0} (g : Ghosts X N T C) → Branch X N T C
    → Expression g.SeenName g.SeenType g.SeenCall × Statements g.SeenName g.SeenType g.SeenCall
branch_seen g b = (expression g b.test.value, block g b.block)

-- an arm
abbrev pub arm_seen : Arm Parsed (List ℕ) (Unit {0}) (Unit {0}) → ArmParts
arm_seen a = record {
  at = a.at;
  name = placed parsed a.case;
  binds = map (bound parsed) a.binds.items;
  block = block parsed a.block;
}
