-- The code's noted trees.
use Rattle.std.specs.Global.{Global}
use Rattle.std.specs.declared.boxed.Box.{Box}
use Rattle.au_sights.specs.declared.noted.Noted.{Noted}
use Rattle.au_sights.specs.declared.notes.Notes.{Notes}
use Rattle.au_syntax.specs.declared.expressions.Argument.{Argument}
use Rattle.au_syntax.specs.declared.expressions.Expr.{Expr}
use Rattle.au_syntax.specs.declared.expressions.Site.{Site}
use Rattle.au_syntax.specs.declared.names.Bind.{Bind}
use Rattle.au_syntax.specs.declared.names.BorrowNames.{BorrowNames}
use Rattle.au_syntax.specs.declared.names.Ident.{Ident}
use Rattle.au_syntax.specs.declared.statements.Arm.{Arm}
use Rattle.au_syntax.specs.declared.statements.Block.{Block}
use Rattle.au_syntax.specs.declared.statements.Branch.{Branch}
use Rattle.au_syntax.specs.Plain.{Bytes}

abbrev pub CodeBox : Type 0
CodeBox = Box (Expr Noted Bytes Notes (Unit {0})) Global

abbrev pub CodeBlock : Type 0
CodeBlock = Block Noted Bytes Notes (Unit {0})

abbrev pub CodeSite : Type 0
CodeSite = Site Noted Bytes Notes (Unit {0})

abbrev pub CodeExpr : Type 0
CodeExpr = Expr Noted Bytes Notes (Unit {0})

abbrev pub CodeArgument : Type 0
CodeArgument = Argument Noted Bytes Notes (Unit {0})

abbrev pub CodeBranch : Type 0
CodeBranch = Branch Noted Bytes Notes (Unit {0})

abbrev pub CodeArm : Type 0
CodeArm = Arm Noted Bytes Notes (Unit {0})

abbrev pub CodeBind : Type 0
CodeBind = Bind Noted Bytes Notes (Unit {0})

abbrev pub CodeIdent : Type 0
CodeIdent = Ident Noted Bytes Notes (Unit {0})

abbrev pub CodeNames : Type 0
CodeNames = BorrowNames Noted Bytes Notes (Unit {0})
