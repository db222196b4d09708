-- What noted trees of the code say.
use Rattle.std.specs.Prelude.{ℕ, List, Vec, map, Option, option_map}
use Rattle.std.specs.Global.{Global}
use Rattle.au_matching.specs.Bindings.{Bindings}
use Rattle.au_sights.specs.contracts.noted.NotedPhase.TheImpl.{ghosts as noted}
use Rattle.au_sights.specs.declared.noted.Noted.{Noted}
use Rattle.au_sights.specs.declared.notes.Notes.{Notes}
use Rattle.au_sights.specs.Views.{note}
use Rattle.au_syntax.specs.declared.expressions.Expr.{Expr}
use Rattle.au_syntax.specs.Views.{expression}
use Rattle.au_typing.specs.Notes.{Note, NotedExpression}
use Rattle.au_typing.specs.SearchCalls.{Half}

-- a noted expression of the code
abbrev pub NotedCode : Type 0
NotedCode = Expr Noted (List ℕ) Notes (Unit {0})

-- noted expressions in order
abbrev pub all_said : List NotedCode → List NotedExpression
all_said es = map (expression noted) es

-- an argument with the substitution after it
abbrev pub beside_said : NotedCode × Bindings → NotedExpression × Bindings
beside_said y = (expression noted y.0, y.1)

-- an argument after the first pass
abbrev pub half_said : Option NotedCode → Half
half_said half = option_map (expression noted) half

-- the note of a call, and its noted arguments
abbrev pub call_said : Notes × Vec NotedCode Global → Note × List NotedExpression
call_said z = (note z.0, all_said z.1.items)
