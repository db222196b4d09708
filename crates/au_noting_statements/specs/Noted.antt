-- What the noted parts of statements say.
use Rattle.std.specs.Prelude.{List, map}
use Rattle.std.specs.Global.{Global}
use Rattle.std.specs.declared.boxed.Box.{Box}
use Rattle.au_sights.specs.contracts.noted.NotedPhase.TheImpl.{ghosts as noted}
use Rattle.au_noting_expressions.specs.Said.{NotedCode}
use Rattle.au_syntax.specs.Views.{expression}
use Rattle.au_typing.specs.Notes.{NotedExpression}

-- a noted expression of the code in a box
abbrev pub NotedBox : Type 0
NotedBox = Box NotedCode Global

-- an expression in a box
abbrev pub boxed : NotedBox → NotedExpression
boxed e = expression noted e.value

-- two expressions in boxes
abbrev pub two_boxed : NotedBox × NotedBox → NotedExpression × NotedExpression
two_boxed y = (boxed y.0, boxed y.1)

-- expressions in boxes, in order
abbrev pub all_boxed : List NotedBox → List NotedExpression
all_boxed all = map boxed all
