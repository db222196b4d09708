use Rattle.std.proofs.Common.{List, take}
use Rattle.au_modules.specs.Slots as slots
use Rattle.au_typing.specs.Trees.{NotedParts}
use Rattle.au_caps.specs.Reports.{AreRowsOf}
use Rattle.au_caps_lists.specs.Views.{bodies_said}
use Rattle.au_caps.specs.Views.{AreLabelled}
use Rattle.au_caps.proofs.rows.rows_of.Given as goal

-- the rows of the bodies so far
abbrev pub invariant-loop-own : goal.invariant-loop-own
invariant-loop-own l =
    (noted : List NotedParts) → AreLabelled (slots.modules l.program) noted l.reaching
    (bodies_said l.one-items) l.made
    → AreRowsOf (slots.modules l.program) noted (bodies_said (take l.own l.one-items)) l.rows.items
