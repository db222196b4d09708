use Rattle.std.proofs.Common.{◌+◌, length}
use Rattle.au_graphs.specs.Marks.{unmarked}
use Rattle.au_caps_text.proofs.SearchLemmas.{Searched}
use Rattle.au_caps_text.proofs.searching.marked_from.Given as goal

abbrev pub invariant-loop-next : goal.invariant-loop-next
invariant-loop-next l = Searched l.graph l.starts l.seen.items l.work.items

-- what isn't met, and what waits
abbrev pub decreases-loop-next : goal.decreases-loop-next
decreases-loop-next l = unmarked l.seen.items + length l.work.items
