use Rattle.std.proofs.Common.{sym}
use Rattle.std.proofs.lemmas.List.{drop-drop}
use Rattle.au_linear.proofs.tasks.next_sort.Goals as goal

pub returns-then-from-sorts : goal.returns-then-from-sorts
returns-then-from-sorts c = sym (drop-drop 1 c.args.from c.args.sorts.now)
