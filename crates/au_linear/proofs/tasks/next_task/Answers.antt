use Rattle.std.proofs.Common.{sym}
use Rattle.std.proofs.lemmas.List.{drop-drop}
use Rattle.au_linear.proofs.tasks.next_task.Goals as goal

pub returns-then-from-tasks : goal.returns-then-from-tasks
returns-then-from-tasks c = sym (drop-drop 1 c.args.from c.args.tasks.now)
