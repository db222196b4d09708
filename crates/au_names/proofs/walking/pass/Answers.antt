use Rattle.std.proofs.Common.{◌+◌, refl}
use Rattle.std.proofs.lemmas.Result.{on_ok_weaker}
use Rattle.au_names.specs.HeadsOf.{head_in}
use Rattle.au_names.specs.Walks.{written}
use Rattle.au_names.proofs.RowLemmas.{free_put}
use Rattle.au_names.proofs.walking.pass.Goals as goal

pub returns-then-branch-clause-free : goal.returns-then-branch-clause-free
returns-then-branch-clause-free c =
    on_ok_weaker c.push_row.result
    (free_put c.args.walk.now.place c.args.walk.now.number (c.args.walk.now.number + 1) c.args.heads.now
    c.push_row.new.heads (head_in c.args.owner.now (written c.args.decl.now)) c.requires.free refl)
    c.push_row.ensures
