use Rattle.std.proofs.Common.{◌++◌, sym, ap, ◌∙◌}
use Rattle.std.proofs.lemmas.List.{append-nil}
use Rattle.au_modules.specs.Seen.{tree_seen}
use Rattle.au_names.specs.Exporting.{declarations_seen}
use Rattle.au_names.specs.Walks.{rows_on, walk_over}
use Rattle.au_names.proofs.WalkLemmas.{rows_on-none, walk_over-none}
use Rattle.au_names.proofs.walking.pass_part.Goals as goal

pub returns-in-None-clause-rows : goal.returns-in-None-clause-rows
returns-in-None-clause-rows c =
    sym (append-nil c.args.heads.now)
    ∙ ap (λ r. c.args.heads.now ++ r) (sym (rows_on-none c.args.walk.now c.args.owner.now))
    ∙ ap
    (λ part.
    c.args.heads.now ++ rows_on c.args.walk.now c.args.owner.now (declarations_seen (tree_seen part)))
    (sym c.in-None.is)

pub returns-in-None-clause-walk : goal.returns-in-None-clause-walk
returns-in-None-clause-walk c =
    sym (walk_over-none c.args.walk.now)
    ∙ ap (λ part. walk_over c.args.walk.now (declarations_seen (tree_seen part))) (sym c.in-None.is)
