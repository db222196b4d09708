use Rattle.std.proofs.Common.{◌++◌, ◌∷◌, [], ap, ◌∙◌}
use Rattle.indexmap.proofs.CallerLemmas.{insert_entry-new}
use Rattle.au_types.specs.Rows.{same_place, head_of}
use Rattle.au_types.proofs.headings.Heads.push.Goals as goal

pub returns-clause-ok : goal.returns-clause-ok
returns-clause-ok c =
    c.in_ok-insert.ensures.entries
    ∙ insert_entry-new same_place c.self.inside.rows c.args.at c.args.head
    (ap (λ rows. head_of rows c.args.at) c.self.view_is ∙ c.requires)
    ∙ ap (λ rows. rows ++ (c.args.at, c.args.head) ∷ []) c.self.view_is
