use Rattle.std.proofs.Common.{◌++◌, sym, ap, ◌∙◌}
use Rattle.std.proofs.lemmas.List.{append-nil}
use Rattle.au_modules.specs.Seen.{tree_seen}
use Rattle.au_names.specs.Exporting.{declarations_seen}
use Rattle.au_formed.specs.Text.{spots_from}
use Rattle.au_formed.specs.Said.{spots_said}
use Rattle.au_formed.proofs.TextLemmas.{spots_none}
use Rattle.au_formed.proofs.texts.push_part.Goals as goal

pub returns-in-None-clause-spots : goal.returns-in-None-clause-spots
returns-in-None-clause-spots c =
    let old = spots_said c.args.list.now.items in
    sym (ap (λ file. old
    ++ spots_from c.args.place c.args.part c.args.first (declarations_seen (tree_seen file))) c.in-None.is
    ∙ ap (λ r. old ++ r) (spots_none c.args.place c.args.part c.args.first)
    ∙ append-nil old)
