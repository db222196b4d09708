use Rattle.std.proofs.Common.{◌++◌, map, sym, ap, ◌∙◌}
use Rattle.std.specs.Prelude.{slice_get}
use Rattle.std.proofs.lemmas.List.{append-nil}
use Rattle.au_modules.specs.Seen.{part_tree, tree_seen}
use Rattle.au_modules.specs.Slots as slots
use Rattle.au_imports.proofs.BroughtLemmas.{tree_is}
use Rattle.au_rules.specs.Marks.{marks}
use Rattle.au_rules.specs.Outside.{outside}
use Rattle.au_rules.specs.Scopes.{doubles_in}
use Rattle.au_rules.proofs.PartLemmas.{nothing_declared}
use Rattle.au_rules.proofs.ScopeLemmas.{doubles_nothing}
use Rattle.au_rules.proofs.finding.judge_part.Goals as goal

pub returns-in-None-clause-found : goal.returns-in-None-clause-found
returns-in-None-clause-found c = λ m here.
    let program = slots.modules c.args.resolved.now in
    let start = c.args.list.now.items in
    let s = c.args.scopes.now in
    let foreign = outside program c.args.place m c.args.part in
    let there =
    c.part.ensures
    ∙ ap (part_tree c.args.part) (ap (λ r. slice_get (slots.modules r) c.args.place) c.modules.ensures.kept ∙ here)
    ∙ tree_is c.args.part m in
    let none = nothing_declared c.args.part m (sym (ap tree_seen c.in-None.is) ∙ there) in
    sym (ap (λ ds. start ++ doubles_in foreign s (map (marks c.args.part) ds)) none
    ∙ ap (λ r. start ++ r) (doubles_nothing foreign s) ∙ append-nil start)
