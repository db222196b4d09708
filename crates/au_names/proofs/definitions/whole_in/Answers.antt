use Rattle.std.proofs.Common.{ap, sym, ◌∙◌}
use Rattle.std.specs.Prelude.{slice_get}
use Rattle.au_modules.specs.Seen.{tree_seen}
use Rattle.au_modules.specs.Slots as slots
use Rattle.au_names.proofs.DefiningLemmas.{whole_missing, whole_there}
use Rattle.au_names.proofs.StandingLemmas.{body_list}
use Rattle.au_names.proofs.definitions.whole_in.Goals as goal

pub returns-in-None : goal.returns-in-None
returns-in-None c =
    let program = slots.modules c.args.modules.now in
    whole_missing c.args.place c.args.name.now (slice_get program c.args.place)
    (sym c.in-None.is ∙ c.whole.ensures program c.requires)

pub returns-in-Some : goal.returns-in-Some
returns-in-Some c =
    let program = slots.modules c.args.modules.now in
    let o = slice_get program c.args.place in
    c.declared_in.ensures
    ∙ ap (λ l. slice_get l c.in-Some.index)
    (body_list c.args.place o (tree_seen c.body_at.result) c.body_at.ensures)
    ∙ whole_there c.args.place c.args.name.now o c.in-Some.index
    (sym c.in-Some.is ∙ c.whole.ensures program c.requires)
