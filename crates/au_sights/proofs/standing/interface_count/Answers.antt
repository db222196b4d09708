use Rattle.std.proofs.Common.{ap, ◌∙◌}
use Rattle.std.specs.Prelude.{slice_get}
use Rattle.au_modules.specs.Seen.{interface_tree, tree_seen}
use Rattle.au_modules.specs.Slots as slots
use Rattle.au_sights.proofs.StandingLemmas.{count_seen}
use Rattle.au_sights.proofs.standing.interface_count.Goals as goal

pub returns : goal.returns
returns c =
    c.count_in.ensures
    ∙ count_seen (slice_get (slots.modules c.args.program.now) c.args.place) (tree_seen c.interface.result)
    (c.interface.ensures ∙ ap (λ m. interface_tree (slice_get (slots.modules m) c.args.place)) c.modules.ensures.kept)
