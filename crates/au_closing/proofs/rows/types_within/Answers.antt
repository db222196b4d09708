use Rattle.std.proofs.Common.{ap, map, ◌∙◌, sym}
use Rattle.au_type_texts.specs.Views.{closed_meaning}
use Rattle.au_type_texts.proofs.ClosedLemmas.{named_means}
use Rattle.au_closed_trees.proofs.GivenLemmas.{listed_meanings}
use Rattle.au_closing.specs.Instances as spec
use Rattle.au_closing.proofs.rows.types_within.Goals as goal

pub returns-in-Named : goal.returns-in-Named
returns-in-Named c =
    ap (map closed_meaning) c.as_slice.ensures.value
    ∙ listed_meanings c.in-Named.args.items
    ∙ sym (ap spec.types_within
    (ap closed_meaning c.in-Named.is ∙ named_means c.in-Named.of c.in-Named.args))
