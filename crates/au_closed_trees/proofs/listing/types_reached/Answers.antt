use Rattle.std.proofs.Common.{map, subst}
use Rattle.au_type_texts.specs.Views.{closed_meaning}
use Rattle.au_modules.specs.Slots as slots
use Rattle.au_graphs.specs.Finding.{found_in}
use Rattle.au_graphs.specs.Reached.{Lists}
use Rattle.au_closed_trees.specs.Occurring.{follows}
use Rattle.au_closed_trees.proofs.ListingLemmas.{by_keys}
use Rattle.au_closed_trees.proofs.listing.types_reached.Goals as goal

pub returns-in-Ok : goal.returns-in-Ok
returns-in-Ok c =
    subst (λ test. Lists test (follows (slots.modules c.args.program.now)) (map closed_meaning c.args.starts.items)
    (found_in closed_meaning c.in-Ok.found)) by_keys c.in-Ok.ensures.lists
