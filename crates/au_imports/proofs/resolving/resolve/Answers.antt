-- Where nothing is refused, names are good and promises are kept.
use Rattle.std.proofs.Common.{sym, ◌∙◌}
use Rattle.au_modules.specs.Slots.{modules}
use Rattle.au_imports.proofs.GoodLemmas.{good_from}
use Rattle.au_imports.proofs.resolving.resolve.Goals as goal

pub accepted-requires : goal.accepted-requires
accepted-requires c = good_from (modules c.in_ok-named.named) (sym c.in_ok-fault.ensures ∙ c.in-None.is)
