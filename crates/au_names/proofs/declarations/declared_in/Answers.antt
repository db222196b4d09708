use Rattle.std.proofs.Common.{ap, sym}
use Rattle.std.specs.Prelude.{slice_get}
use Rattle.au_modules.specs.Seen.{tree_seen}
use Rattle.au_names.specs.Exporting.{declarations_seen}
use Rattle.au_names.specs.Standing.{standing_from}
use Rattle.au_names.proofs.declarations.declared_in.Goals as goal

pub returns-in-None : goal.returns-in-None
unfolding standing_from
returns-in-None c =
    ap
    (λ file.
    slice_get (standing_from c.args.place c.args.part 0 (declarations_seen (tree_seen file)))
    c.args.index)
    (sym c.in-None.is)
