use Rattle.std.proofs.Common.{length, ap, sym, ◌∙◌}
use Rattle.au_type_texts.specs.Views.{closed_meaning}
use Rattle.au_lowering_statements.proofs.BlockLemmas.{known_same}
use Rattle.au_lowering_statements.proofs.entering.fields_of.Goals as goal

pub returns : goal.returns
returns g c =
    c.count.ensures
    ∙ ap length (sym (known_same ((g.R.Lookup.round c.args.lookup.now).fields
    (closed_meaning c.args.note.now.of) 0)))
