use Rattle.std.proofs.Common.{ap, ◌∙◌}
use Rattle.au_types.specs.Tables.{find}
use Rattle.au_types.proofs.TableLemmas.{find-firsts}
use Rattle.au_names.specs.Owned.{target}
use Rattle.au_imports.specs.Clashing.{brought_to, is_other}
use Rattle.au_imports.specs.Importers.{program_of}
use Rattle.au_imports.proofs.BroughtLemmas.{table_of}
use Rattle.au_imports.proofs.clashes.is_other_brought.Goals as goal

pub returns : goal.returns
returns c = λ m here.
    let one = c.args.importer.now in
    c.is_other.ensures
    ∙ ap (λ o. is_other o (target c.args.at.«module» c.args.name.now c.args.at.decl))
    (c.get.ensures
    ∙ ap (find c.args.local.now) (c.brought_in-table.ensures
    ∙ table_of (program_of one) one.place m one.part one.brought.now
    (c.requires.brought m here) c.args.space)
    ∙ find-firsts c.args.local.now (brought_to (program_of one) one.place m one.part c.args.space))
