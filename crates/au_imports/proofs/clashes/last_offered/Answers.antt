use Rattle.std.proofs.Common.{ap, ◌∙◌}
use Rattle.au_types.specs.Tables.{find}
use Rattle.au_imports.specs.Importers.{program_of}
use Rattle.au_imports.proofs.OfferLemmas.{last_found}
use Rattle.au_imports.proofs.clashes.last_offered.Goals as goal

pub returns : goal.returns
returns c = λ m here.
    c.copied.ensures
    ∙ c.get.ensures
    ∙ ap (find c.args.name.now) c.in_space-names.ensures
    ∙ last_found c.args.space c.args.importer.now.offers.now.lasts.items
    (program_of c.args.importer.now) c.args.place m c.index-tables.result.now
    c.args.name.now c.requires.ready.offers.lasts here c.index-tables.ensures
