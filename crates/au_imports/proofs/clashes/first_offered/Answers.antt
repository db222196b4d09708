use Rattle.std.proofs.Common.{arith, ◌∙◌}
use Rattle.au_names.proofs.ExportLemmas.{as_many}
use Rattle.au_imports.specs.Importers.{program_of}
use Rattle.au_imports.proofs.OfferLemmas.{first_found}
use Rattle.au_imports.proofs.clashes.first_offered.Goals as goal

pub offered_names-names-requires : goal.offered_names-names-requires
offered_names-names-requires c =
    omega (
      arith,
      c.requires.within,
      as_many c.args.importer.now.offers.now.exports.interfaces.items
          (program_of c.args.importer.now) c.requires.ready.offers.exports.interfaces,
    )

pub returns : goal.returns
returns c = λ m here.
    c.copied.ensures
    ∙ c.get.ensures
    ∙ first_found c.args.space m c.args.name.now c.offered_names-names.result.now
    (c.offered_names-names.ensures (program_of c.args.importer.now) m c.requires.ready.offers.exports
    here)
