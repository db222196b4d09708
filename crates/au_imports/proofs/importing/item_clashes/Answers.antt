use Rattle.std.proofs.Common.{sym, ap, ◌∙◌}
use Rattle.au_syntax.specs.contracts.parsed.ParsedPhase.TheImpl.{ghosts as parsed}
use Rattle.au_syntax.specs.Plain.{plain_renaming}
use Rattle.au_syntax.specs.Views.{renaming}
use Rattle.au_imports.specs.Importers.{program_of}
use Rattle.au_imports.proofs.ImportingLemmas.{item_found}
use Rattle.au_imports.proofs.importing.item_clashes.Goals as goal

pub returns : goal.returns
returns c = λ m other this here.
    let one = c.args.importer.now in
    item_found (program_of one) one.place m one.part c.args.from other
    (plain_renaming parsed.name_bytes (renaming parsed c.args.item.now)) c.args.space
    c.first_offered-first.result c.last_offered-last.result
    c.as_bytes-name.result.now c.as_bytes-name.ensures.bytes (c.first_offered-first.ensures other here)
    (c.last_offered-last.ensures other here) c.as_bytes-local.result.now c.found_clashes.result
    (sym c.if-is_apart.ensures)
    (c.as_bytes-local.ensures.bytes ∙ ap (λ p. p.name) c.given.ensures) (c.found_clashes.ensures m other this)
