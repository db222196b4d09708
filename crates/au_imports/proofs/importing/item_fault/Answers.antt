use Rattle.std.proofs.Common.{◌≡◌, sym, ap, ◌∙◌, subst}
use Rattle.std.specs.Prelude.{IfOk}
use Rattle.au_syntax.specs.contracts.parsed.ParsedPhase.TheImpl.{ghosts as parsed}
use Rattle.au_syntax.specs.Plain.{plain_renaming}
use Rattle.au_syntax.specs.Views.{renaming}
use Rattle.au_imports.specs.Importers.{program_of}
use Rattle.au_imports.specs.NameFaults.{is_hidden}
use Rattle.au_imports.proofs.ImportingLemmas.{item_along}
use Rattle.au_imports.proofs.importing.item_fault.Goals as goal

pub returns-clause-item : goal.returns-clause-item
returns-clause-item c = λ m other this here.
    let one = c.args.importer.now in
    subst (λ z. IfOk c.along_fault.result (λ found. found ≡ z))
    (item_along (program_of one) one.place m one.part c.args.from other
    (plain_renaming parsed.name_bytes (renaming parsed c.args.item.now))
    (sym (c.if-is_hidden.ensures m other here
    ∙ ap (is_hidden (program_of one) one.place m one.part c.args.from other) c.as_bytes.ensures.bytes))
    (sym (c.if-any_clashes.ensures m other this here)))
    (c.along_fault.ensures.along m other this here)
