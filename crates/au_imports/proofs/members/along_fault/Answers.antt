use Rattle.std.proofs.Common.{◌≡◌, Some, refl, ap, sym, ◌∙◌, subst}
use Rattle.std.specs.Prelude.{IfOk}
use Rattle.au_types.specs.declared.spaces.Space.TheVariants.{Types}
use Rattle.au_modules.specs.Seen.{interface_tree}
use Rattle.au_names.proofs.AlongLemmas.{along_file}
use Rattle.au_imports.specs.Choices.{first_of}
use Rattle.au_imports.specs.Clashing.{first_offered}
use Rattle.au_imports.specs.Importers.{fault_in}
use Rattle.au_imports.proofs.ImportingLemmas.{along_none, along_some}
use Rattle.au_imports.proofs.members.along_fault.Goals as goal

pub returns-in-None-clause-along : goal.returns-in-None-clause-along
returns-in-None-clause-along c = λ m other this here.
    along_none (fault_in c.args.importer.now m c.args.from other c.args.name.now.at)
    c.args.from c.args.name.now.name other (c.in-None.ensures other here
    ∙ ap (first_offered Types other) c.as_bytes.ensures.bytes)

pub returns-in-Some-clause-along : goal.returns-in-Some-clause-along
returns-in-Some-clause-along c = λ m other this here.
    let fault = fault_in c.args.importer.now m c.args.from other c.args.name.now.at in
    subst (λ z. IfOk c.fault_once.result (λ found. found ≡ z))
    (ap (first_of fault)
    (sym (along_file (record { «module» = c.args.from; decl = c.in-Some.number }) other
    (interface_tree (Some other)) refl))
    ∙ along_some fault c.args.from c.args.name.now.name other c.in-Some.number (interface_tree (Some other))
    (c.in-Some.ensures other here ∙ ap (first_offered Types other) c.as_bytes.ensures.bytes) refl)
    (c.fault_once.ensures.fault m other this here)
