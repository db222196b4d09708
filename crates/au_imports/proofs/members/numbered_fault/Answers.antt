use Rattle.std.proofs.Common.{◌≡◌, ◌≤◌, length, refl, sym, ap, ◌∙◌, arith, subst}
use Rattle.std.specs.Prelude.{IfOk, slice_get}
use Rattle.std.proofs.lemmas.Option.{slice_get_read}
use Rattle.au_syntax.specs.contracts.parsed.ParsedPhase.TheImpl.{ghosts as parsed}
use Rattle.au_syntax.specs.Plain.{plain_declaration}
use Rattle.au_syntax.specs.Views.{declaration}
use Rattle.au_imports.specs.Importers.{fault_in}
use Rattle.au_imports.proofs.ImportingLemmas.{members_past, members_there}
use Rattle.au_imports.proofs.members.numbered_fault.Goals as goal

pub returns-in-None : goal.returns-in-None
returns-in-None c = λ m other this.
    let past : length c.args.declarations.now.items ≤ c.args.at.decl =
    omega (arith, c.in-None.ensures.lookup.3, ap length c.deref.ensures.value) in
    members_past (fault_in c.args.importer.now m c.args.at.«module» other c.args.stands)
    (plain_declaration parsed.name_bytes) (declaration parsed) c.args.at.«module»
    c.args.at.decl c.args.declarations.now.items past

pub returns-in-Some : goal.returns-in-Some
returns-in-Some c = λ m other this.
    let xs = c.deref.result.now in
    let one = c.in-Some.decl.now in
    let number = c.args.at.decl in
    let here = sym (ap (λ r. slice_get r number) c.deref.ensures.value)
    ∙ slice_get_read xs (length xs) number one refl (c.in-Some.ensures.lookup.3).0
    c.in-Some.ensures.lookup.1 in
    subst (λ z. IfOk c.declared_fault.result (λ found. found ≡ z))
    (members_there (fault_in c.args.importer.now m c.args.at.«module» other c.args.stands)
    (plain_declaration parsed.name_bytes) (declaration parsed) c.args.at.«module»
    number c.args.declarations.now.items one here)
    (c.declared_fault.ensures m other this)
