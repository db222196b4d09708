use Rattle.std.proofs.Common.{◌≡◌, sym, ap, ◌∙◌, subst}
use Rattle.std.specs.Prelude.{IfOk}
use Rattle.au_syntax.specs.contracts.parsed.ParsedPhase.TheImpl.{ghosts as parsed}
use Rattle.au_syntax.specs.Files.{says}
use Rattle.au_modules.specs.Seen.{tree_seen}
use Rattle.au_names.specs.Exporting.{declarations_seen, members_at}
use Rattle.au_imports.specs.Choices.{first_of}
use Rattle.au_imports.specs.Importers.{fault_in}
use Rattle.au_imports.proofs.ImportingLemmas.{members_nowhere}
use Rattle.au_imports.proofs.members.file_fault.Goals as goal

pub returns-in-None : goal.returns-in-None
returns-in-None c = λ m other this.
    members_nowhere (fault_in c.args.importer.now m c.args.at.«module» other c.args.stands)
    c.args.at.«module» c.args.at.decl
    ∙ ap (λ o. first_of (fault_in c.args.importer.now m c.args.at.«module» other c.args.stands)
    (members_at c.args.at.«module» c.args.at.decl (declarations_seen (tree_seen o)))) (sym c.in-None.is)

pub returns-in-Some : goal.returns-in-Some
returns-in-Some c = λ m other this.
    subst (λ z. IfOk c.numbered_fault.result (λ found. found ≡ z))
    (ap (λ t. first_of (fault_in c.args.importer.now m c.args.at.«module» other c.args.stands)
    (members_at c.args.at.«module» c.args.at.decl (says parsed t).declarations)) c.tree-tree.ensures.same
    ∙ ap (λ o. first_of (fault_in c.args.importer.now m c.args.at.«module» other c.args.stands)
    (members_at c.args.at.«module» c.args.at.decl (declarations_seen (tree_seen o)))) (sym c.in-Some.is))
    (c.numbered_fault.ensures m other this)
