use Rattle.std.proofs.Common.{◌≡◌, ap, ◌∙◌, subst}
use Rattle.std.specs.Prelude.{IfOk, slice_get}
use Rattle.std.specs.Option.{option_or}
use Rattle.au_syntax.specs.contracts.parsed.ParsedPhase.TheImpl.{ghosts as parsed}
use Rattle.au_syntax.specs.Files.{says}
use Rattle.au_modules.specs.Seen.{part_tree}
use Rattle.au_modules.specs.Slots as slots
use Rattle.au_imports.specs.Choices.{first_of}
use Rattle.au_imports.specs.Judging.{program_of}
use Rattle.au_imports.specs.NameFaults.{declaration_fault, import_fault}
use Rattle.au_imports.proofs.BroughtLemmas.{tree_is}
use Rattle.au_imports.proofs.FindingLemmas.{part_nowhere, part_there}
use Rattle.au_imports.proofs.finding.part_fault.Goals as goal

pub returns-in-None : goal.returns-in-None
returns-in-None c = λ m here.
    let part = c.args.part in
    part_nowhere (program_of c.args.judged.now) c.args.judged.now.place m part
    (c.in-None.ensures
    ∙ ap (part_tree part) (ap (λ r. slice_get (slots.modules r) c.args.judged.now.place) c.modules.ensures
    ∙ here)
    ∙ tree_is part m)

pub returns-in-Some : goal.returns-in-Some
returns-in-Some c = λ m here.
    let program = program_of c.args.judged.now in
    let place = c.args.judged.now.place in
    let part = c.args.part in
    subst (λ z. IfOk c.tree_fault.result (λ found. found ≡ z))
    (ap (λ t. option_or (first_of (import_fault program place m part) (says parsed t).imports)
    (first_of (declaration_fault program place m part) (says parsed t).declarations))
    c.tree-tree.ensures.same
    ∙ part_there program place m part (says parsed c.in-Some.file.now.tree)
    (c.in-Some.ensures
    ∙ ap (part_tree part) (ap (λ r. slice_get (slots.modules r) place) c.modules.ensures ∙ here)
    ∙ tree_is part m))
    (c.tree_fault.ensures m here)
