use Rattle.std.proofs.Common.{None, Some, length, sym, ap, ◌∙◌, arith}
use Rattle.au_syntax.specs.contracts.parsed.ParsedPhase.TheImpl.{ghosts as parsed}
use Rattle.au_syntax.specs.Files.{says}
use Rattle.au_modules.specs.Slots as slots
use Rattle.au_names.specs.Exporting.{tables_from}
use Rattle.au_modules.proofs.PlaceLemmas.{numbers_fit}
use Rattle.au_names.proofs.ExportLemmas.{few_seen, length_seen, offers_seen}
use Rattle.au_names.proofs.exports.offered.Goals as goal

pub returns-in-None : goal.returns-in-None
returns-in-None c =
    offers_seen (slots.modules c.args.modules.now) c.args.place None c.requires c.in-None.ensures
    ∙ ap Some (sym (c.no_names.ensures 0))

pub names_from-requires : goal.names_from-requires
names_from-requires c =
    let few = numbers_fit c.args.modules.now c.args.place in
    let declared = few_seen (Some (says parsed c.in-Some.file.now.tree)) _ c.in-Some.ensures few.0 in
    let same = length_seen c.tree_of-tree.result.now in
    let tree = ap (λ t. length (says parsed t).declarations) c.tree_of-tree.ensures in
    omega (arith, declared, same, tree)

pub returns-in_ok-names-in-Some : goal.returns-in_ok-names-in-Some
returns-in_ok-names-in-Some c =
    offers_seen (slots.modules c.args.modules.now) c.args.place (Some (says parsed c.in-Some.file.now.tree))
    c.requires c.in-Some.ensures
    ∙ ap (λ t. Some (tables_from 0 (says parsed t).declarations)) (sym c.tree_of-tree.ensures)
    ∙ ap Some (sym c.in_ok-names-in-Some.ensures)
