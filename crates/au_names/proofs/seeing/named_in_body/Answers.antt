use Rattle.std.proofs.Common.{[], None, Some, length, sym, ap, ◌∙◌, arith}
use Rattle.au_syntax.specs.contracts.parsed.ParsedPhase.TheImpl.{ghosts as parsed}
use Rattle.au_syntax.specs.Files.{says}
use Rattle.au_modules.specs.Seen.{tree_seen}
use Rattle.au_modules.specs.Slots as slots
use Rattle.au_modules.proofs.PlaceLemmas.{numbers_fit}
use Rattle.au_names.specs.Exporting.{declarations_seen, tables_from}
use Rattle.au_names.proofs.ExportLemmas.{few_seen, length_seen}
use Rattle.au_names.proofs.SeenLemmas.{body_names_seen}
use Rattle.au_names.proofs.seeing.named_in_body.Goals as goal

pub returns-in-None : goal.returns-in-None
returns-in-None c =
    body_names_seen (slots.modules c.args.modules.now) c.args.place None c.requires c.in-None.ensures
    ∙ ap (λ n. Some (tables_from n []))
    (sym (c.count_in-first.ensures ∙ ap (λ o. length (declarations_seen o)) c.interface.ensures))
    ∙ ap Some (sym (c.no_names.ensures c.count_in-first.result))

pub names_from-requires : goal.names_from-requires
names_from-requires c =
    let few = numbers_fit c.args.modules.now c.args.place in
    let first = few_seen (tree_seen c.interface.result) _ c.interface.ensures few.0 in
    let body = few_seen (Some (says parsed c.in-Some.file.now.tree)) _ c.in-Some.ensures few.1 in
    let same = length_seen c.tree_of-tree.result.now in
    let tree = ap (λ t. length (says parsed t).declarations) c.tree_of-tree.ensures in
    omega (arith, first, body, same, tree, c.count_in-first.ensures)

pub returns-in_ok-names-in-Some : goal.returns-in_ok-names-in-Some
returns-in_ok-names-in-Some c =
    body_names_seen (slots.modules c.args.modules.now) c.args.place
    (Some (says parsed c.in-Some.file.now.tree)) c.requires c.in-Some.ensures
    ∙ ap (λ n. Some (tables_from n (says parsed c.in-Some.file.now.tree).declarations))
    (sym (c.count_in-first.ensures ∙ ap (λ o. length (declarations_seen o)) c.interface.ensures))
    ∙ ap (λ t. Some (tables_from c.count_in-first.result (says parsed t).declarations))
    (sym c.tree_of-tree.ensures)
    ∙ ap Some (sym c.in_ok-names-in-Some.ensures)
