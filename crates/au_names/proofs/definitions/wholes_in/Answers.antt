use Rattle.std.proofs.Common.{None, Some, [], sym, ap, ◌∙◌}
use Rattle.au_syntax.specs.contracts.parsed.ParsedPhase.TheImpl.{ghosts as parsed}
use Rattle.au_syntax.specs.Files.{says}
use Rattle.au_modules.specs.Slots as slots
use Rattle.au_types.specs.Tables.{with_all}
use Rattle.au_names.specs.Defining.{wholes_from}
use Rattle.au_names.specs.Walks.{written_all}
use Rattle.au_names.proofs.DefiningLemmas.{no_wholes, wholes_seen}
use Rattle.au_names.proofs.definitions.wholes_in.Goals as goal

pub returns-in-None : goal.returns-in-None
returns-in-None c =
    wholes_seen (slots.modules c.args.modules.now) c.args.place None c.requires c.in-None.ensures
    ∙ ap Some (sym no_wholes ∙ sym c.new-table.ensures)

pub returns-in_ok-put_wholes-in-Some : goal.returns-in_ok-put_wholes-in-Some
returns-in_ok-put_wholes-in-Some c =
    wholes_seen (slots.modules c.args.modules.now) c.args.place (Some (says parsed c.in-Some.file.now.tree))
    c.requires c.in-Some.ensures
    ∙ ap Some
    (ap (λ t. with_all [] (wholes_from 0 (written_all t.declarations.items))) (sym c.tree_of.ensures)
    ∙ ap (λ r. with_all r (wholes_from 0 (written_all c.tree_of.result.now.declarations.items)))
    (sym c.new-table.ensures)
    ∙ sym c.in_ok-put_wholes-in-Some.ensures)
