use Rattle.std.proofs.Common.{◌≡◌, map, subst, sym}
use Rattle.std.specs.Prelude.{IfOk}
use Rattle.au_type_texts.specs.Views.{closed_meaning}
use Rattle.au_modules.specs.Slots as slots
use Rattle.au_names.specs.Standing.{standing}
use Rattle.au_sights.proofs.NumberLemmas.{at_number, definition_stands}
use Rattle.au_closed_trees.specs.Parts.{defined_cases}
use Rattle.au_closed_trees.specs.Views.{cases_said}
use Rattle.au_closed_trees.proofs.cases.named_cases.Goals as goal

pub standing_cases-requires : goal.standing_cases-requires
standing_cases-requires c =
    let program = slots.modules c.args.program.now in
    let d = standing c.in-Some.found in
    (at_number program d, definition_stands program c.args.at d (sym c.in-Some.ensures))

pub returns-in-Some : goal.returns-in-Some
returns-in-Some c =
    subst (λ found. IfOk c.standing_cases.result (λ made. cases_said made.items
    ≡ defined_cases (slots.modules c.args.program.now) (map closed_meaning c.args.args.now) found))
    c.in-Some.ensures c.standing_cases.ensures
