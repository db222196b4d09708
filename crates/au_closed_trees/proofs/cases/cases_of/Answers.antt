use Rattle.std.proofs.Common.{◌≡◌, map, ap, sym, ◌∙◌}
use Rattle.std.proofs.lemmas.Result.{IfOk-weaker}
use Rattle.au_type_texts.specs.Views.{closed_meaning}
use Rattle.au_type_texts.proofs.ClosedLemmas.{named_means}
use Rattle.au_modules.specs.Slots as slots
use Rattle.au_names.specs.Standing.{definition_of}
use Rattle.au_closed_trees.specs.Parts.{cases_of, defined_cases}
use Rattle.au_closed_trees.specs.Views.{cases_said}
use Rattle.au_closed_trees.proofs.GivenLemmas.{listed_meanings}
use Rattle.au_closed_trees.proofs.cases.cases_of.Goals as goal

pub returns-in-Named : goal.returns-in-Named
returns-in-Named c =
    let program = slots.modules c.args.program.now in
    let found = definition_of program c.in-Named.of in
    let args = c.in-Named.args in
    let path =
    ap (λ xs. defined_cases program (map closed_meaning xs) found) c.deref.ensures.value
    ∙ ap (λ xs. defined_cases program xs found) (listed_meanings args.items)
    ∙ sym (ap (cases_of program) (ap closed_meaning c.in-Named.is ∙ named_means c.in-Named.of args)) in
    IfOk-weaker c.named_cases.result
    (λ made. cases_said made.items ≡ defined_cases program (map closed_meaning c.deref.result.now) found)
    (λ made. cases_said made.items ≡ cases_of program (closed_meaning c.args.of.now)) (λ made is. is ∙ path)
    c.named_cases.ensures
