use Rattle.std.proofs.Common.{◌≡◌, subst}
use Rattle.std.specs.Prelude.{IfOk}
use Rattle.au_types.specs.Views.{argument_all}
use Rattle.au_modules.specs.Slots as slots
use Rattle.au_names.specs.Standing.{standing}
use Rattle.au_typing.specs.Insides.{cases_defined}
use Rattle.au_sights.specs.Steps.{cases_said}
use Rattle.au_sights.proofs.StandingLemmas.{known_stands}
use Rattle.au_sights.proofs.insides.cases_defined.Goals as goal

pub union_cases-requires : goal.union_cases-requires
union_cases-requires c = known_stands (slots.modules c.args.program.now) c.args.place c.args.at
    (standing c.in-Some.found) c.in-Some.ensures

pub returns-in-Some : goal.returns-in-Some
returns-in-Some c =
    subst (λ found. IfOk c.union_cases.result
    (λ made. cases_said made ≡ cases_defined (slots.modules c.args.program.now)
    (argument_all c.args.args.now.items) found)) c.in-Some.ensures c.union_cases.ensures
