use Rattle.std.proofs.Common.{◌≡◌, subst}
use Rattle.std.specs.Prelude.{IfOk}
use Rattle.au_types.specs.Views.{argument_all}
use Rattle.au_modules.specs.Slots as slots
use Rattle.au_names.specs.Standing.{standing}
use Rattle.au_typing.specs.Insides.{fields_defined}
use Rattle.au_sights.specs.Steps.{all_said}
use Rattle.au_sights.proofs.StandingLemmas.{known_stands}
use Rattle.au_sights.proofs.insides.fields_defined.Goals as goal

pub record_fields-requires : goal.record_fields-requires
record_fields-requires c = known_stands (slots.modules c.args.program.now) c.args.place c.args.at
    (standing c.in-Some.found) c.in-Some.ensures

pub returns-in-Some : goal.returns-in-Some
returns-in-Some c =
    subst (λ found. IfOk c.record_fields.result
    (λ made. all_said made ≡ fields_defined (slots.modules c.args.program.now)
    (argument_all c.args.args.now.items) found)) c.in-Some.ensures c.record_fields.ensures
