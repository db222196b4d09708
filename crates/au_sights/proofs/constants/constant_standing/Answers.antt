use Rattle.std.proofs.Common.{◌≡◌, subst, sym}
use Rattle.std.specs.Prelude.{IfOk}
use Rattle.std.specs.Option.{option_map}
use Rattle.au_types.specs.Views.{meaning}
use Rattle.au_modules.specs.Slots as slots
use Rattle.au_typing.specs.Outsides.{constant_standing}
use Rattle.au_sights.proofs.constants.constant_standing.Goals as goal

pub constant_declared-requires : goal.constant_declared-requires
constant_declared-requires c = (c.args.at, sym c.in-Some.ensures)

pub returns-in-Some : goal.returns-in-Some
returns-in-Some c =
    subst (λ found. IfOk c.constant_declared.result
    (λ of. option_map meaning of ≡ constant_standing (slots.modules c.args.program.now) found))
    c.in-Some.ensures c.constant_declared.ensures
