use Rattle.std.proofs.Common.{◌≡◌, [], ap, ◌∙◌}
use Rattle.std.specs.Option.{option_map}
use Rattle.std.proofs.lemmas.Result.{IfOk-weaker}
use Rattle.au_syntax.specs.Views.{written}
use Rattle.au_types.specs.Views.{meaning}
use Rattle.au_modules.specs.Slots as slots
use Rattle.au_names.specs.Standing.{standing}
use Rattle.au_typing.specs.Written.{meant_in}
use Rattle.au_sights.proofs.constants.closed_type.Goals as goal

pub returns : goal.returns
returns c =
    let program = slots.modules c.args.program.now in
    let d = standing c.args.found.now in
    let t = written c.args.node.now in
    IfOk-weaker c.type_there.result
    (λ of. option_map meaning of ≡ meant_in program d c.new-none.result t)
    (λ of. option_map meaning of ≡ meant_in program d [] t)
    (λ of is. is ∙ ap (λ ps. meant_in program d ps t) c.new-none.ensures)
    c.type_there.ensures
