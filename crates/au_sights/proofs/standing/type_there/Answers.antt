use Rattle.std.proofs.Common.{◌≡◌, [], ap, ◌∙◌}
use Rattle.std.specs.Option.{option_map}
use Rattle.std.proofs.lemmas.Result.{IfOk-weaker}
use Rattle.au_syntax.specs.Views.{written}
use Rattle.au_types.specs.Views.{meaning}
use Rattle.au_modules.specs.Slots as slots
use Rattle.au_names.specs.Standing.{standing}
use Rattle.au_typing.specs.Written.{meant_in, types_at}
use Rattle.au_types.specs.Meant.{meant}
use Rattle.au_sights.proofs.standing.type_there.Goals as goal

pub returns : goal.returns
returns c =
    let program = slots.modules c.args.program.now in
    let d = standing c.args.found.now in
    let params = c.args.params.now in
    let t = written c.args.node.now in
    IfOk-weaker c.type_meant.result
    (λ of. option_map meaning of ≡ meant [] params c.types_seen.result.now c.heads_ref.result.now t)
    (λ of. option_map meaning of ≡ meant_in program d params t)
    (λ of is.
    is
    ∙ ap (λ names. meant [] params names c.heads_ref.result.now t) c.types_seen.ensures
    ∙ ap (λ heads. meant [] params (types_at program d.place d.part) heads t) c.heads_ref.ensures)
    c.type_meant.ensures
