use Rattle.std.proofs.Common.{ap, ◌∙◌}
use Rattle.au_modules.specs.Slots as slots
use Rattle.au_syntax.specs.Views.{written}
use Rattle.au_types.specs.declared.spaces.Space.TheVariants.{Types}
use Rattle.au_names.specs.Meanings.{declared_by, seen}
use Rattle.au_types.specs.Meant.{meant}
use Rattle.au_names.specs.Known.{part_if}
use Rattle.au_names.proofs.programs.NamedModules.type_of.Goals as goal

pub returns : goal.returns
returns c = λ m here.
    let program = slots.modules c.args.self.now in
    let visible = declared_by (seen Types program c.args.place m (part_if c.args.body)) in
    c.in_ok-found.ensures
    ∙ ap
    (λ names.
    meant c.args.regions.now c.args.params.now names c.heads_ref.result.now (written c.args.node.now))
    (c.names-names.ensures.types m here
    ∙ ap (λ part. declared_by (seen Types program c.args.place m part)) c.part_if.ensures)
    ∙ ap (λ heads. meant c.args.regions.now c.args.params.now visible heads (written c.args.node.now))
    c.heads_ref.ensures
