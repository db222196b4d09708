use Rattle.std.proofs.Common.{ap, sym, ◌∙◌}
use Rattle.au_types.specs.Views.{argument_all, meaning}
use Rattle.au_types.proofs.TypeLemmas.{named_means}
use Rattle.au_instances.specs.Becoming.{applies}
use Rattle.au_instances.proofs.RowLemmas.{applies_to_none, no_head_applies}
use Rattle.au_instances.proofs.becoming.applies.Goals as goal

pub returns-in_default : goal.returns-in_default
returns-in_default c = sym (no_head_applies c.args.heads.now c.args.scope.now c.args.params.now
    c.args.head.now (meaning c.args.of.now) c.in_default.not-Named)

pub returns-in_default-of : goal.returns-in_default-of
returns-in_default-of c =
    let heads = c.args.heads.now in
    let scope = c.args.scope.now in
    let params = c.args.params.now in
    sym (ap (λ head. applies heads scope params head (meaning c.args.of.now))
    (ap meaning c.in-Named.is ∙ named_means c.in-Named.at c.in-Named.names)
    ∙ applies_to_none heads scope params c.in-Named.at (argument_all c.in-Named.names.items) c.args.of.now
    c.in_default-of.not-Named)
