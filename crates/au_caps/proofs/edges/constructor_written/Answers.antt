use Rattle.std.proofs.Common.{sym, ap, ◌∙◌}
use Rattle.au_syntax.specs.Views.{written}
use Rattle.au_syntax.proofs.TypeLemmas.{named_written, reference_written}
use Rattle.au_types.specs.WrittenViews.{sense_in}
use Rattle.au_caps.specs.Making.{constructor_written}
use Rattle.au_caps.proofs.edges.constructor_written.Goals as goal

pub returns-in-Named : goal.returns-in-Named
returns-in-Named c =
    let sense = sense_in c.args.scope.now in
    c.constructor_named.ensures
    ∙ sym
    (ap (λ t. constructor_written sense (written t)) c.in-Named.is
    ∙ ap (constructor_written sense) (named_written _ _))

pub returns-in-Reference : goal.returns-in-Reference
returns-in-Reference c =
    let sense = sense_in c.args.scope.now in
    sym
    (ap (λ t. constructor_written sense (written t)) c.in-Reference.is
    ∙ ap (constructor_written sense) (reference_written _ _ _ _))
