use Rattle.std.proofs.Common.{◌≡◌, [], ◌∷◌, ◌++◌, map, ap, ◌∙◌}
use Rattle.std.proofs.lemmas.Result.{IfOk-weaker}
use Rattle.au_names.specs.Walks.{written_parameter}
use Rattle.au_judged_types.specs.Meanings.{parameter}
use Rattle.au_typing.specs.Called.{unconstrained}
use Rattle.au_sights.proofs.callables.class_generics.Goals as goal

pub returns : goal.returns
returns c =
    IfOk-weaker c.unconstrained.result
    (λ made. made ≡ map unconstrained c.push.new.self)
    (λ made. made ≡ unconstrained (parameter (written_parameter c.args.one.now)) ∷ [])
    (λ made is.
    is
    ∙ ap (map unconstrained) (c.in_ok-push.ensures.ok ∙ ap (λ xs. xs ++ c.in_ok-param.param ∷ [])
    c.new-params.ensures ∙ ap (λ q. q ∷ []) c.in_ok-param.ensures))
    c.unconstrained.ensures
