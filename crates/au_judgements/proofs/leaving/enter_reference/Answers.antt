use Rattle.std.proofs.Common.{◌≡◌, OnOk, subst}
use Rattle.au_typing.specs.InScope.{fixed_variable, with_variable}
use Rattle.au_noting.specs.Scopes.{scope_said}
use Rattle.au_typing.specs.Scopes.{Scope}
use Rattle.au_types.specs.Views.{meaning}
use Rattle.au_judgements.proofs.leaving.enter_reference.Goals as goal

pub returns : goal.returns
returns c =
    subst
    (λ (inner : Scope). OnOk c.declare_fixed.result (scope_said c.declare_fixed.new.scope
    ≡ with_variable (fixed_variable c.args.name.now (meaning c.args.of)) inner))
    c.in_ok-open_region.ensures
    c.declare_fixed.ensures.ok
