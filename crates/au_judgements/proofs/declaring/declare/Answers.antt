use Rattle.std.proofs.Common.{◌≡◌, ℕ, List, OnOk, subst}
use Rattle.au_typing.specs.InScope.{with_variable}
use Rattle.au_noting.specs.Scopes.{scope_said}
use Rattle.au_types.specs.Views.{meaning}
use Rattle.au_judgements.proofs.declaring.declare.Goals as goal

pub returns-clause-ok : goal.returns-clause-ok
returns-clause-ok c =
    subst
    (λ (name : List ℕ). OnOk c.declare.result (scope_said c.declare.new.self
    ≡ with_variable (record { name = name; of = meaning c.args.of; assignable = c.args.assignable })
    (scope_said c.args.scope.now)))
    c.in_ok-name.ensures c.declare.ensures.ok
