use Rattle.std.proofs.Common.{◌≡◌, ℕ, List, OnOk, subst}
use Rattle.au_noting.specs.Scopes.{opened_in, scope_said}
use Rattle.au_judgements.proofs.leaving.open_region.Goals as goal

pub returns : goal.returns
returns c =
    subst (λ (name : List ℕ). OnOk c.enter_region.result
    (scope_said c.enter_region.new.self ≡ opened_in name (scope_said c.args.scope.now)))
    c.in_ok-name.ensures c.enter_region.ensures.ok
