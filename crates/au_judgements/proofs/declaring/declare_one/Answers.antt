use Rattle.std.proofs.Common.{◌≡◌, ℕ, List, false, OnOk, subst}
use Rattle.au_typing.specs.InScope.{with_typed}
use Rattle.au_noting.specs.Scopes.{scope_said}
use Rattle.au_syntax.specs.Views.{written}
use Rattle.au_typing.specs.Lookups.{written_type}
use Rattle.au_judgements.proofs.declaring.declare_one.Goals as goal

pub returns : goal.returns
returns c =
    let sc = scope_said c.args.scope.now in
    subst
    (λ (name : List ℕ). OnOk c.declare_typed.result (scope_said c.declare_typed.new.scope
    ≡ with_typed name false (written_type sc (written c.args.bind.now.of)) sc))
    c.variable_name.ensures c.declare_typed.ensures.ok
