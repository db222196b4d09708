use Rattle.std.proofs.Common.{◌≡◌, OnOk, ap, option_map, subst, sym, ◌∙◌}
use Rattle.au_noting.specs.Scopes.{scope_said}
use Rattle.au_typing.specs.Scopes.{Scope}
use Rattle.au_syntax.specs.Views.{written}
use Rattle.au_types.specs.Views.{meaning}
use Rattle.au_typing.specs.Lookups.{written_type}
use Rattle.au_judgements.proofs.StepLemmas.{formed_typed}
use Rattle.au_judgements.proofs.declaring.declare_typed.Goals as goal

pub returns-in-Some-clause-ok : goal.returns-in-Some-clause-ok
returns-in-Some-clause-ok c =
    let sc = scope_said c.args.scope.now in
    subst (λ (then : Scope). OnOk c.declare.result (scope_said c.declare.new.scope ≡ then))
    (formed_typed c.args.name.now c.args.assignable (written_type sc (written c.args.text.now))
    (meaning c.in-Some.of) sc
    (sym (ap (option_map meaning) c.in-Some.is) ∙ c.in_ok-found.ensures))
    c.declare.ensures.ok
