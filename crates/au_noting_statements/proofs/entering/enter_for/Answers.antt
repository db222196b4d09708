use Rattle.std.proofs.Common.{ap, ◌∙◌}
use Rattle.au_typing.specs.InScope.{fixed_variable, with_variable}
use Rattle.au_sights.specs.contracts.noted.NotedPhase.TheImpl.{ghosts as noted}
use Rattle.au_noting.specs.Scopes.{scope_said}
use Rattle.au_noting_expressions.specs.Said.{NotedCode}
use Rattle.au_syntax.specs.Views.{expression}
use Rattle.au_types.specs.Types.{Meaning}
use Rattle.au_typing.specs.Notes.{type_of}
use Rattle.au_noting_statements.proofs.entering.enter_for.Goals as goal

pub returns-clause-inside : goal.returns-clause-inside
returns-clause-inside c =
    c.in_ok-declare_fixed.ensures.ok
    ∙ ap (λ (t : Meaning). with_variable (fixed_variable c.args.name.now.name t) (scope_said c.args.scope.now))
    (c.in_ok-of.ensures ∙ (c.type_of.ensures ∙ ap (λ (e : NotedCode). type_of (expression noted e)) c.deref.ensures))
