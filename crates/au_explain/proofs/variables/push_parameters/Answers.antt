use Rattle.std.proofs.Common.{◌++◌, ap, refl, ◌∙◌}
use Rattle.au_explain.specs.Said.{name_said, parameters_said, statements_said}
use Rattle.au_explain.specs.Variables.{listed, listed_parameters}
use Rattle.au_explain.proofs.PutLemmas as puts
use Rattle.au_noting.specs.Scopes.{scope_said}
use Rattle.au_explain.proofs.variables.push_parameters.Goals as goal

pub loop-one-preserved : goal.loop-one-preserved
loop-one-preserved c =
    puts.item_put (λ ps. listed_parameters (scope_said c.args.scope.now) (parameters_said ps)
    (statements_said c.args.stmts.now)) c.deref-one-items.result.now
    c.loop-one.one-index c.one-item.result c.one-item.is c.loop-one-test.true
    (listed (scope_said c.args.scope.now) (name_said c.one-item.result.name) (statements_said c.args.stmts.now))
    c.loop-one.made.items c.push_variable.new.made.items _ refl c.loop-one.invariant c.in_ok-push_variable.ensures

pub returns : goal.returns
returns c =
    puts.items_put (λ ps. listed_parameters (scope_said c.args.scope.now) (parameters_said ps)
    (statements_said c.args.stmts.now)) c.deref-one-items.result.now
    c.loop-one.one-index c.loop-one-test.false c.loop-one.made.items _ refl c.loop-one.invariant
    ∙ ap (λ ps. c.args.made.now.items ++ listed_parameters (scope_said c.args.scope.now) (parameters_said ps)
    (statements_said c.args.stmts.now)) c.deref-one-items.ensures.value
