use Rattle.std.proofs.Common.{◌++◌, ap, refl, ◌∙◌}
use Rattle.au_explain.specs.Said.{bind_said, binds_said, statements_said}
use Rattle.au_explain.specs.Variables.{listed, listed_binds}
use Rattle.au_explain.proofs.PutLemmas as puts
use Rattle.au_lives.specs.Paths.{bound_name}
use Rattle.au_noting.specs.Scopes.{scope_said}
use Rattle.au_syntax.specs.Names.{Placed}
use Rattle.au_syntax.specs.Plain.{Bytes}
use Rattle.au_explain.proofs.variables.push_binds.Goals as goal

pub loop-one-preserved : goal.loop-one-preserved
loop-one-preserved c =
    puts.item_put (λ bs. listed_binds (scope_said c.args.scope.now) (binds_said bs)
    (statements_said c.args.stmts.now)) c.deref-one-items.result.now
    c.loop-one.one-index c.one-item.result c.one-item.is c.loop-one-test.true
    (listed (scope_said c.args.scope.now) (bound_name (bind_said c.one-item.result)) (statements_said c.args.stmts.now))
    c.loop-one.made.items c.push_variable.new.made.items _ refl c.loop-one.invariant
    (c.in_ok-push_variable.ensures
    ∙ ap (λ (n : Placed Bytes). c.loop-one.made.items ++ listed (scope_said c.args.scope.now) n
    (statements_said c.args.stmts.now)) c.bound_name.ensures)

pub returns : goal.returns
returns c =
    puts.items_put (λ bs. listed_binds (scope_said c.args.scope.now) (binds_said bs)
    (statements_said c.args.stmts.now)) c.deref-one-items.result.now
    c.loop-one.one-index c.loop-one-test.false c.loop-one.made.items _ refl c.loop-one.invariant
    ∙ ap (λ bs. c.args.made.now.items ++ listed_binds (scope_said c.args.scope.now) (binds_said bs)
    (statements_said c.args.stmts.now)) c.deref-one-items.ensures.value
