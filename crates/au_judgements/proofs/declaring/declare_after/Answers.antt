use Rattle.std.proofs.Common.{◌≡◌, OnOk, arith, ap, subst, sym, ◌∙◌}
use Rattle.au_typing.specs.InScope.{after, with_typed}
use Rattle.au_noting.specs.Scopes.{scope_said}
use Rattle.au_typing.specs.Scopes.{Scope}
use Rattle.au_syntax.specs.contracts.parsed.ParsedPhase.TheImpl.{ghosts as parsed}
use Rattle.au_syntax.specs.Views.{statement, written}
use Rattle.au_typing.specs.Lookups.{written_type}
use Rattle.au_syntax.proofs.StatementLemmas.{skip_says, let_says, destructure_says, assign_says}
use Rattle.au_syntax.proofs.StatementLemmas.{assign_through_says, if_says, if_else_says, case_says}
use Rattle.au_syntax.proofs.StatementLemmas.{while_says, for_says, borrow_says, borrow_typed_says, call_says}
use Rattle.au_syntax.proofs.StatementLemmas.{return_says}
use Rattle.au_judgements.proofs.declaring.declare_after.Goals as goal

pub returns-in-Skip : goal.returns-in-Skip
returns-in-Skip c = grind (arith, skip_says)

pub returns-in-Let : goal.returns-in-Let
returns-in-Let c =
    let sc = scope_said c.args.scope.now in
    let made = written_type sc (written c.in-Let.text) in
    let same : with_typed c.in-Let.name.name c.is_var.result made sc ≡ after (statement parsed c.args.stmt.now) sc =
    ap (λ assignable. with_typed c.in-Let.name.name assignable made sc) c.is_var.ensures
    ∙ sym (ap (λ s. after s sc) (ap (statement parsed) c.in-Let.is
    ∙ let_says parsed c.in-Let.field-0 c.in-Let.binding c.in-Let.name c.in-Let.text c.in-Let.field-4)) in
    subst (λ (then : Scope). OnOk c.declare_typed.result (scope_said c.declare_typed.new.scope ≡ then)) same
    c.declare_typed.ensures.ok

pub returns-in-Destructure : goal.returns-in-Destructure
returns-in-Destructure c = grind (arith, destructure_says)

pub returns-in-Assign : goal.returns-in-Assign
returns-in-Assign c = grind (arith, assign_says)

pub returns-in-AssignThrough : goal.returns-in-AssignThrough
returns-in-AssignThrough c = grind (arith, assign_through_says)

pub returns-in-If : goal.returns-in-If
returns-in-If c = grind (arith, if_says)

pub returns-in-IfElse : goal.returns-in-IfElse
returns-in-IfElse c = grind (arith, if_else_says)

pub returns-in-Case : goal.returns-in-Case
returns-in-Case c = grind (arith, case_says)

pub returns-in-While : goal.returns-in-While
returns-in-While c = grind (arith, while_says)

pub returns-in-For : goal.returns-in-For
returns-in-For c = grind (arith, for_says)

pub returns-in-Borrow : goal.returns-in-Borrow
returns-in-Borrow c = grind (arith, borrow_says)

pub returns-in-BorrowTyped : goal.returns-in-BorrowTyped
returns-in-BorrowTyped c = grind (arith, borrow_typed_says)

pub returns-in-Call : goal.returns-in-Call
returns-in-Call c = grind (arith, call_says)

pub returns-in-Return : goal.returns-in-Return
returns-in-Return c = grind (arith, return_says)
