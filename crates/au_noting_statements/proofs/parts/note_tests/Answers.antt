use Rattle.std.proofs.Common.{List, ap, sym, ◌∙◌}
use Rattle.au_typing.specs.DerivationSearch.{note_tests}
use Rattle.au_noting.specs.Scopes.{scope_said}
use Rattle.au_syntax.specs.contracts.parsed.ParsedPhase.TheImpl.{ghosts as parsed}
use Rattle.au_syntax.specs.Views.{branch_all}
use Rattle.au_noting_statements.proofs.Depths.{ParsedBranch}
use Rattle.au_noting_statements.proofs.Turns.{tests_end}
use Rattle.au_noting_statements.proofs.parts.note_tests.Goals as goal

pub returns : goal.returns
returns c =
    ap (λ (xs : List ParsedBranch). note_tests (scope_said c.args.scope.now) (branch_all parsed xs))
    (sym c.deref-branch-items.ensures.value)
    ∙ tests_end c.loop-branch.made.items c.deref-branch-items.result.now c.loop-branch.branch-index
    (scope_said c.args.scope.now) _
    c.loop-branch.invariant c.loop-branch-test.false
