use Rattle.std.proofs.Common.{◌≡◌, drop}
use Rattle.au_typing.specs.DerivationSearch.{note_tests}
use Rattle.au_noting.specs.Scopes.{scope_said}
use Rattle.au_noting_statements.specs.Noted.{all_boxed}
use Rattle.au_syntax.specs.contracts.parsed.ParsedPhase.TheImpl.{ghosts as parsed}
use Rattle.au_syntax.specs.Views.{branch_all}
use Rattle.au_noting_statements.proofs.Turns.{tests_behind}
use Rattle.au_noting_statements.proofs.parts.note_tests.Given as goal

-- the tests so far, in front of those that are left, are all tests
abbrev pub invariant-loop-branch : goal.invariant-loop-branch
invariant-loop-branch l =
    tests_behind (all_boxed l.made.items)
    (note_tests (scope_said l.scope) (branch_all parsed (drop l.branch-index l.branch-items)))
    ≡ note_tests (scope_said l.scope) (branch_all parsed l.branch-items)
