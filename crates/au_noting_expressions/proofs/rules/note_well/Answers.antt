use Rattle.au_noting.specs.Modes.{wanted}
use Rattle.au_noting.specs.Scopes.{scope_said}
use Rattle.au_noting_expressions.proofs.RuleLemmas.{answers_good, answers_only}
use Rattle.au_sights.specs.contracts.noted.NotedPhase.TheImpl.{ghosts as noted}
use Rattle.au_syntax.specs.contracts.parsed.ParsedPhase.TheImpl.{ghosts as parsed}
use Rattle.au_syntax.specs.Views.{expression}
use Rattle.au_noting_expressions.proofs.rules.note_well.Goals as goal

pub returns-clause-good : goal.returns-clause-good
returns-clause-good c =
    answers_good (scope_said c.args.scope.now) (expression parsed c.args.e.now) (wanted c.args.mode)
    (expression noted) c.note.result c.note.ensures

pub returns-clause-only : goal.returns-clause-only
returns-clause-only c =
    answers_only (scope_said c.args.scope.now) (expression parsed c.args.e.now) (wanted c.args.mode)
    (expression noted) c.note.result c.note.ensures
