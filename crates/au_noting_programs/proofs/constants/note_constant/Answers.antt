use Rattle.std.proofs.Common.{sym, subst}
use Rattle.au_noting.specs.Giving.{Gives}
use Rattle.au_noting.specs.Scopes.{scope_said}
use Rattle.au_sights.specs.Sights.{outside_seen}
use Rattle.au_syntax.specs.contracts.parsed.ParsedPhase.TheImpl.{ghosts as parsed}
use Rattle.au_syntax.specs.Views.{expression, written}
use Rattle.au_types.specs.Views.{meaning}
use Rattle.au_noting_programs.specs.Said.{boxed_said}
use Rattle.au_noting_programs.proofs.StepLemmas.{constant_is}
use Rattle.au_noting_programs.proofs.constants.note_constant.Goals as goal

pub returns : goal.returns
returns c =
    subst (Gives boxed_said c.note_value.result)
    (sym (constant_is (outside_seen c.args.outside.now) (written c.args.of.now)
    (expression parsed c.args.value.now) (scope_said c.in_ok-scope.scope) (meaning c.in_ok-of.of)
    c.in_ok-scope.ensures
    c.in_ok-of.ensures))
    c.note_value.ensures
