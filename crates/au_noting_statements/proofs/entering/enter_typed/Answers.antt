use Rattle.std.proofs.Common.{Ok, ap, sym, ◌∙◌}
use Rattle.au_typing.specs.InScope.{with_reference}
use Rattle.au_noting.specs.Scopes.{scope_said}
use Rattle.au_syntax.specs.Plain.{Bytes}
use Rattle.au_types.specs.Types.{Meaning}
use Rattle.au_typing.specs.Faults.{Noting, ◌>>=◌}
use Rattle.au_noting_statements.proofs.entering.enter_typed.Goals as goal

pub returns : goal.returns
returns c =
    ap (λ (n : Noting (Bytes × Meaning)). n >>=
    λ y. Ok (with_reference c.args.name.now.name y.0 y.1 (scope_said c.args.scope.now)))
    c.in_ok-region.ensures
    ∙ ap Ok (sym c.in_ok-enter_reference.ensures)
