use Rattle.std.proofs.Common.{Ok, ap, sym, ◌∙◌}
use Rattle.au_typing.specs.InScope.{with_reference}
use Rattle.au_noting.specs.Scopes.{scope_said}
use Rattle.au_types.specs.Types.{Meaning}
use Rattle.au_typing.specs.Faults.{Noting, ◌>>=◌}
use Rattle.au_noting_statements.proofs.entering.enter_lent.Goals as goal

pub returns : goal.returns
returns c =
    ap (λ (n : Noting Meaning). n >>=
    λ of. Ok (with_reference c.args.names.now.reference.name c.args.names.now.region.name of
    (scope_said c.args.scope.now))) c.in_ok-of.ensures
    ∙ ap Ok (sym c.in_ok-enter_reference.ensures)
