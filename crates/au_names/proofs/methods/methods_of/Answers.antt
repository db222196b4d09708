use Rattle.std.proofs.Common.{ap, ◌∙◌}
use Rattle.au_types.specs.Tables.{with_all}
use Rattle.au_names.specs.Methods.{methods_from, methods_in}
use Rattle.au_names.specs.Walks.{written}
use Rattle.au_names.proofs.methods.methods_of.Goals as goal

pub returns : goal.returns
returns c =
    c.in_ok-put_those_of.ensures
    ∙ ap (λ t. with_all t (methods_from 0 (methods_in (written c.args.decl.now)))) c.new-table.ensures
