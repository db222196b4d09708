use Rattle.std.proofs.Common.{sym}
use Rattle.au_syntax.specs.Plain.{plain_variant}
use Rattle.au_syntax.specs.Views.{variant}
use Rattle.au_types.proofs.TableLemmas.{with_all-none}
use Rattle.au_types.proofs.DeclaredLemmas.{given_step}
use Rattle.au_types.proofs.declared_names.put_cases.Goals as goal

pub loop-one-init : goal.loop-one-init
loop-one-init g c = sym (with_all-none c.args.table.now)

pub loop-one-preserved : goal.loop-one-preserved
loop-one-preserved g c =
    given_step (λ one. one.name.name) (plain_variant g.P.Phase.name_bytes)
    (variant g.P.Phase) c.args.table.now c.loop-one.table c.put_name.new.table c.args.number
    c.deref-one-items.result.now c.loop-one.one-index c.one-item.result c.loop-one-test.true c.one-item.is
    c.loop-one.invariant c.in_ok-put_name.ensures
