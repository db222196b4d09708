use Rattle.std.proofs.Common.{Some, ap, sym, ◌∙◌}
use Rattle.au_clearing.specs.Deals.{settled}
use Rattle.au_clearing.specs.Tables.{find}
use Rattle.au_clearing.proofs.CombiningLemmas.{settle_init, settle_step, settle_end}
use Rattle.au_clearing.proofs.combining.settle.Goals as goal

pub loop-name-init : goal.loop-name-init
loop-name-init c = settle_init c.args.way c.args.rest c.args.one.now c.args.other c.new-done.result c.new-done.ensures

pub loop-name-preserved : goal.loop-name-preserved
loop-name-preserved c = λ x.
    settle_step c.args.way c.args.rest c.args.one.now c.loop-name.left c.pop.new.self c.loop-name.done
    c.put.new.self c.in-Some.name.items c.in-Some.dealings c.settled-new.result c.in-Some.ensures.found
    c.in-Some.ensures.changes
    (ap (λ n. settled c.args.way c.args.rest (find n c.args.one.now) (Some c.in-Some.dealings))
    (sym c.as_slice.ensures.value) ∙ c.settled-new.ensures)
    c.in_ok-put.ensures x
    ∙ c.loop-name.invariant x

pub returns : goal.returns
returns c = λ x.
    sym (settle_end c.args.way c.args.rest c.args.one.now c.loop-name.left c.loop-name.done x
    c.in_default.ensures.none)
    ∙ c.loop-name.invariant x
