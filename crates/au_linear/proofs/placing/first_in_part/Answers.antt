use Rattle.std.proofs.Common.{sym, ◌∙◌, arith}
use Rattle.au_lives.specs.Places.{partings_at}
use Rattle.au_paths.specs.Standing.{hold_of}
use Rattle.au_linear.proofs.FirstLemmas as firsts
use Rattle.au_linear.proofs.PlaceLemmas.{gathered_list}
use Rattle.au_linear.proofs.placing.first_in_part.Goals as goal

pub returns-in-Some : goal.returns-in-Some
returns-in-Some g c =
    firsts.item_found (gathered_list g.P.Phase c.args.x.now (partings_at c.args.x.now c.args.sort))
    c.args.block.now.statements.items c.loop-index.index c.index-one.result.now c.index-one.ensures
    (omega (arith, c.loop-index-test.true, c.len-index-end.ensures)) (hold_of c.loop-index.held) _
    c.in-Some.at c.loop-index.invariant
    (sym c.in-Some.is ∙ c.gathered.ensures)

pub loop-index-preserved : goal.loop-index-preserved
loop-index-preserved g c =
    firsts.item_passed (gathered_list g.P.Phase c.args.x.now (partings_at c.args.x.now c.args.sort))
    c.args.block.now.statements.items c.loop-index.index c.index-one.result.now c.index-one.ensures
    (omega (arith, c.loop-index-test.true, c.len-index-end.ensures)) (hold_of c.loop-index.held)
    (hold_of c.held_after-held.result) _
    c.loop-index.invariant (sym c.in_default.is ∙ c.gathered.ensures) c.held_after-held.ensures

pub returns : goal.returns
returns g c =
    firsts.items_end (gathered_list g.P.Phase c.args.x.now (partings_at c.args.x.now c.args.sort))
    c.args.block.now.statements.items c.loop-index.index
    (omega (arith, c.loop-index-test.false, c.len-index-end.ensures))
    (hold_of c.loop-index.held) _ c.loop-index.invariant
