use Rattle.std.proofs.Common.{map, sym, arith, ◌∙◌}
use Rattle.au_type_texts.specs.Views.{closed_meaning}
use Rattle.au_type_texts.specs.GivenViews.{given_said}
use Rattle.au_closed_trees.specs.TypeNames as spec
use Rattle.au_closed_trees.proofs.GivenLemmas.{arguments_end, region_passed, type_given}
use Rattle.au_closed_trees.proofs.PutLemmas.{at_get}
use Rattle.au_closed_trees.proofs.type_names.given_over.Goals as goal

pub loop-index-preserved-then-is_region : goal.loop-index-preserved-then-is_region
loop-index-preserved-then-is_region c =
    let params = c.args.params.now in
    let args = c.args.args.now in
    let here = at_get params c.loop-index.index c.at-one.result.now c.at-one.ensures in
    region_passed (given_said c.loop-index.made.items)
    (spec.given_over (spec.type_names params) (map closed_meaning args)) params args c.loop-index.index
    c.loop-index.at c.at-one.result.now c.loop-index.invariant here.0 here.1
    (sym c.is_region.ensures ∙ c.if-is_region.true)

pub returns-then-at-args : goal.returns-then-at-args
returns-then-at-args c =
    let params = c.args.params.now in
    let args = c.args.args.now in
    arguments_end (given_said c.loop-index.made.items)
    (spec.given_over (spec.type_names params) (map closed_meaning args)) params args c.loop-index.index
    c.loop-index.at c.loop-index.invariant (omega arith)

pub loop-index-preserved : goal.loop-index-preserved
loop-index-preserved c =
    let params = c.args.params.now in
    let args = c.args.args.now in
    let here = at_get params c.loop-index.index c.at-one.result.now c.at-one.ensures in
    type_given (given_said c.loop-index.made.items)
    (spec.given_over (spec.type_names params) (map closed_meaning args)) params args c.loop-index.index
    c.loop-index.at c.at-one.result.now c.loop-index.invariant here.0 here.1 c.index-args-at.result
    (given_said c.push_copy.new.list.items) (sym c.is_region.ensures ∙ c.if-is_region.false) (omega arith)
    c.index-args-at.is c.in_ok-push_copy.ensures
