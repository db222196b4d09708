use Rattle.std.proofs.Common.{drop, ◌+◌, ◌++◌, ◌∷◌, [], sym, ◌∙◌}
use Rattle.au_type_texts.specs.Given.{given_for}
use Rattle.au_type_texts.specs.GivenViews.{given_said}
use Rattle.au_closed_trees.specs.TypeNames.{type_names}
use Rattle.au_closed_trees.proofs.PutLemmas.{at_get, passed, put}
use Rattle.au_closing.specs.Instances as spec
use Rattle.au_closing.proofs.GivenLemmas.{picked_region, picked_type}
use Rattle.au_closing.proofs.rows.picked.Goals as goal

pub loop-index-preserved-then-is_region : goal.loop-index-preserved-then-is_region
loop-index-preserved-then-is_region c =
    let pairs = given_said c.args.pairs.now in
    let params = c.args.params.now in
    let i = c.loop-index.index in
    let one = c.at-one.result.now in
    let here = at_get params i one c.at-one.ensures in
    passed (λ ps. spec.picked pairs (type_names ps)) (given_said c.loop-index.made.items)
    (spec.picked pairs (type_names params)) params i one c.loop-index.invariant here.0 here.1
    (picked_region one (drop (i + 1) params) pairs (sym c.is_region.ensures ∙ c.if-is_region.true))

pub loop-index-preserved : goal.loop-index-preserved
loop-index-preserved c =
    let pairs = given_said c.args.pairs.now in
    let params = c.args.params.now in
    let i = c.loop-index.index in
    let one = c.at-one.result.now in
    let here = at_get params i one c.at-one.ensures in
    let made = given_said c.loop-index.made.items in
    let grows = c.in_ok-push_given.ensures
    ∙ (λ j. made ++ (c.in_ok-copy.ensures j, c.in_ok-of.ensures j) ∷ []) in
    put (λ ps. spec.picked pairs (type_names ps)) made (given_said c.push_given.new.list.items)
    (spec.picked pairs (type_names params)) (one.name, given_for pairs one.name) params i one
    c.loop-index.invariant here.0 here.1
    (picked_type one (drop (i + 1) params) pairs (sym c.is_region.ensures ∙ c.if-is_region.false)) grows
