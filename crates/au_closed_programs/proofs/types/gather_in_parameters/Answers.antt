use Rattle.std.proofs.Common.{[], refl, true}
use Rattle.au_graphs.specs.Reached.{adds}
use Rattle.au_type_texts.specs.Same.{same}
use Rattle.au_closed_trees.specs.Occurring.{counts_in, occurring, occurring_in_fields}
use Rattle.au_closed_trees.specs.Parts.{ClosedField}
use Rattle.au_closed_trees.specs.Views.{field_said, fields_said}
use Rattle.au_closed_programs.proofs.GatheredLemmas.{left_less}
use Rattle.au_closed_programs.proofs.types.gather_in_parameters.Goals as goal

pub loop-one-preserved : goal.loop-one-preserved
loop-one-preserved c =
    let items = c.deref-one-items.result.now in
    let all = occurring_in_fields (counts_in true []) in
    left_less field_said all (λ (f : ClosedField). occurring (counts_in true []) f.of) (λ f rest. refl)
    items c.loop-one.one-index c.one-item.result c.loop-one.found c.gather.new.found
    (adds same c.args.found.now (all (fields_said items)))
    c.loop-one-test.true c.one-item.is c.in_ok-gather.ensures c.loop-one.invariant
