use Rattle.std.proofs.Common.{◌≡◌, [], drop, true}
use Rattle.au_graphs.specs.Reached.{adds}
use Rattle.au_type_texts.specs.Same.{same}
use Rattle.au_closed_trees.specs.Occurring.{counts_in, occurring_in_fields}
use Rattle.au_closed_trees.specs.Views.{fields_said}
use Rattle.au_closed_programs.proofs.types.gather_in_parameters.Given as goal

-- what is left adds to what is found what all add to what was found at first
abbrev pub invariant-loop-one : goal.invariant-loop-one
invariant-loop-one l =
    adds same l.found (occurring_in_fields (counts_in true []) (fields_said (drop l.one-index l.one-items)))
    ≡ adds same l.fn.found (occurring_in_fields (counts_in true []) (fields_said l.one-items))
