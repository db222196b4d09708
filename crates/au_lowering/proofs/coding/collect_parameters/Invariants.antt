use Rattle.std.proofs.Common.{◌≡◌, drop, map}
use Rattle.std.specs.Str.{bytes_eq}
use Rattle.au_type_texts.specs.Keys.{key_of}
use Rattle.au_closed_trees.specs.Views.{fields_said}
use Rattle.au_lowering.specs.Closed.{types_of}
use Rattle.au_graphs.specs.Reached.{adds}
use Rattle.au_lowering.proofs.coding.collect_parameters.Given as goal

-- what is left makes of the table what all makes of that at first
abbrev pub invariant-loop-one : goal.invariant-loop-one
invariant-loop-one l =
    adds bytes_eq l.types (map key_of (types_of (fields_said (drop l.one-index l.one-items))))
    ≡ adds bytes_eq l.fn.types (map key_of (types_of (fields_said l.one-items)))
