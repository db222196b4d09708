use Rattle.std.proofs.Common.{◌≡◌, ◌++◌, take}
use Rattle.std.specs.List.{flat_map}
use Rattle.au_cprint.specs.Instructions.{labels}
use Rattle.au_cprint.specs.Words.{further}
use Rattle.au_cprint.proofs.adding.add_labels.Given as goal

-- the labels so far
abbrev pub invariant-loop-one : goal.invariant-loop-one
invariant-loop-one l = l.text.items ≡ l.fn.text.items ++ flat_map further (labels (take l.one-index l.all))
