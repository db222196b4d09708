use Rattle.std.proofs.Common.{◌≡◌, ◌++◌, take}
use Rattle.std.specs.List.{flat_map}
use Rattle.au_cprint.specs.Instructions.{numbers}
use Rattle.au_cprint.specs.Words.{further}
use Rattle.au_cprint.proofs.adding.add_numbers.Given as goal

-- the numbers so far
abbrev pub invariant-loop-one : goal.invariant-loop-one
invariant-loop-one l = l.text.items ≡ l.fn.text.items ++ flat_map further (numbers (take l.one-index l.all))
