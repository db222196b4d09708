use Rattle.std.proofs.Common.{◌≡◌, ◌++◌, take}
use Rattle.std.specs.List.{flat_map}
use Rattle.au_program_lives.specs.Lines.{next_text}
use Rattle.au_program_lives.proofs.lines.add_more.Given as goal

-- the numbers so far
abbrev pub invariant-loop-one : goal.invariant-loop-one
invariant-loop-one l = l.text.items ≡ l.fn.text.items ++ flat_map next_text (take l.one-index l.numbers)
