use Rattle.std.proofs.Common.{◌≡◌, ◌++◌, take}
use Rattle.au_cprint.specs.Programs.{numbered}
use Rattle.au_cprint.specs.Instructions.{instruction_line}
use Rattle.au_cprint.proofs.instructions.add_instructions.Given as goal

-- the instructions so far
abbrev pub invariant-loop-index : goal.invariant-loop-index
invariant-loop-index l = l.text.items ≡ l.fn.text.items ++ numbered instruction_line 0 (take l.index l.all)
