use Rattle.std.proofs.Common.{◌≡◌, ◌++◌, take}
use Rattle.au_cprint.specs.Programs.{numbered, function_text}
use Rattle.au_cprint.proofs.lines.add_functions.Given as goal

-- the functions so far
abbrev pub invariant-loop-index : goal.invariant-loop-index
invariant-loop-index l = l.text.items ≡ l.fn.text.items ++ numbered function_text 0 (take l.index l.all)
