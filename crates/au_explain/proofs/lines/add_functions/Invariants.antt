use Rattle.std.proofs.Common.{◌≡◌, ◌++◌, take}
use Rattle.std.specs.List.{flat_map}
use Rattle.au_explain.specs.Lines.{function_text}
use Rattle.au_explain.proofs.lines.add_functions.Given as goal

-- the functions so far
abbrev pub invariant-loop-one : goal.invariant-loop-one
invariant-loop-one l = l.text.items ≡ l.fn.text.items ++ flat_map function_text (take l.one-index l.all)
