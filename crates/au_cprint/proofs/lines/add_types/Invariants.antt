use Rattle.std.proofs.Common.{◌≡◌, ◌++◌, take}
use Rattle.au_cprint.specs.Programs.{numbered, type_line}
use Rattle.au_cprint.proofs.lines.add_types.Given as goal

-- the types so far
abbrev pub invariant-loop-index : goal.invariant-loop-index
invariant-loop-index l = l.text.items ≡ l.fn.text.items ++ numbered type_line 0 (take l.index l.all)
