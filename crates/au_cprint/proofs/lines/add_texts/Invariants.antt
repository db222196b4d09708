use Rattle.std.proofs.Common.{◌≡◌, ◌++◌, take}
use Rattle.au_cprint.specs.Programs.{numbered, text_line}
use Rattle.au_cprint.proofs.lines.add_texts.Given as goal

-- the texts so far
abbrev pub invariant-loop-index : goal.invariant-loop-index
invariant-loop-index l = l.text.items ≡ l.fn.text.items ++ numbered text_line 0 (take l.index l.all)
