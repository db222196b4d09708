use Rattle.std.proofs.Common.{◌≡◌, ◌++◌, take}
use Rattle.std.specs.List.{flat_map}
use Rattle.au_caps_text.specs.Lines.{entry_text}
use Rattle.au_caps_text.proofs.lines.add_entries.Given as goal

-- the entries so far
abbrev pub invariant-loop-one : goal.invariant-loop-one
invariant-loop-one l = l.text.items ≡ l.fn.text.items ++ flat_map entry_text (take l.one-index l.list)
