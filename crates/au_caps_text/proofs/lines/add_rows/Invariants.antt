use Rattle.std.proofs.Common.{◌≡◌, ◌++◌, take}
use Rattle.std.specs.List.{flat_map}
use Rattle.au_caps_text.specs.Lines.{row_text}
use Rattle.au_caps_text.proofs.lines.add_rows.Given as goal

-- the functions so far
abbrev pub invariant-loop-one : goal.invariant-loop-one
invariant-loop-one l = l.text.items ≡ l.fn.text.items ++ flat_map row_text (take l.one-index l.rows)
