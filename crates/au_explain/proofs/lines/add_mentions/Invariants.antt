use Rattle.std.proofs.Common.{◌≡◌, ◌++◌, take}
use Rattle.std.specs.List.{flat_map}
use Rattle.au_explain.specs.Lines.{mention_line}
use Rattle.au_explain.proofs.lines.add_mentions.Given as goal

-- the mentions so far
abbrev pub invariant-loop-one : goal.invariant-loop-one
invariant-loop-one l = l.text.items ≡ l.fn.text.items ++ flat_map mention_line (take l.one-index l.all)
