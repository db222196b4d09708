use Rattle.std.proofs.Common.{◌≡◌, take, map}
use Rattle.au_mapping.proofs.parts.walked_all.Given as goal

-- the items walked so far
abbrev pub invariant-loop-one : goal.invariant-loop-one
invariant-loop-one g l = map g.T.Part.new l.made.items ≡ map g.T.Part.old (take l.one-index l.one-items)
