use Rattle.std.proofs.Common.{◌≡◌, take, map}
use Rattle.au_noting_programs.proofs.copies.copy_all.Given as goal

-- the items copied so far
abbrev pub invariant-loop-one : goal.invariant-loop-one
invariant-loop-one g l = map g.T.Copied.see_made l.copies.items ≡ map g.T.Copied.see (take l.one-index l.one-items)
