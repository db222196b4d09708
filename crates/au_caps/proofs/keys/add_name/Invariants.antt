use Rattle.std.proofs.Common.{◌≡◌, ◌++◌, take}
use Rattle.au_caps.proofs.keys.add_name.Given as goal

-- the bytes so far
abbrev pub invariant-loop-byte : goal.invariant-loop-byte
invariant-loop-byte l = l.key.items ≡ l.fn.key.items ++ take l.byte-index l.name
