use Rattle.std.proofs.Common.{◌≡◌, ◌++◌, drop}
use Rattle.au_closing.proofs.keys.add_bytes.Given as goal

-- the key so far and the bytes that are left
abbrev pub invariant-loop-byte : goal.invariant-loop-byte
invariant-loop-byte l = l.key.items ++ drop l.byte-index l.bytes ≡ l.fn.key.items ++ l.bytes
