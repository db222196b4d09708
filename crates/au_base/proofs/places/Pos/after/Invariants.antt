-- The place is the one behind the bytes so far.
use Rattle.std.proofs.Common.{◌≡◌, ℕ, ◌+◌, ◌≤◌, List, ◌++◌, take}
use Rattle.au_base.specs.Places.{place_after}
use Rattle.au_base.proofs.places.Pos.after.Given as goal

abbrev pub invariant-loop-byte : goal.invariant-loop-byte
invariant-loop-byte l = record {
  file : l.at.file ≡ l.fn.self.file;
  line : l.at.line ≤ l.fn.self.line + l.byte-index;
  column : l.at.column ≤ l.fn.self.column + l.byte-index;
  place : (file : ℕ) (front : List ℕ) → l.fn.self ≡ place_after file front →
      l.at ≡ place_after file (front ++ take l.byte-index l.bytes);
}
