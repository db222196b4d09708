-- The sinks are new, so they are empty at first; the shelf is one of the call's files, and the source one of
-- its input.
use Rattle.std.proofs.Common.{Some, ap, map, refl}
use Rattle.std.specs.Global.{Global}
use Rattle.std.specs.String.{string_bytes}
use Rattle.au_base.specs.Stored.{file_in, MemoryShelfContents, SinkContents, SourceContents}
use Rattle.austral_cases.proofs.calling.ending_of.Goals as goal

pub returns : goal.returns
returns c = record {
  call = _;
  asked = ap (map (string_bytes {Z = Global})) c.as_slice-words.ensures.value;
  told = ap (λ (s : MemoryShelfContents). Some (file_in s.files)) c.new-shelf.ensures;
  given = ap (λ (s : SourceContents). Some s.left) c.new-input.ensures;
  left = c.austral-status.new.input.left;
  leaves = refl;
  out_empty = ap (λ (s : SinkContents). Some s.written) c.in_ok-out.ensures;
  out_bytes = refl;
  err_empty = ap (λ (s : SinkContents). Some s.written) c.in_ok-err.ensures;
  err_bytes = refl;
  ended = refl;
  promised = c.austral-status.ensures;
}
