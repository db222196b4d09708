-- So far the sink has the front of the bytes, and no call failed.
use Rattle.std.proofs.Common.{◌≡◌, ◌-◌, ◌≤◌, length, take}
use Rattle.au_base.specs.Outside.{Adds}
use Rattle.au_base.proofs.writing.put_all.Given as goal

abbrev pub invariant-loop-done : goal.invariant-loop-done
invariant-loop-done g l = record {
  within : l.done ≤ length l.bytes;
  quiet : g.O.Sink.faults l.sink ≡ g.O.Sink.faults l.fn.sink;
  written : Adds (g.O.Sink.written l.fn.sink) (g.O.Sink.written l.sink) (take l.done l.bytes);
  nothing : length l.bytes ≡ 0 → l.sink ≡ l.fn.sink;
}

abbrev pub decreases-loop-done : goal.decreases-loop-done
decreases-loop-done g l = length l.bytes - l.done
