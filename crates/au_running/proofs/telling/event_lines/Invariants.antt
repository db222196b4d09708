use Rattle.std.proofs.Common.{◌≡◌, take}
use Rattle.std.specs.List.{flat_map}
use Rattle.au_running.proofs.LineLemmas.{event_line}
use Rattle.au_running.proofs.telling.event_lines.Given as goal

-- the lines so far
abbrev pub invariant-loop-event : goal.invariant-loop-event
invariant-loop-event l = l.text.items ≡ flat_map (event_line l.code) (take l.event-index l.events)
