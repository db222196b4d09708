-- The lines of the events of a run of code, one after another.
use Rattle.std.proofs.Common.{◌≡◌, List, [], ◌∷◌, ◌++◌, map, refl, ap}
use Rattle.std.specs.List.{flat_map}
use Rattle.au_low.specs.declared.code.Code.{Code}
use Rattle.au_low.specs.declared.events.Event.{Event}
use Rattle.au_lowered.specs.Maps.{deed_to}
use Rattle.au_stores.specs.Stores.{deed_of}
use Rattle.au_running.specs.Lines.{deed_line, deed_lines, deeds_told, type_text}
use Rattle.au_syntax.specs.Plain.{Bytes}

-- the line of an event
abbrev pub event_line : Code → Event → Bytes
event_line code event = deed_line (deed_to (type_text code) (deed_of event))

-- the lines of events are those of each
pub lines_each : (code : Code) (events : List Event)
    → flat_map (event_line code) events ≡ deed_lines (deeds_told code (map deed_of events))
lines_each code [] = refl
lines_each code (event ∷ rest) = ap (λ more. event_line code event ++ more) (lines_each code rest)
