-- The lines of the events are those of each.
use Rattle.std.proofs.Common.{◌≡◌, ◌∙◌, arith}
use Rattle.std.proofs.lemmas.Grind.{common_steps}
use Rattle.std.specs.List.{flat_map}
use Rattle.au_running.proofs.LineLemmas.{event_line, lines_each}
use Rattle.au_running.proofs.telling.event_lines.Goals as goal

pub returns : goal.returns
returns c =
    let each : c.loop-event.text.items ≡ flat_map (event_line c.args.code.now) c.args.events.now =
    grind (arith, common_steps) in
    each ∙ lines_each c.args.code.now c.args.events.now
