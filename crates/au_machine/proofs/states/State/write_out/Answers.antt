use Rattle.std.proofs.Common.{ap, ◌∙◌}
use Rattle.au_low.specs.Machines.{Machine, writes, onward, pushed}
use Rattle.au_effects.specs.Calls.{in_line}
use Rattle.au_effects.specs.Values.{unit}
use Rattle.au_machine.proofs.ShippedLemmas.{writes_on}
use Rattle.au_machine.proofs.states.State.write_out.Goals as goal

pub returns-clause-is : goal.returns-clause-is
returns-clause-is c =
    writes_on c.note_bytes.new.self _
    (in_line c.args.line c.args.bytes.now) _ c.in_ok-note_bytes.ensures.bytes c.in_ok-push.ensures.ok
    ∙ ap (λ (m : Machine). writes (in_line c.args.line c.args.bytes.now) (onward
    (pushed unit m))) c.in_ok-note_bytes.ensures.machine
