use Rattle.std.proofs.Common.{List, ap, sym, ◌∙◌}
use Rattle.au_effects.specs.Numbers.{wrapped_around}
use Rattle.au_low.specs.Machines.{Low, Machine, Next}
use Rattle.au_low.specs.Instructions.{comes, on_pair}
use Rattle.au_machine.specs.States.{machine_of}
use Rattle.au_machine.proofs.StateLemmas.{come_to}
use Rattle.au_runs.proofs.calling.wrap.Goals as goal

pub returns-in-Some-clause-is : goal.returns-in-Some-clause-is
returns-in-Some-clause-is c =
    let go : List Low → Machine → Next = λ values m. comes (on_pair (wrapped_around c.args.op c.args.kind) values) m in
    come_to c.come.result c.come.new.self _ _
    (ap (λ one. comes one (machine_of c.pop_pair.new.state)) c.wrap_around.ensures
    ∙ sym (c.in-Some.ensures.is go)) c.come.ensures.is

pub returns-in-None-clause-is : goal.returns-in-None-clause-is
returns-in-None-clause-is c =
    let go : List Low → Machine → Next = λ values m. comes (on_pair (wrapped_around c.args.op c.args.kind) values) m in
    sym (c.in-None.ensures.is go)
