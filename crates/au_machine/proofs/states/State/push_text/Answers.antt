use Rattle.std.proofs.Common.{ap, sym, ◌∙◌, reverse}
use Rattle.au_low.specs.Machines.{Low, pushes, where_true}
use Rattle.au_machine.specs.States.{machine_of}
use Rattle.std.proofs.Common.{arith, length}
use Rattle.std.proofs.lemmas.Bool.{le-ltb, lt-ltb}
use Rattle.au_effects.specs.Values.{text}
use Rattle.au_cells.proofs.CellLemmas.{text_is}
use Rattle.au_machine.proofs.StateLemmas.{come_to}
use Rattle.au_machine.proofs.states.State.push_text.Goals as goal

pub returns-then-len-number-clause-is : goal.returns-then-len-number-clause-is
returns-then-len-number-clause-is c =
    let s = c.args.self.now in
    let back = reverse s.backs.items in
    ap (λ b. where_true b (pushes (text c.args.number) (machine_of s)))
    (sym (le-ltb c.args.number (length c.args.code.now.texts) (omega
    (arith, c.len.ensures, c.if-len-number.true))))

pub returns-clause-is : goal.returns-clause-is
returns-clause-is c =
    let s = c.args.self.now in
    let back = reverse s.backs.items in
    come_to c.push.result c.push.new.self _ _ (ap
    (λ (v : Low). pushes v (machine_of s)) (text_is c.args.number)
    ∙ ap (λ b. where_true b (pushes (text c.args.number) (machine_of s)))
    (sym (lt-ltb c.args.number (length c.args.code.now.texts) (omega
    (arith, c.len.ensures, c.if-len-number.false))))) c.push.ensures.is
