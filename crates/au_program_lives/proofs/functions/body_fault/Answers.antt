use Rattle.std.proofs.Common.{sym, ap}
use Rattle.std.specs.Option.{option_map}
use Rattle.au_linear.specs.Telling.{sorted}
use Rattle.au_lives.specs.Refusals.{first_refused}
use Rattle.au_lives.specs.Scopes.{scopes_of}
use Rattle.au_lives.proofs.RefusalLemmas.{all_good}
use Rattle.au_promises.specs.Said.{header_said}
use Rattle.au_program_lives.specs.LinearFaults.{fault_told}
use Rattle.au_program_lives.specs.ProgramSaid.{body_said}
use Rattle.au_program_lives.proofs.ToldLemmas.{told_is}
use Rattle.au_program_lives.proofs.functions.body_fault.Goals as goal

pub returns-in-Ok : goal.returns-in-Ok
returns-in-Ok c =
    let h = header_said c.args.signature.now in
    sym (ap (option_map (fault_told h.name.name))
    (all_good (sorted (scopes_of h.parameters (body_said c.args.body.now)) c.args.sorts.now)
    c.in-Ok.ensures))

pub returns-in_ok-function-in-Err-Refused : goal.returns-in_ok-function-in-Err-Refused
returns-in_ok-function-in-Err-Refused c =
    let h = header_said c.args.signature.now in
    let r = first_refused (sorted (scopes_of h.parameters (body_said c.args.body.now)) c.args.sorts.now) in
    told_is c.in_ok-function-in-Err-Refused.function h.name.name c.in-Err-Refused.refused r c.told.result
    c.in_ok-function-in-Err-Refused.ensures c.told.ensures (rw c.in-Err-Refused.field-0-is at c.in-Err-Refused.ensures)
