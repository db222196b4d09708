-- What is told of a function is what is told of the variables of its body.
use Rattle.std.proofs.Common.{◌≡◌, Option, Some, sym, ap, ◌∙◌}
use Rattle.std.specs.Option.{option_map}
use Rattle.au_linear.specs.declared.faults.Refused as code
use Rattle.au_linear.specs.declared.faults.LinearFault.TheVariants as body
use Rattle.au_linear.specs.Telling.{Tells, refusal_of}
use Rattle.au_lives.specs.Refusals.{Refused}
use Rattle.au_program_lives.specs.declared.faults.LinearFault.{LinearFault}
use Rattle.au_program_lives.specs.LinearFaults.{fault_of, fault_told}
use Rattle.au_syntax.specs.Plain.{Bytes}

pub told_is : (function name : Bytes) (f : code.Refused) (r : Option Refused) (e : LinearFault) → function ≡ name →
    e ≡ fault_of function f.variable f.at (refusal_of f.why) → Tells (body.Refused f) r →
    Some e ≡ option_map (fault_told name) r
told_is function name f r e same is h =
    let why = refusal_of f.why in
    let variable = h.0.variable.scope.name in
    ap Some
    (is
    ∙ ap (λ n. fault_of n f.variable f.at why) same
    ∙ ap (λ x. fault_of name x f.at why) (sym h.1.1.0)
    ∙ ap (λ p. fault_of name variable.name p why) (sym h.1.1.1.0)
    ∙ ap (fault_of name variable.name variable.at) (sym h.1.1.1.1))
    ∙ sym (ap (option_map (fault_told name)) h.1.0)
